pub mod Abstract
pub mod Puts
