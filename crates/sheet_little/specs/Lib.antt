pub mod Abstract
pub mod Rows
