pub mod Outcomes
pub mod Abstract
pub mod Histories
