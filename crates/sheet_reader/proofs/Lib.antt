pub mod Walking
pub mod Outcomes
