pub mod Whole
pub mod Form
