pub mod Narrow
pub mod Layout
pub mod Loaded
