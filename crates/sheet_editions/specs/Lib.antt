pub mod Rows
pub mod Pairs
