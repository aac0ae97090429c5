pub mod Entries
pub mod Claims
