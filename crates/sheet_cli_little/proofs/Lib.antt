pub mod Short
pub mod Words
