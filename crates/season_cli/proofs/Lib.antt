pub mod Cutting
pub mod Counting
pub mod Reading
pub mod Words
