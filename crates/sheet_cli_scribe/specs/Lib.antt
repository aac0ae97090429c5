pub mod Answers
pub mod Reading
