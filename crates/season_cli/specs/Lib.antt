pub mod Answers
pub mod Behaving
pub mod Pieces
