pub mod Lines
pub mod Working
pub mod Tasks
pub mod Refused
pub mod Answers
