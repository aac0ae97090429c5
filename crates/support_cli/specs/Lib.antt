pub mod Streams
pub mod Answers
pub mod Behaving
pub mod Files
