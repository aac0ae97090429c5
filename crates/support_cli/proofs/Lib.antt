pub mod Putting
pub mod Answering
pub mod Handing
pub mod Behaving
pub mod Files
