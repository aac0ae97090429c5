pub mod Buffers
pub mod Bytes
pub mod Faults
pub mod Bans
pub mod Choices
