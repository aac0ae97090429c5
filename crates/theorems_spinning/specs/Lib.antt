pub mod Spinning
pub mod Misread
pub mod Claims
