pub mod Bytes
pub mod Image
pub mod Reading
pub mod Plain
pub mod Claims
pub mod Cases
