pub mod Turning
pub mod Words
