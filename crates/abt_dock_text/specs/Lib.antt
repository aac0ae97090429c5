pub mod Settling
pub mod Text
pub mod Promised
