pub mod Over
pub mod Within
pub mod Puts
pub mod Appending
mod Digits
pub mod Numbers
