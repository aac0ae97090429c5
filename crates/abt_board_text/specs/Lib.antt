pub mod Reading
pub mod Options
pub mod Calling
pub mod Text
pub mod Putting
