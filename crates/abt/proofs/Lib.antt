pub mod Delivering
pub mod Promises
