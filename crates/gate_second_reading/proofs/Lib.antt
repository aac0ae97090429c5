pub mod Walks
pub mod Turns
pub mod Asking
