pub mod Conflicts
pub mod Choosing
