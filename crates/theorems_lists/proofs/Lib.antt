mod Joining
mod Coming
pub mod Theorems
