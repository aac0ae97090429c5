mod Coming
pub mod Theorems
