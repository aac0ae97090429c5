pub mod Turning
pub mod Rounds
pub mod Theorems
