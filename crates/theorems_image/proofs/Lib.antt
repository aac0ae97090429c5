mod Lines
mod Start
mod Delivery
mod Keeping
pub mod Theorems
