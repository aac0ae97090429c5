pub mod Claims
pub mod Nights
