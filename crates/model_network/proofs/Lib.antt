pub mod Rounds
pub mod Nights
