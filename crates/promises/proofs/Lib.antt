pub mod Beside
pub mod Nights
