pub mod Dispatch
pub mod Claims
pub mod Nights
