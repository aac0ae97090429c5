pub mod Little
pub mod Putting
pub mod Claims
pub mod Cases
