pub mod Draws
pub mod Lines
pub mod Listing
