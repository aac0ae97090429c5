pub mod Searching
mod Numerals
mod Places
pub mod Pieces
mod Sayings
