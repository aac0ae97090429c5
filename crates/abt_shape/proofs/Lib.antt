mod Each
pub mod Numbering
pub mod Columns
pub mod Pairs
mod Lines
pub mod Words
pub mod Ranges
mod BanWords
mod Overlaid
mod Clauses
pub mod Links
