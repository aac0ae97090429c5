pub mod Tests
pub mod Headers
mod Table
mod Signed
mod Pairs
mod Bands
pub mod Records
