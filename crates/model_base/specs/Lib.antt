pub mod Finite
pub mod Bits
pub mod Lists
pub mod Lent
pub mod Same
pub mod Decimal
pub mod Numerals
pub mod Sets
