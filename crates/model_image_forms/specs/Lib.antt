pub mod Places
pub mod Packing
pub mod Forms
pub mod Reading
pub mod Writing
pub mod Moving
pub mod Claims
pub mod Cases
