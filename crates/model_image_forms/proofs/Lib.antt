pub mod Places
pub mod Packing
pub mod Slots
pub mod Forms
pub mod Bounds
pub mod Buffers
pub mod Theorems
pub mod Cases
