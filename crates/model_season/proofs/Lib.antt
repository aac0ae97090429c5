pub mod Order
pub mod Outcomes
pub mod Bounds
pub mod Capped
pub mod Streams
pub mod Theorems
pub mod Cases
