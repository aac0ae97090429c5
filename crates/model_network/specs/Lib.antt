pub mod Lines
pub mod Network
pub mod Shape
pub mod Delivery
pub mod Run
pub mod Nights
