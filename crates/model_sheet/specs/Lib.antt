pub mod Problem
pub mod Row
pub mod Sheet
pub mod Chain
pub mod Writing
pub mod Cases
