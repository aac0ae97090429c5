pub mod Agents
pub mod Rings
mod Passing
pub mod Whole
pub mod Zeros
mod Asking
pub mod Asked
