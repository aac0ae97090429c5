pub mod Following
pub mod Shaping
pub mod Answering
pub mod Picking
