pub mod Saying
pub mod Sets
pub mod Walks
pub mod Reasons
pub mod Waiting
pub mod Blocks
