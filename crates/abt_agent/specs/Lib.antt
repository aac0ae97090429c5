pub mod Abstract
pub mod Posting
pub mod Entries
pub mod Parts
