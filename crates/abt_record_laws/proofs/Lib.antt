pub mod Rejecting
pub mod Rings
pub mod Changes
pub mod Posting
pub mod Words
pub mod Finding
pub mod Stepping
pub mod Handing
