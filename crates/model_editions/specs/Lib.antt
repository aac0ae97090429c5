pub mod Bans
pub mod Gaps
pub mod Turning
pub mod Cases
