pub mod Season
pub mod Capped
pub mod Stream
pub mod Claims
pub mod Cases
