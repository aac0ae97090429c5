pub mod Messages
pub mod Assignments
pub mod Cases
pub mod Traffic
