mod Lines
pub mod Cases
