pub mod Text
pub mod Cases
