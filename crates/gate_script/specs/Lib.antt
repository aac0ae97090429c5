pub mod Lines
pub mod Kinds
pub mod Sheets
