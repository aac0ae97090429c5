pub mod Calls
pub mod Marking
pub mod Deeds
pub mod Figures
pub mod Claims
