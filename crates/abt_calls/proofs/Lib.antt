mod Making
mod Playing
mod Telling
pub mod Keeping
