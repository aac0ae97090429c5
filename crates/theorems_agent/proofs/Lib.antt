mod Posts
mod Telling
mod LeftSides
mod Walk
mod Reasons
mod Links
mod Choosing
mod Info
mod Back
mod ChoosingFits
mod Fits
mod Plain
pub mod Begin
mod Counted
pub mod Agent
pub mod Answered
pub mod Uncounted
