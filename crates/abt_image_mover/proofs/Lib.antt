mod Parts
mod Lengths
mod Images
mod Answers
pub mod Cut
