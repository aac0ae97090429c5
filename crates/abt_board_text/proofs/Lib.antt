mod Spelling
mod Texts
pub mod CommandLines
pub mod Capped
