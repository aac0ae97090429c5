pub mod Abstract
pub mod Promised
pub mod Pieces
