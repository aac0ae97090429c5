pub mod Numbers
pub mod Abstract
pub mod Histories
pub mod Images
pub mod Picks
