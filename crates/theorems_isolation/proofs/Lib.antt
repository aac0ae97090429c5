pub mod Acting
pub mod Room
pub mod Numbers
pub mod Answering
pub mod Theorems
pub mod Nights
