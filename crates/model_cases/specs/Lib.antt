pub mod Dispatched
pub mod Further
pub mod Quiet
