pub mod Cut
mod Settled
mod Plans
mod Lines
mod Printed
mod Decimals
mod Reading
pub mod Promises
