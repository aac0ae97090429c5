mod Windows
mod Digits
mod Masks
mod Records
mod Filled
mod Chains
mod Tables
mod Messages
mod Rows
mod Laying
mod Placing
mod Candidates
mod Narrowing
pub mod Owned
pub mod Plainness
pub mod Written
mod Loading
pub mod Cut
pub mod Comparing
