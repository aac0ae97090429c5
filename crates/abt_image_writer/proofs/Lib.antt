pub mod Words
pub mod Records
pub mod BanTable
pub mod Numbered
pub mod Chains
pub mod Stored
