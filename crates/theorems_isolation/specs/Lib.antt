pub mod Tenants
pub mod Claims
pub mod Nights
