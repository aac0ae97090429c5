pub mod Items
pub mod Claims
