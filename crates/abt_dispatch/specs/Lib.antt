pub mod Abstract
pub mod Walking
