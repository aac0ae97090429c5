pub mod Abstract
pub mod Empty
pub mod Looking
pub mod Asked
