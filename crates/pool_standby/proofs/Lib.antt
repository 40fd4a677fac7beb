pub mod Applied
pub mod Promise
