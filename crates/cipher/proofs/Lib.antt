pub mod Records
pub mod Promise
