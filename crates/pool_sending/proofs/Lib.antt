pub mod Written
pub mod Promise
