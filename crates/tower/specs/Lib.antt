pub mod Tower
pub mod Claims
