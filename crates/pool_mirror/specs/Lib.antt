pub mod Mirror
pub mod Claims
pub mod Wrong
pub mod Restarts
pub mod Unstored
