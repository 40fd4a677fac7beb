pub mod Pools
pub mod Kept
pub mod Claims
pub mod Wrong
pub mod Unstored
pub mod Redone
pub mod Restarts
