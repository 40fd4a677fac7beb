pub mod Pair
pub mod Claims
pub mod Restarts
