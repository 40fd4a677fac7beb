pub mod Points
pub mod Counts
pub mod Claims
