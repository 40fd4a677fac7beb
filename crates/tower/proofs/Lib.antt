pub mod Split
pub mod Level
pub mod Basis
pub mod Claims
pub mod Leaf
