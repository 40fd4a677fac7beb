pub mod Good
pub mod Edges
pub mod Laws
