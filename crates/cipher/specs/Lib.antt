pub mod Block
pub mod Inner
