pub mod Steps
pub mod Inner
