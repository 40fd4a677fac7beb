pub mod Parts
pub mod Substitution
pub mod Whole
