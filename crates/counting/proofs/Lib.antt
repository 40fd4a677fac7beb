pub mod Sum
pub mod Over
pub mod Permute
pub mod Shapes
