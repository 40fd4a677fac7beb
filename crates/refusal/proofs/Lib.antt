pub mod First
pub mod Lengths
pub mod Unique
pub mod Part
