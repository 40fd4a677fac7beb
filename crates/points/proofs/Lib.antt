pub mod Inversion
pub mod Total
pub mod Stage
pub mod Parts
pub mod Counts
pub mod Claims
