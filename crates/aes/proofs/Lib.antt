pub mod Front
pub mod Chosen
pub mod Rows
