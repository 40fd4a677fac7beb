pub mod Bytes
pub mod Columns
