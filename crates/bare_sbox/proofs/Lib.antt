pub mod Turned
pub mod Claims
