pub mod Sbox
pub mod Claims
