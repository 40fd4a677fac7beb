pub mod Refusal
pub mod Answer
pub mod Part
