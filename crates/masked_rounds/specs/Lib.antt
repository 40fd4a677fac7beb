pub mod Outgoing
pub mod Rounds
