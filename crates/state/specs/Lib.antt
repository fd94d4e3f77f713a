pub mod Bytes
pub mod Outcome
