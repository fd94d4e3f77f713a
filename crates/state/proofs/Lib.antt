-- Laws that every crate above cites: `Bytes` of parts and numbers, `Outcome` of answers.
pub mod Bytes
pub mod Outcome
