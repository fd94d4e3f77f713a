pub mod Filled
pub mod Reads
