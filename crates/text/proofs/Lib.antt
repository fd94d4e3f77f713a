-- `Passing`, `Octets` and `Blocks`: what the code passes is text.
pub mod Passing
pub mod Octets
pub mod Blocks
