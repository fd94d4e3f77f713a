pub mod Judges
pub mod Accepted
