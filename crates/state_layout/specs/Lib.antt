-- What the contracts of `state_layout` cite, and of what is built on it.
pub mod Tables
pub mod Marks
pub mod Keys
pub mod Laid
pub mod Lent
