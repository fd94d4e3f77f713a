mod Ascending
mod Filling
mod Keys
pub mod Laid
mod Members
mod Numbers
pub mod Reading
mod Walking
