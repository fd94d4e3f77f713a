pub mod Tables
pub mod Layouts
pub mod Readers
