-- `Padded`: names in rows, and how a name is searched among them.
pub mod Padded
pub mod Bounding
