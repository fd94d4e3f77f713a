-- What the contracts of `state_index` cite; `Sift` and `Merge` only those of its private functions.
pub mod Keys
pub mod Sort
pub mod Find
pub mod Words
pub mod Sift
pub mod Merge
