-- Laws of all formats. `Sound`: what is read is what is written there. `Complete`: what is written is read. `Canonical`: both, of a whole
-- manifest. `Apart`: no value is written as the front of another. `Pairwise`: what the tests of keys say of every two keys. `Bounds`: where
-- what is read ends, whatever the bytes are. `Refusals`: which questions it asks. `Places`: where keys, entries and sections stand that were
-- read, and that the index has words for them. `Sizes`: the bytes that the sections take at least. `Steps` and `Entries`: what code that
-- walks over the bytes cites. `Rows`: document 01's entries that questions 1 to 10 decide. `Examples`: a manifest's fields and places.
pub mod Lists
pub mod Sound
pub mod Complete
pub mod Canonical
pub mod Apart
pub mod Pairwise
pub mod Bounds
pub mod Refusals
pub mod Values
pub mod Places
pub mod Sizes
pub mod Steps
pub mod Entries
mod Rows
mod Examples
