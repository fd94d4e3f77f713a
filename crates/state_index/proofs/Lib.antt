-- Laws of the definitions: `Order` of keys, `Lists` of a run, `Sorting` of what the library sorts and of different keys, `Merging`
-- of a merge, `Texts` of texts and numbers, `Slots` and `Sieve` of a sift, `Sections` of keys, `Search` of a search.
pub mod Order
pub mod Lists
pub mod Sorting
pub mod Merging
pub mod Texts
pub mod Slots
pub mod Sieve
pub mod Sections
pub mod Search
