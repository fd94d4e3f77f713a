-- `Choosing`: where parts end that a tag chooses. `Tables`, `Starts`, `Indexed`: what the words of the index are. `Names`: the keys of entries.
-- `Marked`, `Meeting`: marks. `Hinting`: hints. `Classed`: the class of an enum value. `Every`: what `all` comes to.
pub mod Choosing
pub mod Tables
pub mod Starts
pub mod Indexed
pub mod Names
pub mod Marked
pub mod Meeting
pub mod Hinting
pub mod Classed
pub mod Every
