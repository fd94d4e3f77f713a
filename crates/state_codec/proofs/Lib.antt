-- `Words`: the words and the flags. `Valued`: questions 34 to 36 of one value. `Asking`: 33 to 36 of all. `Reading`: the whole tail.
pub mod Words
pub mod Valued
pub mod Asking
pub mod Reading
