-- `Demand3`: demand 3 of the calls' answers; it is the file to open first. `Gives`: what is so of every difference. `Faithful`: what the comparison
-- of a section finds. `Sections`: which section the verdict names. `Once`: slots that join hold each word once. `Words`: so do those of a manifest
-- that is accepted. `Reached`: before the section named all is the same. `Unreachable`: parts that are never named. `Cases`, `Rows`: a table of
-- pairs and their verdicts.
pub mod Gives
pub mod Faithful
pub mod Sections
pub mod Once
pub mod Words
pub mod Reached
pub mod Unreachable
pub mod Demand3
pub mod Cases
pub mod Rows
