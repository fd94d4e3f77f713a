-- `Judging`: what reading and asking come to. `Counting`: the units of an accepted manifest.
pub mod Judging
pub mod Counting
