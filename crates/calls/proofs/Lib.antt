-- `Ending`: how a call on a manifest ends, `Tailed` one on a manifest and its tail. `Acceptance`: what acceptance leaves, and what the units come
-- to. `Sides`: what the verdict comes to.
pub mod Ending
pub mod Tailed
pub mod Acceptance
pub mod Sides
