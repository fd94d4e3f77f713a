-- Laws of the tail. `Cases`, `Rows`: a table of manifests and tails with their answers. `Tells`: what its reading tells, and what the acceptance of a
-- snapshot does. `Among`: keys that are among others. `Unreachable`: refusals that cannot arise. `Accepted`: what holds of an accepted snapshot.
pub mod Cases
pub mod Rows
pub mod Tells
pub mod Among
pub mod Unreachable
pub mod Accepted
