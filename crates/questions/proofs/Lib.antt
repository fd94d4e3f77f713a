-- Laws of the questions. `Sets`: tests of lists. `Kept`: what holds of each of a list. `Chains`: the first that says no. `Cases`, `Rows`: a table of
-- manifests and their answers. `Ports`, `Impossible`: refusals that cannot arise. `Ascends`, `Named`, `Sorted`: keys that ascend, the block that a
-- slot names, words by their offset. `Numbers`: the order of the questions. `Accepted`, `Ends`: what acceptance tells.
pub mod Sets
pub mod Kept
pub mod Chains
pub mod Accepted
pub mod Cases
pub mod Rows
pub mod Ports
pub mod Impossible
pub mod Ascends
pub mod Named
pub mod Sorted
pub mod Numbers
pub mod Ends
