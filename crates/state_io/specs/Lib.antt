-- What the contracts of the private functions of `state_io` cite.
pub mod Paths
