-- What the contracts of the private functions of `state_slots` cite.
pub mod Walk
