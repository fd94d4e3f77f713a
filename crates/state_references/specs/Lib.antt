-- What the contracts of the private functions of `state_references` cite; the public ones cite only `questions` and `state_layout`.
pub mod Known
pub mod Rooms
