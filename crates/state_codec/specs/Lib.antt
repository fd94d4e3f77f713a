-- What the contracts of `state_codec` cite.
pub mod Listed
