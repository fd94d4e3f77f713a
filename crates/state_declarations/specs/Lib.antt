-- What the contracts of private functions cite; that of `validate_declarations` cites other crates alone.
pub mod Each
