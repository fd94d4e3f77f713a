-- `Rfc3629`: what is text. `Valid`: how far octets are text, by a computation.
pub mod Rfc3629
pub mod Valid
