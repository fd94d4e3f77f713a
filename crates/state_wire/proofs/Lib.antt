-- What the tests of the code say of the definitions.
pub mod Fields
mod Numbers
