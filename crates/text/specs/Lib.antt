-- What the contracts of private functions of `text` cite. What is text: utf8.
pub mod Blocks
