-- `Steps`: of one character. `Theorems`: the computation gives the longest text. `Examples`: rows of RFC 3629.
pub mod Steps
pub mod Theorems
mod Examples
