-- `Tail`: the tail as formats, and questions 33 to 38. `Answers`: what a call on a manifest and its tail answers, and what it leaves of the index.
pub mod Tail
pub mod Answers
