-- `Telling`: what is asked of entries one by one. `Meeting`: what is asked of them together. `Valued`: what stands at positions is what the
-- values that were read say. `Copied`: names that are copied before they are told apart. `Answered`: the questions, one after another.
pub mod Telling
pub mod Meeting
pub mod Valued
pub mod Copied
pub mod Answered
