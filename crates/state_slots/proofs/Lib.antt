-- Laws of the definitions: `Lists` of lists kept and stored, `Agree` of lists of keys, `Answers` of questions
-- that say yes or no, `Parts` of fields where they stand, `Walks` of the walk over blocks and slots, `Joining` of words that join, `Offsets` of
-- these sorted, `Whole` of all questions of a manifest, `WordTotal` of the largest end.
pub mod Lists
pub mod Agree
pub mod Answers
pub mod Parts
pub mod Walks
pub mod Joining
pub mod Offsets
pub mod Whole
pub mod WordTotal
