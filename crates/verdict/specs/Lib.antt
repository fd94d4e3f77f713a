-- `Verdict`: the verdict on two manifests as read. `Answers`: what a call on both answers, and what it leaves of the two indexes. `Demand3`: the
-- sentences of demand 3, as statements.
pub mod Verdict
pub mod Answers
pub mod Demand3
