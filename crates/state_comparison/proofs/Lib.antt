-- `Comparing`: two values side by side, and two lists walked together. `Fields`: two blocks, field by field. `Verdicts`: the sections one after another.
pub mod Comparing
pub mod Fields
pub mod Verdicts
