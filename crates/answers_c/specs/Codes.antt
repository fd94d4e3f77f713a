-- The numbers that stand for answers in the C interface: include/handover.h has them for its users.
use Rattle.std.specs.Prelude.{ℕ, List, ◌∷◌, ◌++◌, replicate, Result, Ok, Err}
use Rattle.state.specs.declared.Starts.{Starts}
use Rattle.state.specs.declared.Refusal.{Refusal}
use Rattle.state.specs.declared.Units.{Units}
use Rattle.state.specs.declared.Difference.{Difference}
use Rattle.state.specs.declared.SideRefusal.{SideRefusal}
use Rattle.state.specs.declared.SideRefusal.TheVariants.{Snapshot, Target}

-- the result of a call on a manifest: the number of the question that was answered no, 0 where none was
abbrev pub decoded_code : Result Starts (Refusal ℕ) → ℕ
decoded_code (Ok starts) = 0
decoded_code (Err d) = d.question.0

-- the sixteen words of `answer`: the twelve starts, or the offset; the others are 0
abbrev pub decoded_words : Result Starts (Refusal ℕ) → List ℕ
decoded_words (Ok starts) = starts.at ++ replicate 4 0
decoded_words (Err d) = d.at ∷ replicate 15 0

-- a call for units: 0, or the question's number, which may be 39
abbrev pub units_code : Result Units (Refusal ℕ) → ℕ
units_code (Ok u) = 0
units_code (Err d) = d.question.0

-- the state words and the units, or the offset; the others are 0
abbrev pub units_words : Result Units (Refusal ℕ) → List ℕ
units_words (Ok u) = u.words ∷ u.units ∷ replicate 14 0
units_words (Err d) = d.at ∷ replicate 15 0

-- a call on two manifests: 0 where they were compared, or the number of the question that one of them was refused for
abbrev pub verdict_code : Result (Result Unit Difference) SideRefusal → ℕ
verdict_code (Ok v) = 0
verdict_code (Err (Snapshot d)) = d.question.0
verdict_code (Err (Target d)) = d.question.0

-- section (0 where nothing differs), part, entry place and inner place; or the offset, and which side it is of: 0 the snapshot's, 1 the
-- target's; the others are 0
abbrev pub verdict_words : Result (Result Unit Difference) SideRefusal → List ℕ
verdict_words (Ok (Ok u)) = replicate 16 0
verdict_words (Ok (Err d)) = d.section ∷ d.part ∷ d.entry ∷ d.inner ∷ replicate 12 0
verdict_words (Err (Snapshot d)) = d.at ∷ 0 ∷ replicate 14 0
verdict_words (Err (Target d)) = d.at ∷ 1 ∷ replicate 14 0
