-- The word total, the units, and the answer of a call for them.
use Rattle.std.specs.Prelude.{Result, Ok, Err, ℕ, ◌+◌, ◌*◌, ◌-◌, ◌^◌, max, List, [], ◌∷◌, cond, length, replicate, leb}
use Rattle.state.specs.Outcome.{Outcome, got, refused, refusal, refuses}
use Rattle.state.specs.declared.Units.{Units}
use Rattle.state.specs.declared.Refusal.{Refusal}
use Rattle.format.specs.Format.{El}
use Rattle.format.specs.Manifest.{state_slots, manifest}
use Rattle.format.specs.Fields.{Entry, connectors_of, slots_of, slot_offset, slot_length}
use Rattle.questions.specs.Answers.{outside, index_after}

-- "The word total is the largest slot end, 0 without slots"
unfoldable pub word_total : List (Entry state_slots) → ℕ
word_total [] = 0
word_total (e ∷ es) = max (slot_offset e + slot_length e) (word_total es)

-- "Units (added): 4 × state words + number of connectors"
unfoldable pub units_of : El manifest → ℕ
units_of m = 4 * word_total (slots_of m) + length (connectors_of m)

-- what a manifest costs
abbrev pub units_in : El manifest → Units
units_in m = record { words = word_total (slots_of m); units = units_of m }

-- "Above 2^64 − 1: 39, offset 0, only from a call for units, after acceptance"
unfoldable pub units_answer : (base : ℕ) → Outcome (El manifest) → Result Units (Refusal ℕ)
units_answer base (got m n) = cond (leb (units_of m) (2 ^ 64 - 1)) (Ok (units_in m)) (refuses 39 0)
units_answer base (refused q p) = Err (outside base (refusal q p))

-- after 39, as after any refusal but 2, all words are 0
unfoldable pub units_index : (s index : List ℕ) → Outcome (El manifest) → List ℕ
units_index s index (got m n) = cond (leb (units_of m) (2 ^ 64 - 1)) (index_after s index (got m n)) (replicate (length index) 0)
units_index s index (refused q p) = index_after s index (refused q p)
