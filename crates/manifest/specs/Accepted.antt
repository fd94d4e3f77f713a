-- What acceptance leaves of the index, for the count of units.
use Rattle.std.specs.Prelude.{ℕ, ◌≡◌, true, List}
use Rattle.format.specs.Fields.{slots_of}
use Rattle.questions.specs.Sets.{all}
use Rattle.questions.specs.Slots.{end_fits}
use Rattle.state_layout.specs.Tables.{manifest_of, Started}

-- the starts are the first words, and no slot ends above 2^64 − 1
pub record Accepted (s index : List ℕ) : Type 0 where
  pub started : Started s index
  pub fits : all end_fits (slots_of (manifest_of s)) ≡ true
