-- What the readers promise of the lent index while they fill it.
use Rattle.state.specs.Outcome.{Stepped}
use Rattle.std.specs.Prelude.{ℕ, ◌+◌, ◌*◌, ◌≤◌, ◌≡◌, Option, Some, None, List, [], ◌∷◌, length, take, Ok}
use Rattle.state_wire.specs.Fields.{max_snapshot_bytes}

-- the key before, if there is one
abbrev pub prior : Option (List ℕ) → List (List ℕ)
prior None = []
prior (Some k) = k ∷ []

-- there are words for what is left of the bytes: half as many, and more than three
pub record Space (s words : List ℕ) (at : ℕ) : Type 0 where
  pub short : length s ≤ max_snapshot_bytes
  pub here : at ≤ length s
  pub there : 7 + length s ≤ at + 2 * length words

-- the answer is a definition's; and where it goes on, the first words are ps
pub record Lists (r answer : Stepped) (ps words : List ℕ) : Type 0 where
  pub is : r ≡ answer
  pub front : (n : ℕ) → r ≡ Ok n → take (length ps) words ≡ ps
