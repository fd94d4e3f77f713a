-- What the reader of the sections promises of the lent index while it fills it.
use Rattle.state.specs.Outcome.{Stepped}
use Rattle.std.specs.Prelude.{ℕ, ◌+◌, ◌*◌, ◌≤◌, ◌≡◌, List, ◌++◌, length, take, Ok}
use Rattle.state_wire.specs.Fields.{max_snapshot_bytes}

-- there are words for what is left of the bytes: those in use are at most 12 and half as many as the bytes read
pub record Room (s index : List ℕ) (at w : ℕ) : Type 0 where
  pub short : length s ≤ max_snapshot_bytes
  pub here : at ≤ length s
  pub used : 2 * w ≤ at + 24
  pub there : 31 + length s ≤ 2 * length index

-- the answer is a definition's; and where it goes on, the words from w on are ps, those before as they were
pub record Fills (r answer : Stepped) (ps : List ℕ) (w : ℕ) (old new : List ℕ) : Type 0 where
  pub is : r ≡ answer
  pub long : length new ≡ length old
  pub front : (n : ℕ) → r ≡ Ok n → take (w + length ps) new ≡ take w old ++ ps
