-- The value that bytes at a position spell, by lengths and tags alone, whatever they are. Where a value was read, it is the one that was read
-- (proofs/Values.antt); so code that asks for a field again says what it finds as the field of this value, and validates nothing twice.
use Rattle.std.specs.Prelude.{ℕ, zero, suc, ◌+◌, ◌≤◌, min, ◌≡◌, List, [], ◌∷◌, length, get_or}
use Rattle.state.specs.Bytes.{span}
use Rattle.state.specs.Outcome.{got}
use Rattle.format.specs.Format.{Fmt, El, done, number, tag, text, tagged, ◌then◌, list, read}
use Rattle.format.specs.Places.{number_at, past}

module _ {K R : Type 0} (key : ℕ → K) (rest : ℕ → R) (key_end rest_end : ℕ → ℕ) where
  abbrev pub values_at : (n at : ℕ) → List (K × R)
  values_at zero at = []
  values_at (suc n) at = (key at, rest (key_end at)) ∷ values_at n (rest_end (key_end at))

unfoldable pub value_at : (f : Fmt) → List ℕ → ℕ → El f
value_at done s at = tt
value_at (number w) s at = number_at w s at
value_at (tag k) s at = get_or s at 0
value_at text s at = span s (at + 4) (past text s at)
value_at (tagged k f) s at = (get_or s at 0, value_at (f (get_or s at 0)) s (min (at + 1) (length s)))
value_at (a then b) s at = (value_at a s at, value_at b s (past a s at))
value_at (list w l u k r) s at = values_at (value_at k s) (value_at r s) (past k s) (past r s) (number_at w s at) (min (at + w) (length s))

-- a value was read at a position
pub record Well (limit : ℕ) (f : Fmt) (s : List ℕ) (at : ℕ) : Type 0 where
  pub here : at ≤ length s
  pub reads : read limit f s at ≡ got (value_at f s at) (past f s at)

-- n values were read one after the other
abbrev pub WellEach : (limit : ℕ) (f : Fmt) (s : List ℕ) (n at : ℕ) → Type 0
WellEach limit f s zero at = Unit
WellEach limit f s (suc n) at = Well limit f s at × WellEach limit f s n (past f s at)
