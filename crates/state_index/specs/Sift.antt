-- Which slot of a table a text belongs to: only the contracts of private functions cite it. All that a sift rests on is that equal texts
-- have the same slot; the numbers below spread the others, and say nothing of what is answered.
use Rattle.std.specs.Prelude.{ℕ, ◌+◌, ◌*◌, ◌-◌, ◌/◌, ◌%◌, List, cond, length, ltb, fold, reverse}
use Rattle.format.specs.Places.{number_at}
use Rattle.state_index.specs.Keys.{text_at}

-- a number of few bytes, rolled from the last one on
unfoldable pub rolled : List ℕ → ℕ
rolled t = fold (λ n b. n % 72057594037927936 * 256 + b) 0 (reverse t)

-- both halves of a number of eight bytes, spread over the upper bits
unfoldable pub spread : ℕ → ℕ
spread n = n % 4294967296 * 1327217885 + n / 4294967296 * 1123411259

-- a number of a text: of its first and its last eight bytes, or of all where there are fewer
unfoldable pub mark : List ℕ → ℕ
mark t = cond (ltb (length t) 8) (spread (rolled t)) (spread (number_at 8 t 0) / 2 + spread (number_at 8 t (length t - 8)))

-- the slot, of m, of the text at a position
unfoldable pub slot_at : (s : List ℕ) (m p : ℕ) → ℕ
slot_at s m p = mark (text_at s p) / 16777216 % m
