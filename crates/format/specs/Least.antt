-- The fewest bytes of a format's values, and formats whose counts are refused by question 7 only where no entries could follow.
use Rattle.std.specs.Prelude.{ℕ, zero, suc, ◌+◌, min, Bool, true, ◌&&◌, leb}
use Rattle.format.specs.Format.{Fmt, done, number, tag, text, tagged, ◌then◌, list}

-- the least of f 0, .., f (k - 1)
abbrev pub fewest : (ℕ → ℕ) → (k : ℕ) → ℕ
fewest f zero = 0
fewest f (suc zero) = f 0
fewest f (suc (suc k)) = min (f (suc k)) (fewest f (suc k))

unfoldable pub least : Fmt → ℕ
least done = 0
least (number w) = w
least (tag k) = 1
least text = 4
least (tagged k f) = 1 + fewest (λ t. least (f t)) k
least (a then b) = least a + least b
least (list w l u k r) = w

-- f 0, .., f (k - 1) all say yes
abbrev pub all_below : (ℕ → Bool) → (k : ℕ) → Bool
all_below f zero = true
all_below f (suc k) = f k && all_below f k

-- no list is tested for more bytes than its entries can have
unfoldable pub honest : Fmt → Bool
honest done = true
honest (number w) = true
honest (tag k) = true
honest text = true
honest (tagged k f) = all_below (λ t. honest (f t)) k
honest (a then b) = honest a && honest b
honest (list w l u k r) = leb l (least k + least r) && (honest k && honest r)
