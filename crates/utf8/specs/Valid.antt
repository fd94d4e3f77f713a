-- How far a list of octets is UTF-8, by a computation. proofs/Theorems.antt shows that it is the length of the longest front that is a text.
use Rattle.std.specs.Prelude.{ℕ, zero, suc, ◌+◌, ◌*◌, ◌-◌, ◌/◌, ◌%◌, List, [], ◌∷◌, cond, ◌&&◌, ltb, eqb, drop}
use Rattle.utf8.specs.Rfc3629.{scalar, row, mark}

-- how many octets the first octet announces: 0 where it begins no character
abbrev pub lead : ℕ → ℕ
lead a = cond (ltb a 0x80) 1 (cond (ltb a 0xc0) 0 (cond (ltb a 0xe0) 2 (cond (ltb a 0xf0) 3 (cond (ltb a 0xf8) 4 0))))

-- v is a scalar value and no shorter form has it: the width of a character of 1 + k octets, else 0
abbrev pub fits : ℕ → ℕ → ℕ
fits k v = cond (eqb (row v) k && scalar v) (suc k) 0

-- the same with the number's last j octets yet to be read, each 10xxxxxx
abbrev pub whole : ℕ → ℕ → ℕ → List ℕ → ℕ
whole k zero v s = fits k v
whole k (suc j) v [] = 0
whole k (suc j) v (c ∷ s) = cond (eqb (c / 64) 2) (whole k j (v * 64 + c % 64) s) 0

-- a first octet that announces so many in all
abbrev pub opened : ℕ → ℕ → List ℕ → ℕ
opened zero a s = 0
opened (suc k) a s = whole k k (a - mark k) s

-- the width of the character that the list begins with, 0 where it begins with none
abbrev pub char_width : List ℕ → ℕ
char_width [] = 0
char_width (a ∷ s) = opened (lead a) a s

-- with k octets of a character yet to pass: those, and then character by character
abbrev pub up_to : ℕ → List ℕ → ℕ
up_to k [] = 0
up_to (suc k) (b ∷ bs) = suc (up_to k bs)
up_to zero (b ∷ bs) = elim (char_width (b ∷ bs)) [ zero ↦ 0 | suc k ↦ suc (up_to k bs) ]

-- document 01, question 5: where the valid prefix ends
unfoldable pub valid_up_to : List ℕ → ℕ
valid_up_to bs = up_to 0 bs

-- the same, with the first `at` octets passed as whole characters
abbrev pub valid_from : List ℕ → ℕ → ℕ
valid_from bs at = at + valid_up_to (drop at bs)
