-- Bytes are numbers below 256 in a list. A part of a list; numbers as bytes.
use Rattle.std.specs.Prelude.{ℕ, zero, suc, ◌+◌, ◌*◌, ◌-◌, ◌/◌, ◌%◌, ◌<◌, List, [], ◌∷◌, get_or, take, drop}

abbrev pub AreBytes : List ℕ → Type 0
AreBytes s = (i : ℕ) → get_or s i 0 < 256

-- the bytes of s from position a up to, not including, b
abbrev pub span : List ℕ → ℕ → ℕ → List ℕ
span s a b = take (b - a) (drop a s)

-- document 01: "All integers on the wire are little-endian". The number that bytes spell
unfoldable pub number_of : List ℕ → ℕ
number_of [] = 0
number_of (b ∷ bs) = b + 256 * number_of bs

-- a number as so many bytes
unfoldable pub bytes_of : (width : ℕ) → ℕ → List ℕ
bytes_of zero n = []
bytes_of (suc w) n = n % 256 ∷ bytes_of w (n / 256)
