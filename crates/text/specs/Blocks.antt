-- For contracts of private functions only: nothing here needs to be believed.
use Rattle.std.specs.Prelude.{ℕ, ◌+◌, ◌≤◌, ◌<◌, List, ◌∷◌, cond, ◌⊎◌, ◌≡◌, ltb, eqb, length, get_or, Option, MatchOption}
use Rattle.utf8.specs.Valid.{valid_from}

-- a position further on, with the octets between passed as whole characters
pub record Passed (s : List ℕ) (from at : ℕ) : Type 0 where
  pub on : from ≤ at
  pub within : at ≤ length s
  pub same : valid_from s at ≡ valid_from s from

-- a width as the code answers it: none for 0
abbrev pub IsWidth : Option ℕ → ℕ → Type 0
IsWidth o w = MatchOption o (w ≡ 0) (λ k. (0 < k) × (w ≡ k))

-- RFC 3629, section 4: the second octet by the first, from one number to before another
abbrev pub second_from : ℕ → ℕ
second_from a = cond (ltb a 0xc2) 0xc0 (cond (eqb a 0xe0) 0xa0 (cond (eqb a 0xf0) 0x90 0x80))

abbrev pub second_to : ℕ → ℕ
second_to a = cond (eqb a 0xed) 0xa0 (cond (eqb a 0xf4) 0x90 (cond (ltb a 0xf5) 0xc0 0x80))

-- an octet z is right after the octets w, x, y: 10xxxxxx where one of them reaches so far, and else not
pub record Clean (w x y z : ℕ) : Type 0 where
  pub first : y < 0xc0 → x < 0xe0 → w < 0xf0 → (z < 0x80) ⊎ (0xc0 ≤ z)
  pub second : 0xc0 ≤ y → (second_from y ≤ z) × (z < second_to y)
  pub third : 0xe0 ≤ x → (0x80 ≤ z) × (z < 0xc0)
  pub fourth : 0xf0 ≤ w → (0x80 ≤ z) × (z < 0xc0)

-- no character that begins with w, x or y reaches past y
pub record Quiet (w x y : ℕ) : Type 0 where
  pub one : y < 0xc0
  pub two : x < 0xe0
  pub three : w < 0xf0

-- the same at a position of a list, with zeros before its start
abbrev pub pad : List ℕ → List ℕ
pad s = 0 ∷ 0 ∷ 0 ∷ s

abbrev pub CleanAt : List ℕ → ℕ → Type 0
CleanAt s p = Clean (get_or (pad s) p 0) (get_or (pad s) (p + 1) 0) (get_or (pad s) (p + 2) 0) (get_or s p 0)

abbrev pub QuietAt : List ℕ → ℕ → Type 0
QuietAt s p = Quiet (get_or (pad s) p 0) (get_or (pad s) (p + 1) 0) (get_or (pad s) (p + 2) 0)

-- each octet from one position to before another is right
pub record CleanUpTo (s : List ℕ) (from at : ℕ) : Type 0 where
  pub on : from ≤ at
  pub within : at ≤ length s
  pub each : (k : ℕ) → from ≤ k → k < at → CleanAt s k
