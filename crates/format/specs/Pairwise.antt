-- Byte strings in a list, every two of them, by their places: independent of how the reader tests them.
use Rattle.std.specs.Prelude.{ℕ, ◌<◌, ◌≡◌, true, List, [], length, get_or}
use Rattle.format.specs.Lists.{before}

-- an earlier one comes before a later one
abbrev pub Ascending : List (List ℕ) → Type 0
Ascending ks = (i j : ℕ) → i < j → j < length ks → before (get_or ks i []) (get_or ks j []) ≡ true

-- an earlier one is not a later one
abbrev pub Different : List (List ℕ) → Type 0
Different ks = (i j : ℕ) → i < j → j < length ks → get_or ks i [] ≡ get_or ks j [] → ⊥
