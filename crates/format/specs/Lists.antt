-- Byte strings in lists.
use Rattle.std.specs.Ordering.{is_lt, is_eq}
use Rattle.std.specs.Prelude.{ℕ, List, [], ◌∷◌, Bool, true, false, not, ◌&&◌, ◌||◌}
use Rattle.order.specs.Lex.{lex_compare}

-- x comes before y
abbrev pub before : List ℕ → List ℕ → Bool
before x y = is_lt (lex_compare x y)

abbrev pub same : List ℕ → List ℕ → Bool
same x y = is_eq (lex_compare x y)

unfoldable pub is_in : List ℕ → List (List ℕ) → Bool
is_in k [] = false
is_in k (l ∷ ls) = same k l || is_in k ls

unfoldable pub all_different : List (List ℕ) → Bool
all_different [] = true
all_different (k ∷ ks) = not (is_in k ks) && all_different ks
