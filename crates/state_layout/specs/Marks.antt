-- Marks of the keys that were met: a word for each key, beside the table's.
use Rattle.std.specs.Prelude.{ℕ, zero, suc, Bool, true, false, cond, List, map}
use Rattle.format.specs.Lists.{is_in}

unfoldable pub is_set : ℕ → Bool
is_set zero = false
is_set (suc n) = true

-- the marks of keys of which those seen were met
unfoldable pub marks_of : (seen keys : List (List ℕ)) → List ℕ
marks_of seen keys = map (λ k. cond (is_in k seen) 1 0) keys
