-- Question 31's test of blocks by the places where they start: only the contract of a private function cites it.
use Rattle.std.specs.Prelude.{ℕ, Bool, List}
use Rattle.std.specs.List.{list_any}
use Rattle.format.specs.Lists.{is_in}
use Rattle.format.specs.Format.{text}
use Rattle.format.specs.Keys.{block_key}
use Rattle.format.specs.Places.{past}
use Rattle.format.specs.Values.{value_at}

-- the class of the block at a place stands behind its key
abbrev pub some_bound_at : (bound : List (List ℕ)) → (s ps : List ℕ) → Bool
some_bound_at bound s ps = list_any (λ p. is_in (value_at text s (past block_key s p)) bound) ps
