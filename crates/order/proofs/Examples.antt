-- Examples of the order.
use Prim.Native.Nat.{ℕ}
use mathlib.Core.List.{List, [], ◌∷◌, ◌++◌, append-nil}
use mathlib.Core.Path.{◌≡◌, refl}
use Rattle.std.specs.declared.cmp.Ordering.TheVariants.{Less}
use Rattle.order.specs.Lex.{lex_compare}
use Rattle.order.proofs.Graph.{shorter, only, behind}

-- document 01, state_manifest_codec.rs: "aa" before "b"
aa-before-b : lex_compare (97 ∷ 97 ∷ []) (98 ∷ []) ≡ Less
unfolding lex_compare
aa-before-b = refl

-- a front of a list comes before it
front-first : (a : List ℕ) (y : ℕ) (ys : List ℕ) → lex_compare a (a ++ y ∷ ys) ≡ Less
front-first a y ys = (only (rw append-nil at (behind a (shorter {y = y} {ys = ys})))).0
