-- A run of a list, as a slice takes it.
use mathlib.Core.Path.{◌≡◌, sym}
use mathlib.Core.List.{List}
use Prim.Native.Nat.{ℕ, ◌-◌}
use Rattle.std.proofs.lemmas.Slice.{between_is}
use lib.ListN.{take, drop}
use lib.Seq.{slice}

pub slice-run : (f t : ℕ) (l : List ℕ) → slice f t l ≡ take (t - f) (drop f l)
slice-run f t l = sym (between_is l f t)
