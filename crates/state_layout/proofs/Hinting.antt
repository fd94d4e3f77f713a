-- Where the hints of a table fit.
use Prim.Native.Nat.{ℕ, suc, ◌-◌, ◌≤◌, ◌<◌, ◌^◌}
use native.Mathlib.Omega.{arith}
use mathlib.Core.List.{List}
use lib.ListN.{length}
use Rattle.state_layout.specs.Tables.{Laid, table_start, manifest_of}
use Rattle.state_layout.proofs.Indexed.{room-bytes, start-le, start_next, start_there}

-- a table stands in the index, and its words are fewer than a hint can name
pub table_fits : {s index : List ℕ} → Laid s index → (k : ℕ) → k ≤ 12 → (table_start k (manifest_of s) ≤ table_start (suc k) (manifest_of s)) × (table_start (suc k) (manifest_of s) ≤ length index) × (table_start (suc k) (manifest_of s) < 2 ^ 32 - 1)
table_fits {s} t k h =
    (start_next (manifest_of s) k h, start_there t (suc k) (omega arith), omega (arith, room-bytes t, t.short, start-le (manifest_of s) (suc k) (omega arith)))
