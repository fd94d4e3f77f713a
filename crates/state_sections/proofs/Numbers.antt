-- Sections by their numbers: numbers below 2 count as 2, those above 12 as 12.
use Prim.Native.Nat.{ℕ, zero, suc, ◌-◌, ◌≤◌, ◌<◌}
use native.Mathlib.Omega.{arith}
use native.Mathlib.Decide.{ℕ_discrete}
use mathlib.Core.Path.{◌≡◌, refl, sym, ap}
use lib.ListN.{get_or-eq_default}
use Rattle.format.specs.Manifest.{enums, input_definitions, lists, numbered}

pub numbered_low : (n : ℕ) → n ≤ 2 → numbered n ≡ enums
unfolding numbered
numbered_low zero h = refl
numbered_low (suc zero) h = refl
numbered_low (suc (suc zero)) h = refl
numbered_low (suc (suc (suc n))) h = absurd (omega arith)

pub numbered_high : (n : ℕ) → 11 < n → numbered n ≡ input_definitions
unfolding numbered
numbered_high n h = go (ℕ_discrete 12 n)
  where
    go : Dec (12 ≡ n) → numbered n ≡ input_definitions
    go (yes e) = ap numbered (sym e)
    go (no d) = get_or-eq_default lists input_definitions {n = n - 2} (omega (arith, d))

pub ruleset numbered_found = (numbered_low, numbered_high)
