-- Names copied into a room, for `texts_differ`: those below the i-th are there.
use Prim.Native.Nat.{ℕ, suc, ◌+◌, ◌≤◌, ◌<◌}
use native.Mathlib.Omega.{arith}
use native.Mathlib.Numerals.{add-one}
use mathlib.Core.Path.{◌≡◌, refl, sym, ap, ◌∙◌}
use mathlib.Core.List.{List, [], ◌∷◌, ◌++◌}
use lib.ListN.{length, get_or, take, set, length-set}
use lib.Seq.{take-suc-set, take-set-le}
use Rattle.std.proofs.lemmas.List.{set-get_or}

pub record Copied (names old new : List ℕ) (i : ℕ) : Type 0 where
  pub long : length new ≡ length old
  pub is : take i new ≡ take i names

pub copied_start : (names old : List ℕ) → Copied names old old 0
copied_start names old = record { long = refl; is = refl }

module _ {names old new : List ℕ} {i : ℕ} (g : Copied names old new i) where
  pub copied-next : length names + length names ≤ length old → i < length names
      → {x : ℕ} → x ≡ get_or names i 0 → {k : ℕ} → k ≡ length names + i → Copied names old (set (set new i x) k 0) (i + 1)
  copied-next room h {x} e {k} at = record {
    long = length-set (set new i x) k 0 ∙ length-set new i x ∙ g.long;
    is =
        rw (add-one i)
        (take-set-le (suc i) (set new i x) k 0 (omega arith)
        ∙ take-suc-set new i x (omega (arith, g.long))
        ∙ ap (λ l. l ++ (x ∷ [])) g.is
        ∙ ap (λ y. take i names ++ (y ∷ [])) e
        ∙ sym (take-suc-set names i (get_or names i 0) h)
        ∙ ap (take (suc i)) (set-get_or names i 0));
  }
