-- No admitted value is written as the front of what another is written as.
use Prim.Native.Nat.{ℕ, ◌<◌}
use native.Mathlib.Omega.{arith}
use mathlib.Core.Path.{◌≡◌, sym, ap, ◌∙◌}
use mathlib.Core.Bool.{true}
use mathlib.Core.List.{List, [], ◌++◌, append-nil}
use lib.ListN.{length, get_or, take, drop, take-append-drop}
use lib.Seq.{take-length}
use Rattle.std.specs.declared.cmp.Ordering.{Ordering}
use Rattle.order.specs.Lex.{agreeing}
use Rattle.order.proofs.Laws.{FirstDifference, both_end, left-ends, right-ends, below, above, agree-front, agree_decides}
use Rattle.format.specs.Format.{Fmt, El, encode}
use Rattle.format.specs.Admits.{Holds}
use Rattle.format.specs.Least.{honest}
use Rattle.format.proofs.Complete.{unambiguous}

-- x and y are alike up to a position inside both, and differ there
pub record Apart (x y : List ℕ) : Type 0 where
  pub at : ℕ
  pub in-first : at < length x
  pub in-second : at < length y
  pub before : take at x ≡ take at y
  pub there : get_or x at 0 ≡ get_or y at 0 → ⊥

-- one that ends where the two still agree is a front of the other
front : (x y : List ℕ) (n : ℕ) → n ≡ length x → take n x ≡ take n y → x ++ drop n y ≡ y
front x y n e t = ap (λ (l : List ℕ). l ++ drop n y) (sym (take-length x) ∙ ap (λ (k : ℕ). take k x) (sym e) ∙ t) ∙ take-append-drop n y

-- two admitted values of an honest format that differ are written differently at a position inside both
pub written_apart : (limit : ℕ) (f : Fmt) → honest f ≡ true → (v w : El f) → Holds limit f v → Holds limit f w → (v ≡ w → ⊥) → Apart (encode f v) (encode f w)
written_apart limit f t v w hv hw ne = go (agree_decides x y)
  where
    x : List ℕ
    x = encode f v

    y : List ℕ
    y = encode f w

    n : ℕ
    n = agreeing x y

    first_ends : n ≡ length x → Apart x y
    first_ends e = absurd (ne (unambiguous limit f t v w hv hw _ [] (front x y n e (agree-front x y) ∙ sym (append-nil y))).0)

    second-ends : n ≡ length y → Apart x y
    second-ends e = absurd (ne (unambiguous limit f t v w hv hw [] _ (append-nil x ∙ sym (front y x n e (sym (agree-front x y))))).0)

    inside : n < length x → n < length y → (get_or x n 0 ≡ get_or y n 0 → ⊥) → Apart x y
    inside p q d = record { at = n; in-first = p; in-second = q; before = agree-front x y; there = d }

    go : {o : Ordering} → FirstDifference x y n o → Apart x y
    go (both_end p q) = first_ends p
    go (left-ends p q) = first_ends p
    go (right-ends p q) = second-ends q
    go (below p q h) = inside p q λ e. absurd (omega arith)
    go (above p q h) = inside p q λ e. absurd (omega arith)
