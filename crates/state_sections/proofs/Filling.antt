-- A table as it is filled, entry by entry.
use Prim.Native.Nat.{ℕ, suc, ◌+◌, ◌*◌, ◌-◌, ◌≤◌, ◌<◌}
use native.Mathlib.Omega.{arith}
use native.Mathlib.Numerals.{add-one}
use mathlib.Core.Path.{◌≡◌, refl, sym, ap, subst, ◌∙◌}
use mathlib.Core.List.{List, ◌∷◌, ◌++◌, append-nil}
use lib.ListN.{length, take, set}
use lib.Seq.{take-suc-set, append_snoc}
use Rattle.std.specs.Prelude.{Ok, Err}
use Rattle.state.specs.declared.Refusal.{Refusal}
use Rattle.state.specs.Outcome.{Stepped}
use Rattle.format.specs.Format.{Rule, Fmt, ◌then◌, scan}
use Rattle.format.proofs.Entries.{Going}
use Rattle.format.proofs.Steps.{then-on}
use Rattle.format.proofs.Places.{starts-length}
use Rattle.format.specs.Places.{end_of, end_at, starts}
use Rattle.state_sections.specs.Tables.{Lists}

-- of the n entries that start from m on, the words up to w hold those before p; `left` are to come
pub record Filling (limit : ℕ) (f : Fmt) (s : List ℕ) (n m left p w : ℕ) (words : List ℕ) : Type 0 where
  pub filled : w + left ≡ n
  pub used : 2 * w + m ≤ p
  pub front : take w words ++ starts limit f s left p ≡ starts limit f s n m

pub filling-start : (limit : ℕ) (f : Fmt) (s : List ℕ) (n m : ℕ) (words : List ℕ) → Filling limit f s n m n m 0 words
filling-start limit f s n m words = record { filled = omega arith; used = omega arith; front = refl }

module _ {limit : ℕ} {f : Fmt} {s : List ℕ} {n m left p w : ℕ} {words : List ℕ} (g : Filling limit f s n m left p w words) where
  -- an entry more: what was done to the words from w on does not matter
  pub filling-on : 0 < left → (next : List ℕ) → take w next ≡ take w words → w < length next → {e x : ℕ} → e ≡ end_at limit f s p → p + 2 ≤ e → x ≡ p → Filling limit f s n m (left - 1) e (w + 1) (set next w x)
  unfolding starts
  filling-on h next k i {e} {x} q b y = record {
    filled = omega (arith, g.filled);
    used = omega (arith, g.used);
    front =
        ap (λ (j : ℕ). take j (set next w x) ++ starts limit f s (left - 1) e) (add-one w)
        ∙ ap (λ (t : List ℕ). t ++ starts limit f s (left - 1) e) (take-suc-set next w x i)
        ∙ append_snoc (take w next) x (starts limit f s (left - 1) e)
        ∙ ap (λ (t : List ℕ). t ++ (x ∷ starts limit f s (left - 1) e)) k
        ∙ ap (λ (y : ℕ). take w words ++ (y ∷ starts limit f s (left - 1) e)) y
        ∙ ap (λ (z : ℕ). take w words ++ (p ∷ starts limit f s (left - 1) z)) q
        ∙ ap (λ (j : ℕ). take w words ++ starts limit f s j p) c
        ∙ g.front;
  }
    where
      c : suc (left - 1) ≡ left
      c = omega arith

  pub filling-done : left ≤ 0 → {r answer : Stepped} → r ≡ answer → Lists r answer (starts limit f s n m) words
  unfolding starts
  filling-done h i = record { is = i; front = λ z e. ap (λ (j : ℕ). take j words) (starts-length limit f s n m ∙ c) ∙ sym (append-nil (take w words)) ∙ ap (λ (j : ℕ). take w words ++ starts limit f s j p) z0 ∙ g.front }
    where
      c : n ≡ w
      c = omega (arith, g.filled)

      z0 : 0 ≡ left
      z0 = omega arith

-- how many entries are left, in other words
pub going-left : {whole : Stepped} {limit : ℕ} {u : Rule} {k r : Fmt} {s : List ℕ} {a b p : ℕ} {ks : List (List ℕ)} → Going whole limit u k r s a p ks → a ≡ b → Going whole limit u k r s b p ks
going-left {whole} {limit} {u} {k} {r} {s} {p = p} {ks = ks} g e = subst (λ (x : ℕ). Going whole limit u k r s x p ks) e g

pub filling-left : {limit : ℕ} {f : Fmt} {s : List ℕ} {n m a b p w : ℕ} {words : List ℕ} → Filling limit f s n m a p w words → a ≡ b → Filling limit f s n m b p w words
filling-left {limit} {f} {s} {n} {m} {p = p} {w = w} {words = words} g e = subst (λ (x : ℕ). Filling limit f s n m x p w words) e g

-- a refusal leaves the words open
pub lists-stop : {r answer : Stepped} {ps words : List ℕ} {d : Refusal ℕ} → r ≡ answer → r ≡ Err d → Lists r answer ps words
lists-stop i h = record { is = i; front = λ n e. let z : ◌≡◌ {A = ℕ} 0 1 = cc in absurd (omega arith) }

-- where an entry ends that was read in two parts
pub entry-end : (limit : ℕ) (k r : Fmt) (s : List ℕ) (p : ℕ) {x y : Stepped} {m e : ℕ} → x ≡ scan limit k s p → x ≡ Ok m → y ≡ scan limit r s m → y ≡ Ok e → e ≡ end_at limit (k then r) s p
entry-end limit k r s p a b c d = ap end_of (sym d ∙ then-on limit s p k r a b c)
