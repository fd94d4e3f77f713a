-- What code that walks over a list's entries cites: the list's reading with the values forgotten, entry by entry.
use Prim.Native.Nat.{ℕ, zero, suc, ◌+◌, ◌*◌, ◌-◌, ◌≤◌, ◌<◌}
use native.Mathlib.Omega.{arith}
use mathlib.Core.Path.{◌≡◌, refl, sym, ap, ◌∙◌}
use mathlib.Core.Bool.{Bool, true, false}
use mathlib.Core.List.{List, [], ◌∷◌}
use lib.ListN.{length}
use lib.Dec.{leb}
use borrow.Author.Tests.{leb-true}
use Rattle.state.specs.declared.Refusal.{Refusal}
use Rattle.std.specs.Prelude.{Ok, Err}
use Rattle.state.specs.Bytes.{span, number_of}
use Rattle.state.specs.Outcome.{field_of, step_of_field, Stepped, NumberRead, refuses}
use Rattle.state.proofs.Outcome.{value-got, value-refused, value-yields, this, yields-ask, yields-bind, onward, asked, step-bind, step-ask, step_keeps}
use Rattle.state_wire.proofs.Fields.{yields-number}
use Rattle.state_wire.specs.Fields.{read_number, bounded_count, read_count}
use Rattle.format.specs.Format.{Rule, free, Fmt, done, list, entries, read, scan, scan_entries, kept, after_key, after_entry, after_all, from}
use Rattle.format.proofs.Bounds.{next-within}
use Rattle.format.proofs.Steps.{done-step, taken_step, text-step}

-- one entry: its key, the order if it is asked at once, the rest, the order if it is asked then
module _ (limit : ℕ) (u : Rule) (k r : Fmt) (s : List ℕ) (n at : ℕ) (ks : List (List ℕ)) where
  pub scan-entries : scan_entries limit u k r s (suc n) at ks ≡ onward (scan limit k s at) (λ m.
      asked (after_key u (span s (from u at) m) ks) 9 m (onward (scan limit r s m) (λ e.
      asked (after_entry u (span s (from u at) m) ks) 9 e (scan_entries limit u k r s n e (kept u (span s (from u at) m) ks)))))
  unfolding scan scan_entries
  scan-entries = step-bind (read limit k s at) _ _ λ v m.
      step-ask (after_key u (span s (from u at) m) ks) 9 m _
      ∙ ap (asked (after_key u (span s (from u at) m) ks) 9 m) (step-bind (read limit r s m) _ _ λ w e.
      step-ask (after_entry u (span s (from u at) m) ks) 9 e _
      ∙ ap (asked (after_entry u (span s (from u at) m) ks) 9 e) (step_keeps (entries u (read limit k) (read limit r) s n e (kept u (span s (from u at) m) ks)) (λ vs. (v, w) ∷ vs)))

-- what a loop keeps: the whole answer is that for the entries left, from p on, held against the keys ks
pub record Going (whole : Stepped) (limit : ℕ) (u : Rule) (k r : Fmt) (s : List ℕ) (left p : ℕ) (ks : List (List ℕ)) : Type 0 where
  pub is : whole ≡ scan_entries limit u k r s left p ks
  pub here : p ≤ length s

module _ (s : List ℕ) (at w l : ℕ) {g : NumberRead} (e : g ≡ field_of (read_number w s at)) where
  pub count-stop : {d : Refusal ℕ} → g ≡ Err d → g ≡ field_of (read_count w l s at)
  unfolding read_count
  count-stop h = h ∙ rw (value-refused (read_number w s at) e h)

  pub count-on : {n m : ℕ} {r : NumberRead} → g ≡ Ok (n, m) → r ≡ field_of (bounded_count l s n m) → r ≡ field_of (read_count w l s at)
  unfolding read_count
  count-on h i = i ∙ rw (value-got (read_number w s at) e h)

-- a count that was read: its number, where it ends, and that what is left has the least bytes for its entries
module _ (s : List ℕ) (at w l : ℕ) where
  abbrev Counted : ℕ → ℕ → Type 0
  Counted n m = (n ≡ number_of (span s at (at + w))) × (m ≡ at + w) × (m ≤ length s) × (n * l ≤ length s - m)

  pub counted-fits : {g : NumberRead} {n m : ℕ} → g ≡ field_of (read_count w l s at) → g ≡ Ok (n, m) → Counted n m
  unfolding read_count bounded_count
  counted-fits = value-yields {P = Counted} (yields-bind (yields-number w s at) λ n m p. yields-ask (leb (n * l) (length s - m)) 7 m λ e.
      this (p.2 ∙ ap (λ (x : ℕ). number_of (span s at x)) p.0, p.0, p.1, leb-true _ _ e))

module _ (limit : ℕ) (s : List ℕ) (at w l : ℕ) (u : Rule) (k r : Fmt) {g : NumberRead} (e : g ≡ field_of (read_count w l s at)) where
  pub list-stop : {x : Stepped} {d : Refusal ℕ} → g ≡ Err d → x ≡ step_of_field g → x ≡ scan limit (list w l u k r) s at
  unfolding scan read
  list-stop h i = i ∙ ap step_of_field h ∙ rw (value-refused (read_count w l s at) e h)

  pub going_start : {n m : ℕ} → g ≡ Ok (n, m) → Going (scan limit (list w l u k r) s at) limit u k r s n m []
  unfolding scan scan_entries read
  going_start h = record { is = rw (value-got (read_count w l s at) e h); here = (counted-fits s at w l e h).2 }

module _ {whole : Stepped} {limit : ℕ} {u : Rule} {k r : Fmt} {s : List ℕ} {left p : ℕ} {ks : List (List ℕ)} (g : Going whole limit u k r s left p ks) where
  pub going_end : left ≤ 0 → after_all u ks ≡ true → Ok p ≡ whole
  unfolding scan_entries
  going_end h i = let z : left ≡ 0 = omega arith in sym (g.is ∙ rw (z, i))

  module _ (h : 0 < left) where
    turned : whole ≡ onward (scan limit k s p) (λ m.
        asked (after_key u (span s (from u p) m) ks) 9 m (onward (scan limit r s m) (λ e.
        asked (after_entry u (span s (from u p) m) ks) 9 e (scan_entries limit u k r s (left - 1) e (kept u (span s (from u p) m) ks)))))
    turned = let z : left ≡ suc (left - 1) = omega arith in g.is ∙ ap (λ (x : ℕ). scan_entries limit u k r s x p ks) z ∙ scan-entries limit u k r s (left - 1) p ks

    module _ {x : Stepped} (ek : x ≡ scan limit k s p) where
      pub going-key-stop : {d : Refusal ℕ} → x ≡ Err d → x ≡ whole
      going-key-stop i = i ∙ sym (turned ∙ rw (← ek, i))

      module _ {m : ℕ} (ik : x ≡ Ok m) where
        pub going-key-low : after_key u (span s (from u p) m) ks ≡ false → refuses 9 m ≡ whole
        going-key-low b = sym (turned ∙ rw (← ek, ik, b))

        module _ (bk : after_key u (span s (from u p) m) ks ≡ true) {y : Stepped} (er : y ≡ scan limit r s m) where
          pub going-rest-stop : {d : Refusal ℕ} → y ≡ Err d → y ≡ whole
          going-rest-stop i = i ∙ sym (turned ∙ rw (← ek, ik, bk, ← er, i))

          module _ {e : ℕ} (ir : y ≡ Ok e) where
            pub going-low : after_entry u (span s (from u p) m) ks ≡ false → refuses 9 e ≡ whole
            going-low b = sym (turned ∙ rw (← ek, ik, bk, ← er, ir, b))

            pub going_on : {next : List (List ℕ)} → after_entry u (span s (from u p) m) ks ≡ true → kept u (span s (from u p) m) ks ≡ next → Going whole limit u k r s (left - 1) e next
            going_on b j = record {
              is = turned ∙ rw (← ek, ik, bk, ← er, ir, b, j);
              here = (next-within limit s r m (next-within limit s k p g.here ek ik).1 er ir).1;
            }

-- an unordered list forgets its keys
pub forgets : (limit : ℕ) (k r : Fmt) (s : List ℕ) (n at : ℕ) (ks : List (List ℕ)) → scan_entries limit free k r s n at ks ≡ scan_entries limit free k r s n at []
unfolding scan_entries
forgets limit k r s zero at ks = refl
forgets limit k r s (suc n) at ks = refl

-- its entries, where they are keys alone
pub going-free : {whole : Stepped} {limit : ℕ} {k : Fmt} {s : List ℕ} {left p : ℕ} → Going whole limit free k done s left p [] → 0 < left → {x : Stepped} → x ≡ scan limit k s p → {m : ℕ} → x ≡ Ok m → Going whole limit free k done s (left - 1) m []
going-free {limit = limit} {k = k} {s = s} {left = left} g h ek {m} ik =
    let n = going_on g h ek ik refl (done-step limit s m) refl refl refl in
    record { is = n.is ∙ forgets limit k done s (left - 1) m _; here = n.here }

-- a test's answer, and what it was
pub told : (b c : Bool) {t : Bool} → t ≡ b → t ≡ c → b ≡ c
told b c e h = sym e ∙ h

pub ruleset goings = (count-stop, count-on, going_start, going_end, going-key-stop, going-key-low, going-rest-stop, going-low, going_on, going-free, list-stop, told, text-step, taken_step)
