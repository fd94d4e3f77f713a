-- The walk over the slots: the largest end so far, and the slots that are left.
use Prim.Native.Nat.{ℕ, zero, suc, ◌+◌, ◌-◌, ◌^◌, ◌≤◌, ◌<◌, min, max}
use native.Mathlib.Omega.{arith}
use native.Mathlib.Nat.{max-zero, zero-max}
use mathlib.Core.Path.{◌≡◌, sym, subst, ◌∙◌}
use mathlib.Core.Bool.{true}
use mathlib.Core.List.{List}
use lib.ListN.{length}
use borrow.Author.Tests.{ltb-true}
use Rattle.std.proofs.lemmas.Bool.{and_parts as both}
use Rattle.format.specs.Keys.{block_key}
use Rattle.format.specs.Manifest.{slot_rest, entry, state_slots, counted}
use Rattle.format.specs.Fields.{Entry, slot_offset, slot_length}
use Rattle.format.specs.Places.{number_at, past}
use Rattle.format.specs.Values.{values_at, value_at}
use Rattle.questions.specs.Sets.{all}
use Rattle.questions.specs.Slots.{end_fits}
use Rattle.questions.specs.Units.{word_total}

max_assoc : (a b c : ℕ) → max (max a b) c ≡ max a (max b c)
max_assoc a b c = omega arith

-- so many slots from a position on
abbrev pub slots_at : List ℕ → (left p : ℕ) → List (Entry state_slots)
slots_at s left p = values_at (value_at block_key s) (value_at slot_rest s) (past block_key s) (past slot_rest s) left p

pub record Walking (s : List ℕ) (at left p most : ℕ) : Type 0 where
  pub fits : all end_fits (slots_at s left p) ≡ true
  pub is : max most (word_total (slots_at s left p)) ≡ word_total (value_at (counted state_slots) s at)

module _ (s : List ℕ) (at : ℕ) where
  pub walk_start : {n p : ℕ} → n ≡ number_at 4 s at → p ≡ min (at + 4) (length s) → all end_fits (value_at (counted state_slots) s at) ≡ true → Walking s at n p 0
  unfolding value_at
  walk_start i j h = record { fits = rw (i, j) h; is = rw (i, j) (zero-max _) }

  pub walk_end : (left : ℕ) → left ≤ 0 → {p most : ℕ} → Walking s at left p most → most ≡ word_total (value_at (counted state_slots) s at)
  unfolding word_total
  walk_end zero h {p} {most} w = sym (max-zero most) ∙ w.is
  walk_end (suc n) h w = absurd (omega arith)

  -- the slot at p: its offset o stands at a, its length n at b
  module _ (p : ℕ) {a b o n : ℕ} (first : a ≡ past block_key s p) (second : b ≡ min (a + 8) (length s)) (offset : o ≡ number_at 8 s a) (words : n ≡ number_at 8 s b) where
    slot-end : slot_offset (value_at (entry state_slots) s p) + slot_length (value_at (entry state_slots) s p) ≡ o + n
    unfolding slot_offset slot_length slot_rest value_at past
    slot-end = rw (words, offset, second, first)

    pub walk-fits : (left : ℕ) → 0 < left → {most : ℕ} → Walking s at left p most → o + n < 2 ^ 64
    unfolding all end_fits value_at
    walk-fits zero h w = absurd (omega arith)
    walk-fits (suc k) h w = rw (← slot-end) (ltb-true _ _ (both _ _ w.fits).0)

    pub walk-next : (left : ℕ) → 0 < left → {most more e : ℕ} → Walking s at left p most → more ≡ max most (o + n) → e ≡ min (b + 8) (length s) → Walking s at (left - 1) e more
    unfolding all word_total value_at past slot_rest
    walk-next zero h w i j = absurd (omega arith)
    walk-next (suc k) h {most} w i j =
        let d : suc k - 1 ≡ k = omega arith in
        record {
          fits = rw (d, j, second, first) (both (end_fits (value_at (entry state_slots) s p)) _ w.fits).1;
          is = rw (d, j, i, ← slot-end, second, first) (max_assoc most _ _ ∙ w.is);
        }

-- the same number of slots, written otherwise
pub walk-left : {s : List ℕ} {at left other p most : ℕ} → Walking s at left p most → left ≡ other → Walking s at other p most
walk-left {s = s} {at = at} {p = p} {most = most} w e = subst (λ (n : ℕ). Walking s at n p most) e w
