-- The index as the sections' tables are put into it.
use Prim.Native.Nat.{ℕ, ◌+◌, ◌-◌, ◌≤◌}
use native.Mathlib.Omega.{arith}
use mathlib.Core.Path.{◌≡◌, sym, ap, ◌∙◌}
use mathlib.Core.List.{List, ◌++◌}
use lib.ListN.{length, take, length-take}
use borrow.Rule.Slice.PartMut.{mid_of, post_of, put_mid, same_len_mid}
use lib.Seq.{take-take, take_at, length-take-le, take-append-add, take-append-le}
use Rattle.std.specs.Prelude.{Ok, Err}
use Rattle.state.specs.declared.Refusal.{Refusal}
use Rattle.state.specs.Outcome.{Stepped}
use Rattle.state_sections.specs.Tables.{Lists}
use Rattle.state_manifest_codec.specs.Filled.{Fills}

-- a refusal leaves the words open
pub fills-stop : {r answer : Stepped} {ps : List ℕ} {w : ℕ} {d : Refusal ℕ} {old new : List ℕ} → r ≡ answer → r ≡ Err d → length new ≡ length old → Fills r answer ps w old new
fills-stop i h l = record { is = i; long = l; front = λ n e. let z : ◌≡◌ {A = ℕ} 0 1 = cc in absurd (omega arith) }

-- a table in the words from w on, which were lent for it
pub fills-lent : {r answer : Stepped} {ps part : List ℕ} {w : ℕ} {old : List ℕ} → Lists r answer ps part → w ≤ length old → length part ≡ length (mid_of w (length old - w) old) → Fills r answer ps w old (put_mid w (length old - w) old part)
fills-lent {ps = ps} {part = part} {w = w} {old = old} f h l = record {
  is = f.is;
  long = same_len_mid w (length old - w) old part l;
  front = λ n i.
      let b : length ps ≤ length part = omega (arith, ap length (f.front n i), length-take (length ps) part) in
      ap (λ (k : ℕ). take (k + length ps) (put_mid w (length old - w) old part)) (sym (length-take-le w old h))
      ∙ take-append-add (take w old) (part ++ post_of w (length old - w) old) (length ps)
      ∙ ap (λ (l : List ℕ). take w old ++ l) (take-append-le (length ps) part _ b ∙ f.front n i);
}

-- the words before a table that was filled are as they were
module _ {r answer : Stepped} {ps : List ℕ} {w n : ℕ} {old new : List ℕ} (f : Fills r answer ps w old new) (e : r ≡ Ok n) (h : w ≤ length old) where
  before-long : length (take w old) ≡ w
  before-long = length-take-le w old h

  pub fills-before : take w new ≡ take w old
  fills-before = sym (take-take w (w + length ps) new (omega arith)) ∙ ap (take w) (f.front n e) ∙ take_at (take w old) ps w before-long
