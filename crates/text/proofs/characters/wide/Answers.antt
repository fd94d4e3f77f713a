use Prim.Native.Nat.{ℕ}
use mathlib.Core.Bool.{Bool, true, false}
use mathlib.Core.Path.{◌≡◌, sym, ◌∙◌}
use Rattle.std.proofs.Common.{rules, ◌≤◌, ◌<◌, ◌/◌, ◌∷◌, take, ◌⊎◌}
use Rattle.std.proofs.lemmas.Iterator.{cases_from_all, YieldsList-from_slice}
use Rattle.std.proofs.lemmas.Slice.{between_from_start}
use Rattle.std.specs.Bool.{MatchBool, then_some}
use Rattle.std.specs.Prelude.{Option}
use borrow.Author.Tests.{tests}
use native.Mathlib.Omega.{arith}
use Rattle.text.specs.Blocks.{second_from, second_to, IsWidth}
use Rattle.text.proofs.Octets.{width-taken, width-outside, width-torn}
use Rattle.text.proofs.characters.wide.Goals as goal
use Rattle.text.proofs.characters.wide.Goals.{then-contains, else-contains}

told : {Yes No : Type 0} (b : Bool) (n : ℕ) {v : ℕ} {r : Option ℕ} → 0 < n → MatchBool b Yes No → r ≡ then_some b n → (Yes → v ≡ n) → (No → v ≡ 0) → IsWidth r v
told true n h m e f g = rw e (h, f m)
told false n h m e f g = rw e (g m)

pub returns : goal.returns
returns g c =
    let s = c.args.rest.now in
    let q : take g.row.N s ≡ c.in_ok-b.b.now ∷ c.in_ok-b.others.now = sym (between_from_start s g.row.N) ∙ sym c.in_ok-get.ensures.lookup.0.2 ∙ c.in_ok-b.ensures.cases.0 in
    elim c.if-contains.branch [
      | then-contains w ↦
          let i : (second_from c.args.a ≤ c.in_ok-b.b.now) × (c.in_ok-b.b.now < second_to c.args.a) = search (rules, tests) in
          let m = cases_from_all _ _ _ (λ x. x / 64 ≡ 2) (λ x. x / 64 ≡ 2 → ⊥) w.all-whole.ensures.ran (YieldsList-from_slice _ w.iter.ensures.rest) (λ x q k. search (rules, tests)) (λ x q k. search (rules, tests)) in
          told c.if-contains.whole _ (omega arith) (rw (← w.whole-is) at m) c.then_some.ensures
          (λ y. width-taken _ c.args.a s _ _ c.requires.1 c.in_ok-get.ensures.lookup.0.1 q i.0 i.1 (λ k l. y k 0 (omega arith) l))
          (λ n. width-torn _ c.args.a s _ _ c.requires.1 c.in_ok-get.ensures.lookup.0.1 q n.0 n.1 (n.2 0))
      | else-contains w ↦
          let o : (c.in_ok-b.b.now < second_from c.args.a) ⊎ (second_to c.args.a ≤ c.in_ok-b.b.now) = search (rules, tests) in
          rw (c.then_some.ensures, w.whole-is, w.if-contains.false) (width-outside _ c.args.a s _ _ c.requires.1 q o)
    ]
