-- How a call on a manifest ends: the answer and the index.
use Prim.Native.Nat.{ℕ, ◌-◌}
use mathlib.Core.Path.{◌≡◌, refl, ap, ◌∙◌}
use mathlib.Core.Bool.{Bool, true, false, cond}
use mathlib.Core.List.{List, ◌++◌}
use lib.ListN.{length, take, replicate}
use lib.Dec.{eqb}
use borrow.Author.Tests.{eqb-true}
use Rattle.state.specs.Outcome.{refused, refusal, Stepped}
use Rattle.std.specs.Prelude.{Ok, Err}
use Rattle.state.specs.declared.Refusal.{Refusal}
use Rattle.state.specs.declared.Starts.{Starts}
use Rattle.state.proofs.Outcome.{step-refused, step-yields, always}
use Rattle.questions.specs.Portability.{target_bound_classes}
use Rattle.questions.specs.Answers.{judge, outside, starts_of, decode_manifest, decoded_index}
use Rattle.manifest.specs.Judges.{Judges}
use Rattle.state_layout.specs.Tables.{Started}
use Rattle.state_layout.proofs.Indexed.{laid_of, laid_started}

-- ---- the answer and the index at the end of a call
module _ {s old mid : List ℕ} {revision : ℕ} {r : Stepped} (j : Judges s revision r old mid) where
  -- what a refusal leaves does not depend on the words that were written
  pub refusal-leaves : {d : Refusal ℕ} → r ≡ Err d → cond (eqb d.question.0 2) mid (replicate (length mid) 0) ≡ cond (eqb d.question.0 2) old (replicate (length old) 0)
  refusal-leaves {d = d} e = go (eqb d.question.0 2) refl
    where
      go : (b : Bool) → eqb d.question.0 2 ≡ b → cond b mid (replicate {A = ℕ} (length mid) 0) ≡ cond b old (replicate (length old) 0)
      go true h = j.untouched d.at (e ∙ ap (λ (n : ℕ). Err (refusal n d.at)) (eqb-true d.question.0 2 h))
      go false h = ap (λ (n : ℕ). replicate n 0) j.long

  -- where nothing is refused, the starts are the first words
  pub accepted-started : {n : ℕ} → r ≡ Ok n → Started s mid
  accepted-started {n} e = laid_started (laid_of (j.tabled n e))

  module _ (base : ℕ) where
    pub ends-refused : {d : Refusal ℕ} → r ≡ Err d → {x : Refusal ℕ} {new : List ℕ} → x ≡ outside base d → new ≡ cond (eqb d.question.0 2) mid (replicate (length mid) 0)
        → (Err x ≡ decode_manifest target_bound_classes s base revision old) × (new ≡ decoded_index target_bound_classes s revision old)
    unfolding decode_manifest decoded_index
    ends-refused {d = d} e a b =
        let o : judge target_bound_classes revision s (length old) ≡ refused d.question.0 d.at = step-refused (judge target_bound_classes revision s (length old)) j.is e in
        (rw (o, a), b ∙ rw o (refusal-leaves e))

    pub ends-accepted : {n : ℕ} → r ≡ Ok n → {x : Starts} {new : List ℕ} → x ≡ starts_of (take 12 mid) → new ≡ take 12 mid ++ replicate (length mid - 12) 0
        → (Ok x ≡ decode_manifest target_bound_classes s base revision old) × (new ≡ decoded_index target_bound_classes s revision old)
    unfolding decode_manifest decoded_index
    ends-accepted {n} e a b =
        let y = step-yields (always (judge target_bound_classes revision s (length old))) j.is e in
        let f = (accepted-started e).starts in
        (rw (y.1, a, f), b ∙ rw (y.1, f, j.long))
