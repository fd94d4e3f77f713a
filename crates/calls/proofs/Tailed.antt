-- The answer of a call on a manifest and its tail, and the index at its end.
use Prim.Native.Nat.{ℕ, ◌+◌, ◌-◌}
use native.Mathlib.Omega.{arith}
use mathlib.Core.Path.{◌≡◌, sym, ap, ◌∙◌}
use mathlib.Core.Bool.{Bool, true, false, not, cond}
use mathlib.Core.List.{List, ◌++◌}
use lib.ListN.{length, take, replicate}
use lib.Dec.{leb, eqb}
use borrow.Author.Tests.{ne_eqb, not-true, not-false}
use Rattle.state.specs.declared.Refusal.{Refusal}
use Rattle.state.specs.declared.Starts.{Starts}
use Rattle.std.specs.Prelude.{Ok, Err}
use Rattle.state.specs.Outcome.{got, refused, offset_of, step_of, Stepped, refusal}
use Rattle.state.proofs.Outcome.{step-refused, step-yields, always}
use Rattle.state_wire.specs.Fields.{max_snapshot_bytes}
use Rattle.questions.specs.Portability.{target_bound_classes}
use Rattle.questions.specs.Answers.{Decoded, judge, outside, starts_of}
use Rattle.questions.proofs.Accepted.{judge-tells, judge-spells, slots-say-yes}
use Rattle.tail.specs.Tail.{read_tail}
use Rattle.tail.specs.Answers.{judge_tail, decode_tail, tail_index}
use Rattle.tail.proofs.Tells.{tail-late}
use Rattle.state_layout.specs.Tables.{manifest_of}
use Rattle.manifest.specs.Judges.{Judges}
use Rattle.calls.proofs.Ending.{refusal-leaves, accepted-started}
use Rattle.questions.proofs.Ends.{ends-fit}
use Rattle.state_codec.specs.Listed.{Asked}

-- offsets that count on from one that may have stopped
offset-on : (base n p : ℕ) → offset_of (offset_of base n) p ≡ offset_of base (n + p)
offset-on base n p = omega arith

refusal-on : (base n q p : ℕ) → outside (offset_of base n) (refusal q p) ≡ outside base (refusal q (n + p))
refusal-on base n q p = rw (offset-on base n p)

-- ---- an accepted manifest
module _ {s old mid : List ℕ} {revision : ℕ} {r : Stepped} (j : Judges s revision r old mid) {n : ℕ} (e : r ≡ Ok n) where
  -- the manifest that the bytes spell was accepted
  judged : judge target_bound_classes revision s (length old) ≡ got (manifest_of s) (length s)
  judged =
      let y = step-yields (always (judge target_bound_classes revision s (length old))) j.is e in
      rw ((judge-spells target_bound_classes revision s (length old) y.1).1, ← (judge-tells target_bound_classes revision s (length old) y.1).passed.whole) y.1

  -- with its tables, and slots that end below 2^64
  pub asked : Asked s mid
  asked = record {
    tabled = j.tabled n e;
    fits = ends-fit (manifest_of s) (slots-say-yes target_bound_classes revision (manifest_of s) (judge-tells target_bound_classes revision s (length old) judged).none);
  }

-- ---- the answer and the index
module _ (s t old : List ℕ) (base revision : ℕ) where
  abbrev Ends : Decoded → List ℕ → Type 0
  Ends d new = (d ≡ decode_tail target_bound_classes s t base revision old) × (new ≡ tail_index target_bound_classes s t revision old)

  module _ {b : Bool} (eb : b ≡ not (leb (length s + length t) max_snapshot_bytes)) where
    -- refused by question 1
    pub ends-long : b ≡ true → {x : Refusal ℕ} {new : List ℕ} → x ≡ outside base (refusal 1 0) → new ≡ cond (eqb 1 2) old (replicate (length old) 0) → Ends (Err x) new
    unfolding decode_tail tail_index judge_tail
    ends-long h i k = let l : leb (length s + length t) max_snapshot_bytes ≡ false = not-true _ (sym eb ∙ h) in (rw (l, i), k ∙ rw l)

    module _ (hb : b ≡ false) {r : Stepped} {mid : List ℕ} (j : Judges s revision r old mid) where
      short : leb (length s + length t) max_snapshot_bytes ≡ true
      short = not-false _ (sym eb ∙ hb)

      -- refused with its manifest
      pub ends-judged : {d : Refusal ℕ} → r ≡ Err d → {x : Refusal ℕ} {new : List ℕ} → x ≡ outside base d → new ≡ cond (eqb d.question.0 2) mid (replicate (length mid) 0) → Ends (Err x) new
      unfolding decode_tail tail_index judge_tail
      ends-judged {d = d} e i k =
          let o : judge target_bound_classes revision s (length old) ≡ refused d.question.0 d.at = step-refused _ j.is e in
          (rw (short, o, i), k ∙ rw (short, o) (refusal-leaves j e))

      module _ {n : ℕ} (e : r ≡ Ok n) {x : Stepped} (ex : x ≡ step_of (read_tail (manifest_of s) t)) where
        -- refused with its tail
        pub ends-tail : {d : Refusal ℕ} {o : ℕ} → x ≡ Err d → o ≡ offset_of base (length s) → {y : Refusal ℕ} {new : List ℕ} → y ≡ outside o d → new ≡ cond (eqb d.question.0 2) mid (replicate (length mid) 0) → Ends (Err y) new
        unfolding decode_tail tail_index judge_tail
        ends-tail {d = d} h io i k =
            let u : read_tail (manifest_of s) t ≡ refused d.question.0 d.at = step-refused _ ex h in
            let l : eqb d.question.0 2 ≡ false = ne_eqb d.question.0 2 (λ z. absurd (omega (arith, tail-late (manifest_of s) t u))) in
            (rw (short, judged j e, u, i, io) (ap Err (refusal-on base (length s) d.question.0 d.at)), k ∙ rw (short, judged j e, u, l, j.long))

        -- accepted with its tail
        pub ends-accepted : {k : ℕ} → x ≡ Ok k → {y : Starts} {new : List ℕ} → y ≡ starts_of (take 12 mid) → new ≡ take 12 mid ++ replicate (length mid - 12) 0 → Ends (Ok y) new
        unfolding decode_tail tail_index judge_tail
        ends-accepted h i k =
            let z = step-yields (always (read_tail (manifest_of s) t)) ex h in
            let f = (accepted-started j e).starts in
            (rw (short, judged j e, z.1, i, f), k ∙ rw (short, judged j e, z.1, f, j.long))
