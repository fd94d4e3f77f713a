-- Demand 3 of the calls' answers. Its sentences are the statements of specs/Demand3.antt.
use Prim.Native.Nat.{ℕ, ◌-◌, ◌^◌}
use mathlib.Core.Path.{◌≡◌, sym, ◌∙◌}
use mathlib.Core.Bool.{Bool, true, false, cond}
use mathlib.Core.List.{List}
use lib.Dec.{leb}
use Rattle.verdict.specs.Verdict.{Agreement}
use Rattle.std.specs.Prelude.{Result, Ok, IsOk, IsOkAnd}
use Rattle.state.specs.Bytes.{AreBytes}
use Rattle.state.specs.Outcome.{got}
use Rattle.state.specs.Outcome.{refuses}
use Rattle.state.specs.declared.Refusal.{Refusal}
use Rattle.state.specs.declared.SideRefusal.{SideRefusal}
use Rattle.state.specs.declared.Units.{Units}
use Rattle.format.specs.Format.{El}
use Rattle.format.specs.Manifest.{manifest}
use Rattle.format.specs.Fields.{slots_of}
use Rattle.questions.specs.Answers.{judge, decode_manifest}
use Rattle.questions.specs.Units.{word_total, units_of, units_in, units_answer}
use Rattle.questions.proofs.Accepted.{passed-canonical, judge-tells, slots-say-yes, accepted-got}
use Rattle.verdict.specs.Answers.{compare_manifests}
use Rattle.verdict.specs.Demand3.{VerdictRight, state_words, WordsHeld}
use Rattle.verdict.proofs.Sections.{verdict-read}
use Rattle.verdict.proofs.Words.{words-held}

-- DEMAND 3. "For every snapshot's manifest and every target's, each accepted, whatever their bases and revisions": s and t, with any base,
-- revision and index each
module _ (bound : List (List ℕ)) (s : List ℕ) (base revision : ℕ) (index : List ℕ) (t : List ℕ) (base' revision' : ℕ) (index' : List ℕ) (bytes : AreBytes s) (bytes' : AreBytes t)
    -- r is what `compare_manifests` answers
    {r : Result Agreement SideRefusal} (answered : r ≡ compare_manifests bound s base revision index t base' revision' index') where
  pub verdict-right : IsOk (decode_manifest bound s base revision index) → IsOk (decode_manifest bound t base' revision' index') → IsOkAnd r (VerdictRight s t)
  unfolding compare_manifests
  verdict-right snapshot target =
      let a = accepted-got bound revision s base index snapshot in
      let b = accepted-got bound revision' t base' index' target in
      let p = (judge-tells bound revision s _ a.2).passed in
      let q = (judge-tells bound revision' t _ b.2).passed in
      rw (answered, a.2, b.2) (verdict-read s t bytes bytes' p.reads q.reads)

-- "In each accepted manifest": m, as it was read; every call answers by `judge`
module _ (bound : List (List ℕ)) (s : List ℕ) (revision w : ℕ) (bytes : AreBytes s) {m : El manifest} {n : ℕ} (accepted : judge bound revision s w ≡ got m n) where
  pub words-are-held : WordsHeld m
  words-are-held =
      let j = judge-tells bound revision s w accepted in
      words-held m (passed-canonical s w bytes j.passed).1 (slots-say-yes bound revision m j.none)

  -- "that sum is the word total wherever one is given": r is what `units` answers
  pub words-given : (base : ℕ) {r : Result Units (Refusal ℕ)} → r ≡ units_answer base (judge bound revision s w) → (u : Units) → r ≡ Ok u → u.words ≡ state_words m
  unfolding units_answer
  words-given base e u i = given (leb (units_of m) (2 ^ 64 - 1)) (sym i ∙ e ∙ rw accepted) ∙ words-are-held.total
    where
      given : (b : Bool) → Ok u ≡ cond b (Ok (units_in m)) (refuses 39 0) → u.words ≡ word_total (slots_of m)
      given true h = cc
      given false h = cc
