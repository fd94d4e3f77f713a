-- What the answer of `decode_manifest` tells, and what it leaves.
use Prim.Native.Nat.{ℕ, ◌+◌, ◌-◌}
use native.Mathlib.Omega.{arith}
use mathlib.Core.Path.{◌≡◌, refl, sym, ap, ◌∙◌}
use mathlib.Core.List.{List, ◌++◌}
use lib.ListN.{length, replicate, length-append, length-replicate}
use lib.Seq.{take_at}
use Rattle.state.specs.Bytes.{AreBytes}
use Rattle.std.specs.Prelude.{Result, Ok, Err, is_ok}
use Rattle.state.specs.Outcome.{Outcome, got, refused, refusal}
use Rattle.state.specs.declared.Refusal.{Refusal}
use Rattle.state.specs.declared.Starts.{Starts}
use Rattle.state.specs.declared.Units.{Units}
use Rattle.format.specs.Format.{El}
use Rattle.format.specs.Manifest.{manifest}
use Rattle.format.specs.Places.{manifest_starts, past}
use Rattle.format.proofs.Values.{well}
use Rattle.questions.specs.Portability.{target_bound_classes}
use Rattle.questions.specs.Answers.{Decoded, judge, outside, starts_of, decoded_of, decode_manifest, decoded_index}
use Rattle.questions.specs.Units.{units_answer, units_index}
use Rattle.verdict.specs.Demand3.{WordsDemand}
use Rattle.verdict.proofs.Demand3.{words-are-held, words-given}
use Rattle.questions.proofs.Accepted.{Judged, judge-tells, judge-spells, slots-say-yes, accepted-got}
use Rattle.state_layout.specs.Tables.{manifest_of}
use Rattle.state_layout.proofs.Tables.{limit}
use Rattle.manifest.specs.Accepted.{Accepted}
use Rattle.state_comparison.specs.Comparing.{Stands}
use Rattle.state_layout.proofs.Starts.{starts-twelve}
use Rattle.manifest.proofs.Counting.{kept}
use Rattle.questions.proofs.Ends.{ends-fit}

-- questions 1 to 32
abbrev pub judgment : (s old : List ℕ) → (revision : ℕ) → Outcome (El manifest)
judgment s old revision = judge target_bound_classes revision s (length old)

-- ---- a refusal
-- where what was refused stands, and how it stands outside
pub record RefusedAt (base : ℕ) (o : Outcome (El manifest)) (e : Refusal ℕ) : Type 0 where
  pub at : Refusal ℕ
  pub is : o ≡ refused at.question.0 at.at
  pub stands : e ≡ outside base at

refused-at : (base : ℕ) (s : List ℕ) (o : Outcome (El manifest)) {e : Refusal ℕ} → decoded_of base s o ≡ Err e → RefusedAt base o e
refused-at base s (got m n) h = cc
refused-at base s (refused q x) {e = e} h = let i : outside base (refusal q x) ≡ e = cc in record { at = refusal q x; is = refl; stands = sym i }

module _ (s old : List ℕ) (base revision : ℕ) {d : Decoded} (is : d ≡ decode_manifest target_bound_classes s base revision old) where
  pub answer-refused : {e : Refusal ℕ} → d ≡ Err e → RefusedAt base (judgment s old revision) e
  unfolding decode_manifest
  answer-refused e = refused-at base s (judgment s old revision) (sym is ∙ e)

  -- ---- acceptance
  module _ {x : Starts} (e : d ≡ Ok x) where
    accepted : (m : El manifest) × (n : ℕ) × (judgment s old revision ≡ got m n)
    accepted = accepted-got target_bound_classes revision s base old (ap is_ok (sym is ∙ e))

    judged : Judged target_bound_classes revision s (length old) accepted.0 accepted.1
    judged = judge-tells target_bound_classes revision s (length old) accepted.2

    -- it is the manifest that the bytes spell, to their end
    spelled : (past manifest s 0 ≡ length s) × (manifest_of s ≡ accepted.0)
    spelled = judge-spells target_bound_classes revision s (length old) accepted.2

    pub judged-as : (n : ℕ) × (judgment s old revision ≡ got (manifest_of s) n)
    judged-as = (accepted.1, rw spelled.1 accepted.2)

    starts-are : x.at ≡ manifest_starts limit s
    unfolding decode_manifest
    starts-are =
        let i : ◌≡◌ {A = Decoded} (Ok (starts_of (manifest_starts limit s))) (Ok x) = rw accepted.2 at (sym is ∙ e) in
        let j : starts_of (manifest_starts limit s) ≡ x = cc in
        sym (ap (λ (y : Starts). y.at) j)

    pub accepted-stands : AreBytes s → Stands s x.at
    accepted-stands bytes = record {
      bytes = bytes;
      well = well limit s manifest 0 (omega arith) judged.passed.reads;
      ends = spelled.0;
      starts-are = starts-are;
    }

    module _ {new : List ℕ} (left : new ≡ decoded_index target_bound_classes s revision old) where
      left_is : new ≡ manifest_starts limit s ++ replicate (length old - 12) 0
      unfolding decoded_index
      left_is = left ∙ rw accepted.2

      left-long : length new ≡ 12 + (length old - 12)
      left-long = ap length left_is ∙ length-append (manifest_starts limit s) _ ∙ rw (starts-twelve s, length-replicate {A = ℕ} (length old - 12) 0)

      pub accepted-leaves : Accepted s new
      accepted-leaves = record {
        started = record {
          well = well limit s manifest 0 (omega arith) judged.passed.reads;
          long = omega (arith, left-long);
          starts = rw left_is (take_at (manifest_starts limit s) _ 12 (starts-twelve s));
        };
        fits = rw spelled.1 (ends-fit accepted.0 (slots-say-yes target_bound_classes revision accepted.0 judged.none));
      }

-- ---- the answer and the index of a call for units
abbrev pub Says : (s old : List ℕ) → (base revision : ℕ) → Result Units (Refusal ℕ) → List ℕ → Type 0
Says s old base revision r last =
    (r ≡ units_answer base (judgment s old revision)) × ((last ≡ units_index s old (judgment s old revision)) × WordsDemand target_bound_classes s revision old r)

-- and so demand 3 of the words
demanded : (s old : List ℕ) (base revision : ℕ) → AreBytes s → {r : Result Units (Refusal ℕ)} → r ≡ units_answer base (judgment s old revision) → WordsDemand target_bound_classes s revision old r
demanded s old base revision bytes e m n a =
    (words-are-held target_bound_classes s revision (length old) bytes a, words-given target_bound_classes s revision (length old) bytes a base e)

module _ (s old : List ℕ) (base revision : ℕ) (bytes : AreBytes s) {d : Decoded} (is : d ≡ decode_manifest target_bound_classes s base revision old)
    {new : List ℕ} (left : new ≡ decoded_index target_bound_classes s revision old) where
  pub units-refused : {e : Refusal ℕ} → d ≡ Err e → Says s old base revision (Err e) new
  unfolding decoded_index units_answer units_index
  units-refused e =
      let r = answer-refused s old base revision is e in
      let i = ap Err r.stands ∙ sym (ap (units_answer base) r.is) in
      (i, (left ∙ rw r.is, demanded s old base revision bytes i))

  pub units-counted : {x : Starts} → d ≡ Ok x → {r : Result Units (Refusal ℕ)} {last : List ℕ} → (r ≡ units_answer 0 (got (manifest_of s) 0)) × (last ≡ kept s new) → Says s old base revision r last
  unfolding units_answer units_index
  units-counted e {r} {last} h =
      let l : length new ≡ length old = omega (arith, left-long s old base revision is e left, (judged s old base revision is e).passed.words) in
      let p : (r ≡ units_answer base (judgment s old revision)) × (last ≡ units_index s old (judgment s old revision)) = rw ((judged-as s old base revision is e).1, ← left_is s old base revision is e left, ← l) h in
      (p.0, (p.1, demanded s old base revision bytes p.0))
