-- The snapshot's manifest and the target's: what `compare_manifests` comes to.
use Prim.Native.Nat.{ℕ}
use mathlib.Core.Path.{◌≡◌, refl, sym, ap, ◌∙◌}
use mathlib.Core.List.{List}
use Rattle.state.specs.Bytes.{AreBytes}
use Rattle.std.specs.Prelude.{Result, Ok, Err, MatchResult, IsErrAnd}
use Rattle.state.specs.declared.Refusal.{Refusal}
use Rattle.state.specs.declared.Starts.{Starts}
use Rattle.state.specs.declared.SideRefusal.{SideRefusal}
use Rattle.state.specs.declared.SideRefusal.TheVariants.{Snapshot, Target}
use Rattle.questions.specs.Portability.{target_bound_classes}
use Rattle.questions.specs.Answers.{Decoded, decode_manifest, decoded_index}
use Rattle.verdict.specs.Verdict.{Agreement, verdict}
use Rattle.verdict.specs.Answers.{verdict_of, compare_manifests, target_index}
use Rattle.verdict.specs.Demand3.{VerdictDemand}
use Rattle.verdict.proofs.Demand3.{verdict-right}
use Rattle.state_layout.specs.Tables.{manifest_of}
use Rattle.calls.proofs.Acceptance.{judgment, answer-refused, judged-as}

-- what `map_err` made r of: the same value, or the error that became this one
pub mapped_ok : {T E D : Type 0} (P : E → D → Type 0) (d : Result T E) {r : Result T D} → MatchResult d (λ x. r ≡ Ok x) (λ e. IsErrAnd r (P e)) → {x : T} → r ≡ Ok x → d ≡ Ok x
mapped_ok P (Ok y) h e = cc
mapped_ok P (Err y) h e = absurd (rw e at h)

pub mapped_err : {T E D : Type 0} (P : E → D → Type 0) (d : Result T E) {r : Result T D} → MatchResult d (λ x. r ≡ Ok x) (λ e. IsErrAnd r (P e)) → {y : D} → r ≡ Err y → (e : E) × (d ≡ Err e) × P e y
mapped_err P (Ok x) h e = absurd (cc)
mapped_err P (Err x) h e = (x, refl, rw e at h)

module _ (s old : List ℕ) (base revision : ℕ) (t old' : List ℕ) (base' revision' : ℕ) (bytes : AreBytes s) (bytes' : AreBytes t)
    {d : Decoded} (is : d ≡ decode_manifest target_bound_classes s base revision old) {new : List ℕ} (left : new ≡ decoded_index target_bound_classes s revision old) where
  -- the answer and the two indexes
  abbrev pub Says : Result Agreement SideRefusal → (first second : List ℕ) → Type 0
  Says r first second =
      (r ≡ compare_manifests target_bound_classes s base revision old t base' revision' old')
      × ((first ≡ decoded_index target_bound_classes s revision old)
      × ((second ≡ target_index target_bound_classes s base revision old t base' revision' old')
      × VerdictDemand target_bound_classes s base revision old t base' revision' old' r))

  demanded : {r : Result Agreement SideRefusal} → r ≡ compare_manifests target_bound_classes s base revision old t base' revision' old' → VerdictDemand target_bound_classes s base revision old t base' revision' old' r
  demanded e = verdict-right target_bound_classes s base revision old t base' revision' old' bytes bytes' e

  -- the snapshot's was refused
  pub snapshot-refused : {e : Refusal ℕ} → d ≡ Err e → Says (Err (Snapshot e)) new old'
  unfolding compare_manifests target_index
  snapshot-refused e =
      let r = answer-refused s old base revision is e in
      let i = ap (λ (x : Refusal ℕ). Err (Snapshot x)) r.stands ∙ sym (ap (λ o. verdict_of base base' o (judgment t old' revision')) r.is) in
      (i, (left, (rw r.is, demanded i)))

  module _ {x : Starts} (e : d ≡ Ok x)
      {d' : Decoded} (is' : d' ≡ decode_manifest target_bound_classes t base' revision' old') {new' : List ℕ} (left' : new' ≡ decoded_index target_bound_classes t revision' old') where
    -- the target's was
    pub target-refused : {e' : Refusal ℕ} → d' ≡ Err e' → Says (Err (Target e')) new new'
    unfolding compare_manifests target_index
    target-refused f =
        let a = judged-as s old base revision is e in
        let r = answer-refused t old' base' revision' is' f in
        let i = ap (λ (x : Refusal ℕ). Err (Target x)) r.stands ∙ sym (ap (verdict_of base base' (judgment s old revision)) r.is ∙ rw a.1) in
        (i, (left, (left' ∙ rw a.1, demanded i)))

    -- neither was
    pub both-compared : {x' : Starts} → d' ≡ Ok x' → {r : Agreement} → r ≡ verdict (manifest_of s) (manifest_of t) → Says (Ok r) new new'
    unfolding compare_manifests target_index
    both-compared f {r} h =
        let a = judged-as s old base revision is e in
        let b = judged-as t old' base' revision' is' f in
        let i : Ok r ≡ verdict_of base base' (judgment s old revision) (judgment t old' revision') = rw (a.1, b.1) (ap Ok h) in
        (i, (left, (left' ∙ rw a.1, demanded i)))
