-- The whole answer of a call on a snapshot's manifest and a target's, and what it leaves of the two lent indexes. "The snapshot's manifest is
-- read first, without its tail, then the target's, each with its own base, revision and index; a refusal says which side". The snapshot's index
-- is left as `decode_manifest` leaves it (`decoded_index`), whatever the target comes to.
use Rattle.std.specs.Prelude.{ℕ, Result, Ok, Err, List, length}
use Rattle.state.specs.Outcome.{Outcome, got, refused, refusal}
use Rattle.state.specs.declared.SideRefusal.{SideRefusal}
use Rattle.state.specs.declared.SideRefusal.TheVariants.{Snapshot, Target}
use Rattle.format.specs.Format.{El}
use Rattle.format.specs.Manifest.{manifest}
use Rattle.questions.specs.Answers.{judge, outside, decoded_index}
use Rattle.verdict.specs.Verdict.{Agreement, verdict}

-- of what both come to, each with its base
abbrev pub verdict_of : (base base' : ℕ) → (snapshot target : Outcome (El manifest)) → Result Agreement SideRefusal
verdict_of base base' (refused q p) o = Err (Snapshot (outside base (refusal q p)))
verdict_of base base' (got v n) (refused q p) = Err (Target (outside base' (refusal q p)))
verdict_of base base' (got v n) (got w m) = Ok (verdict v w)

-- "A refused snapshot leaves the target's index untouched"
abbrev pub unless_refused : (snapshot : Outcome (El manifest)) → (untouched after : List ℕ) → List ℕ
unless_refused (refused q p) l l' = l
unless_refused (got v n) l l' = l'

-- the answer of `compare_manifests`, and the target's index at its end
module _ (bound : List (List ℕ)) (s : List ℕ) (base revision : ℕ) (index : List ℕ) (t : List ℕ) (base' revision' : ℕ) (index' : List ℕ) where
  unfoldable pub compare_manifests : Result Agreement SideRefusal
  compare_manifests = verdict_of base base' (judge bound revision s (length index)) (judge bound revision' t (length index'))

  unfoldable pub target_index : List ℕ
  target_index = unless_refused (judge bound revision s (length index)) index' (decoded_index bound t revision' index')
