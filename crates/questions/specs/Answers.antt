-- The whole answer of a call on a manifest, and what it leaves of the lent index.
use Rattle.std.specs.Prelude.{Result, Ok, Err, ℕ, ◌-◌, List, ◌++◌, cond, length, replicate, leb, eqb}
use Rattle.state.specs.Outcome.{Outcome, got, refused, bind, heed, offset_of, refusal}
use Rattle.state.specs.declared.Starts.{Starts}
use Rattle.state.specs.declared.Refusal.{Refusal}
use Rattle.state_wire.specs.Fields.{max_snapshot_bytes}
use Rattle.format.specs.Format.{El}
use Rattle.format.specs.Manifest.{manifest}
use Rattle.format.specs.Places.{manifest_starts}
use Rattle.format.specs.Reading.{read_manifest}
use Rattle.questions.specs.Order.{first_failing}

-- questions 1 to 32 of bytes and of an index that has so many words; 11 to 32 stand at the manifest's end: "Then over the whole, offset base + n"
unfoldable pub judge : (bound : List (List ℕ)) → (revision : ℕ) → List ℕ → (index : ℕ) → Outcome (El manifest)
judge bound revision s w = bind (read_manifest max_snapshot_bytes s w) (λ m n. heed (first_failing bound revision m) n (got m n))

-- "Before reading .. (offset 0)"; after that "Offsets are base plus position"
abbrev pub offset_at : (base question position : ℕ) → ℕ
offset_at base q p = cond (leb q 2) 0 (offset_of base p)

-- a refusal as it stands outside
abbrev pub outside : (base : ℕ) → Refusal ℕ → Refusal ℕ
outside base d = refusal d.question.0 (offset_at base d.question.0 d.at)

-- "the twelve section starts come back together in one record"
abbrev pub starts_of : List ℕ → Starts
starts_of ps = record { at = ps }

-- "A refusal is number and offset"; acceptance gives the starts
abbrev pub Decoded : Type 0
Decoded = Result Starts (Refusal ℕ)

abbrev pub decoded_of : (base : ℕ) → List ℕ → Outcome (El manifest) → Decoded
decoded_of base s (got m n) = Ok (starts_of (manifest_starts max_snapshot_bytes s))
decoded_of base s (refused q p) = Err (outside base (refusal q p))

-- "After acceptance the twelve section starts come back .. in its first twelve words ..; all other words are 0. After refusal 2 it is
-- untouched; after any other refusal it is all 0"
abbrev pub index_after : (s index : List ℕ) → Outcome (El manifest) → List ℕ
index_after s index (got m n) = manifest_starts max_snapshot_bytes s ++ replicate (length index - 12) 0
index_after s index (refused q p) = cond (eqb q 2) index (replicate (length index) 0)

-- the answer of `decode_manifest`, and the index at its end
unfoldable pub decode_manifest : (bound : List (List ℕ)) → List ℕ → (base revision : ℕ) → (index : List ℕ) → Decoded
decode_manifest bound s base revision index = decoded_of base s (judge bound revision s (length index))

unfoldable pub decoded_index : (bound : List (List ℕ)) → List ℕ → (revision : ℕ) → (index : List ℕ) → List ℕ
decoded_index bound s revision index = index_after s index (judge bound revision s (length index))
