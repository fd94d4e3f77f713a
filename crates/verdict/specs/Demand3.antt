-- Demand 3, sentence by sentence: of the bytes of a snapshot's manifest and a target's, each accepted, and of the verdict on them; and of the
-- slots of an accepted manifest. proofs/Demand3.antt proves it of the calls' answers, and the calls promise it.
use Rattle.std.specs.Prelude.{ℕ, ◌+◌, ◌≤◌, ◌<◌, ◌≡◌, ◌↔◌, Result, Ok, Err, IsOk, IsOkAnd, List, map, length, get_or, take}
use Rattle.state.specs.Outcome.{got}
use Rattle.state.specs.declared.Difference.{Difference}
use Rattle.state.specs.declared.Refusal.{Refusal}
use Rattle.state.specs.declared.SideRefusal.{SideRefusal}
use Rattle.state.specs.declared.Units.{Units}
use Rattle.state_wire.specs.Fields.{max_snapshot_bytes}
use Rattle.format.specs.Format.{El}
use Rattle.format.specs.Manifest.{manifest}
use Rattle.format.specs.Fields.{blocks_of, slots_of, state_len}
use Rattle.format.specs.Places.{section_start, section_end}
use Rattle.questions.specs.Sets.{keep, sum}
use Rattle.questions.specs.Declarations.{is_stateful}
use Rattle.questions.specs.Slots.{words}
use Rattle.questions.specs.Answers.{judge, decode_manifest}
use Rattle.questions.specs.Units.{word_total}
use Rattle.verdict.specs.Verdict.{Agreement}

-- ---- the verdict
-- "equal in length and in every byte"
pub record Equal (s t : List ℕ) : Type 0 where
  pub long : length s ≡ length t
  pub bytes : (i : ℕ) → i < length s → get_or s i 0 ≡ get_or t i 0

-- "the section that the verdict names": section k
pub record Named (s t : List ℕ) (k : ℕ) : Type 0 where
  pub numbered : (1 ≤ k) × (k ≤ 12)
  -- ".. starts at the same position in both, all bytes before it are equal"
  pub starts : section_start max_snapshot_bytes k s ≡ section_start max_snapshot_bytes k t
  pub before : take (section_start max_snapshot_bytes k s) s ≡ take (section_start max_snapshot_bytes k t) t
  -- "and there is a first position at which the two differ"
  pub first : ℕ
  pub alike : take first s ≡ take first t
  pub differs : get_or s first 0 ≡ get_or t first 0 → ⊥
  -- "which lies inside that section in both"
  pub from : section_start max_snapshot_bytes k s ≤ first
  pub in-snapshot : first < section_end max_snapshot_bytes k s
  pub in-target : first < section_end max_snapshot_bytes k t

-- a verdict that names a section
pub record Differing (s t : List ℕ) (v : Agreement) : Type 0 where
  pub difference : Difference
  pub is : v ≡ Err difference
  pub named : Named s t difference.section

-- "the verdict is compatible exactly when the two are equal in length and in every byte. Otherwise .."
pub record VerdictRight (s t : List ℕ) (v : Agreement) : Type 0 where
  pub compatible : v ≡ Ok tt ↔ Equal s t
  pub otherwise : (v ≡ Ok tt → ⊥) → Differing s t v

-- what `compare_manifests` promises of its answer: "For every snapshot's manifest and every target's, each accepted, whatever their bases and
-- revisions"
abbrev pub VerdictDemand : (bound : List (List ℕ)) → (s : List ℕ) (base revision : ℕ) (index : List ℕ) → (t : List ℕ) (base' revision' : ℕ) (index' : List ℕ) → Result Agreement SideRefusal → Type 0
VerdictDemand bound s base revision index t base' revision' index' r =
    IsOk (decode_manifest bound s base revision index) → IsOk (decode_manifest bound t base' revision' index') → IsOkAnd r (VerdictRight s t)

-- ---- the words
-- "A slot holds the state words from its offset on, as many as its length"
abbrev pub HoldsWord : ℕ × ℕ → ℕ → Type 0
HoldsWord slot x = (slot.0 ≤ x) × (x < slot.0 + slot.1)

-- word x "is held by exactly one slot"
pub record HeldOnce (slots : List (ℕ × ℕ)) (x : ℕ) : Type 0 where
  pub place : ℕ
  pub there : place < length slots
  pub holds : HoldsWord (get_or slots place (0, 0)) x
  pub only : (j : ℕ) → j < length slots → HoldsWord (get_or slots j (0, 0)) x → j ≡ place

-- "the sum of the stateful blocks' lengths", "in whole numbers, the lengths that section 3 gives"
unfoldable pub state_words : El manifest → ℕ
state_words m = sum (map state_len (keep is_stateful (blocks_of m)))

pub record WordsHeld (m : El manifest) : Type 0 where
  -- "where state words are numbered from 0, each one below the sum .. is held by exactly one slot"
  pub held : (x : ℕ) → x < state_words m → HeldOnce (map words (slots_of m)) x
  -- "no slot reaches further"
  pub within : (j : ℕ) → j < length (slots_of m) → (x : ℕ) → HoldsWord (get_or (map words (slots_of m)) j (0, 0)) x → x < state_words m
  -- "and that sum is the word total wherever one is given"
  pub total : word_total (slots_of m) ≡ state_words m

-- what `units` promises of its answer: "In each accepted manifest", m as it was read
abbrev pub WordsDemand : (bound : List (List ℕ)) → (s : List ℕ) (revision : ℕ) (index : List ℕ) → Result Units (Refusal ℕ) → Type 0
WordsDemand bound s revision index r =
    (m : El manifest) (n : ℕ) → judge bound revision s (length index) ≡ got m n → WordsHeld m × ((u : Units) → r ≡ Ok u → u.words ≡ state_words m)
