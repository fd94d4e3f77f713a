-- The fields of blocks and slots, where they stand.
use Prim.Native.Nat.{ℕ, ◌+◌, ◌^◌, ◌≤◌, ◌<◌, min}
use mathlib.Core.Path.{◌≡◌, refl}
use mathlib.Core.Bool.{Bool, true, false}
use mathlib.Core.List.{List}
use lib.ListN.{length, get_or}
use lib.Dec.{eqb}
use borrow.Author.Tests.{eq-eqb, ne_eqb, lt-ltb, le-ltb}
use Rattle.std.specs.Prelude.{Ok, Err}
use Rattle.state.specs.Outcome.{said}
use Rattle.format.specs.Lists.{same}
use Rattle.format.specs.Format.{text}
use Rattle.format.specs.Keys.{block_key}
use Rattle.format.specs.Manifest.{block_head, block_rest, slot_rest, numbered, blocks, state_slots}
use Rattle.format.specs.Fields.{kind, state_len, slot_offset, slot_length}
use Rattle.format.specs.Places.{number_at, past, key_at}
use Rattle.format.specs.Values.{value_at}
use Rattle.questions.specs.Sets.{◌unless◌, first}
use Rattle.questions.specs.Declarations.{is_stateful}
use Rattle.questions.specs.Slots.{end_fits, words}
use Rattle.state_slots.specs.Walk.{block_at, slot_at, pair_answer, words_at}

module _ (s : List ℕ) (p : ℕ) where
  module _ {k : ℕ} (e : k ≡ past text s (past block_key s p)) where
    pub stateful_at : {b : ℕ} → b ≡ get_or s k 0 → eqb b 1 ≡ is_stateful (block_at s p)
    unfolding is_stateful kind value_at past block_rest block_head
    stateful_at f = rw (f, e)

    pub length_at : {a b n : ℕ} → a ≡ min (k + 1) (length s) → b ≡ min (a + 4) (length s) → n ≡ number_at 8 s b → n ≡ state_len (block_at s p)
    unfolding state_len value_at past block_rest block_head
    length_at f g h = rw (h, g, f, e)

  -- a slot's words stand after its key
  pub words-at : words (slot_at s p) ≡ words_at s (past block_key s p)
  unfolding words slot_offset slot_length value_at past slot_rest
  words-at = refl

module _ (s : List ℕ) (slot block : ℕ) {x y : List ℕ} {b : Bool} (e : x ≡ key_at (numbered 9) s slot) (f : y ≡ key_at (numbered 3) s block) (g : b ≡ same x y) where
  keys-at : b ≡ same (key_at state_slots s slot) (key_at blocks s block)
  unfolding numbered
  keys-at = rw (g, e, f)

  pub other_key : b ≡ false → Err (record { 0 = 21 }) ≡ said (21 unless (same (key_at state_slots s slot) (key_at blocks s block)))
  unfolding ◌unless◌
  other_key h = rw (← keys-at, h)

  pub same_key : b ≡ true → Ok tt ≡ said (21 unless (same (key_at state_slots s slot) (key_at blocks s block)))
  unfolding ◌unless◌
  same_key h = rw (← keys-at, h)

-- 22 and 23 of a slot, whose key ends at a and whose words start at o, n of them, and of its block, which has m
module _ (s : List ℕ) (block slot : ℕ) {a o b n m : ℕ} (ea : a ≡ past block_key s slot) (eo : o ≡ number_at 8 s a) (eb : b ≡ min (a + 8) (length s)) (en : n ≡ number_at 8 s b)
    (em : m ≡ state_len (block_at s block)) where
  starts : slot_offset (slot_at s slot) ≡ o
  unfolding slot_offset value_at slot_rest
  starts = rw (eo, ea)

  holds : slot_length (slot_at s slot) ≡ n
  unfolding slot_length value_at past slot_rest
  holds = rw (en, eb, ea)

  pub other_length : (n ≡ m → ⊥) → Err (record { 0 = 22 }) ≡ said (pair_answer (block_at s block) (slot_at s slot))
  unfolding pair_answer first ◌unless◌
  other_length h = rw (holds, ← em, ne_eqb n m h)

  pub ends_late : n ≡ m → 2 ^ 64 ≤ o + n → Err (record { 0 = 23 }) ≡ said (pair_answer (block_at s block) (slot_at s slot))
  unfolding pair_answer first ◌unless◌ end_fits
  ends_late h l = rw (starts, holds, ← em, eq-eqb n m h, le-ltb (o + n) (2 ^ 64) l)

  pub both_hold : n ≡ m → o + n < 2 ^ 64 → Ok tt ≡ said (pair_answer (block_at s block) (slot_at s slot))
  unfolding pair_answer first ◌unless◌ end_fits
  both_hold h l = rw (starts, holds, ← em, eq-eqb n m h, lt-ltb (o + n) (2 ^ 64) l)
