-- Questions 21 to 24 by the words of the index, as the walks ask them.
use Rattle.std.specs.Prelude.{ℕ, ◌+◌, ◌^◌, ◌<◌, min, ◌≡◌, List, [], ◌∷◌, map, Bool, true, false, ◌&&◌, length, eqb, ltb, cond, Option, Some, None, MatchOption}
use denote.Ref.{Bor}
use Rattle.format.specs.Lists.{same}
use Rattle.format.specs.Manifest.{entry, blocks, state_slots}
use Rattle.format.specs.Fields.{Entry, state_len, slot_length}
use Rattle.format.specs.Places.{number_at, key_at}
use Rattle.format.specs.Values.{value_at}
use Rattle.questions.specs.Sets.{keep, ◌unless◌, first}
use Rattle.questions.specs.Declarations.{is_stateful}
use Rattle.questions.specs.Slots.{end_fits, words}

-- the entry at a position
abbrev pub block_at : List ℕ → ℕ → Entry blocks
block_at s p = value_at (entry blocks) s p

abbrev pub slot_at : List ℕ → ℕ → Entry state_slots
slot_at s p = value_at (entry state_slots) s p

-- the stateful blocks among those that words list
abbrev pub stateful_of : (s ps : List ℕ) → List ℕ
stateful_of s ps = keep (λ p. is_stateful (block_at s p)) ps

-- the next of them, and what is left behind it
pub record NextStateful (s old new : List ℕ) (r : Option (Bor ℕ)) : Type 0 where
  pub next : MatchOption r (stateful_of s old ≡ []) (λ p. stateful_of s old ≡ p.now ∷ stateful_of s new)

-- what blocks and slots are asked pair by pair; 21 where one is left alone
unfoldable pub pairwise : {A B : Type 0} → (A → B → ℕ) → List A → List B → ℕ
pairwise f [] [] = 0
pairwise f [] (e ∷ es) = 21
pairwise f (b ∷ bs) [] = 21
pairwise f (b ∷ bs) (e ∷ es) = first (f b e ∷ pairwise f bs es ∷ [])

-- one list is the other
unfoldable pub same_lists : List (List ℕ) → List (List ℕ) → Bool
same_lists [] [] = true
same_lists [] (l ∷ ls) = false
same_lists (k ∷ ks) [] = false
same_lists (k ∷ ks) (l ∷ ls) = same k l && same_lists ks ls

-- the slots at positions have the keys of the blocks at positions, one by one
abbrev pub keys_agree : List ℕ → (bs es : List ℕ) → Bool
keys_agree s bs es = same_lists (map (key_at state_slots s) es) (map (key_at blocks s) bs)

-- 22 and 23 of a slot and its block
unfoldable pub pair_answer : Entry blocks → Entry state_slots → ℕ
pair_answer b e = first (22 unless (eqb (slot_length e) (state_len b)) ∷ 23 unless (end_fits e) ∷ [])

-- what a block and a slot at positions are asked: 21, and 22 and 23
abbrev pub key_asked : List ℕ → (block slot : ℕ) → ℕ
key_asked s block slot = 21 unless (same (key_at state_slots s slot) (key_at blocks s block))

abbrev pub words_asked : List ℕ → (block slot : ℕ) → ℕ
words_asked s block slot = pair_answer (block_at s block) (slot_at s slot)

-- the words of a slot whose offset stands at a position: the first, and how many
abbrev pub words_at : List ℕ → ℕ → ℕ × ℕ
words_at s p = (number_at 8 s p, number_at 8 s (min (p + 8) (length s)))

-- they end below 2^64
abbrev pub Ends : ℕ × ℕ → Type 0
Ends w = w.0 + w.1 < 2 ^ 64

-- where they end, if they start where it is expected
abbrev pub end_of : (expected : ℕ) → ℕ × ℕ → Option ℕ
end_of n w = cond (eqb w.0 n && ltb (w.0 + w.1) (2 ^ 64)) (Some (w.0 + w.1)) None

-- a slot holds some words, and they end so
abbrev pub Held : Entry state_slots → Type 0
Held e = (0 < slot_length e) × Ends (words e)
