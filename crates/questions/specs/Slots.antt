-- Questions 21 to 24: the state words that slots hold.
use Rattle.std.specs.Prelude.{ℕ, ◌+◌, ◌^◌, List, [], ◌∷◌, map, Bool, true, not, cond, ◌&&◌, ◌||◌, ltb, leb, eqb}
use Rattle.format.specs.Lists.{same}
use Rattle.format.specs.Format.{El, encode}
use Rattle.format.specs.Keys.{block_key}
use Rattle.format.specs.Manifest.{blocks, state_slots, manifest}
use Rattle.format.specs.Fields.{Entry, blocks_of, slots_of, block_key_of, state_len, slot_key, slot_offset, slot_length}
use Rattle.questions.specs.Sets.{all, keep, same_set, ◌unless◌, first}
use Rattle.questions.specs.Declarations.{block_names, is_stateful}

unfoldable pub slot_name : Entry state_slots → List ℕ
slot_name e = encode block_key (slot_key e)

-- "21. Slot keys equal the stateful blocks?"
unfoldable pub slot_keys_are : List (Entry state_slots) → List (Entry blocks) → Bool
slot_keys_are es bs = same_set (map slot_name es) (block_names (keep is_stateful bs))

-- "22. Slot by slot in wire order: length equals the block's?"
unfoldable pub length_is : List (Entry blocks) → Entry state_slots → Bool
length_is bs e = all (λ b. not (same (encode block_key (block_key_of b)) (slot_name e)) || eqb (slot_length e) (state_len b)) bs

-- "23. then offset + length below 2^64?"
unfoldable pub end_fits : Entry state_slots → Bool
end_fits e = ltb (slot_offset e + slot_length e) (2 ^ 64)

unfoldable pub slot_answer : List (Entry blocks) → Entry state_slots → ℕ
slot_answer bs e = first (22 unless (length_is bs e) ∷ 23 unless (end_fits e) ∷ [])

-- ---- "24. Sorted by offset, do slots start at 0 and join?" A slot's words: the first, and how many
unfoldable pub words : Entry state_slots → ℕ × ℕ
words e = (slot_offset e, slot_length e)

-- into words in order, before the first that starts later
unfoldable pub insert : ℕ × ℕ → List (ℕ × ℕ) → List (ℕ × ℕ)
insert w [] = w ∷ []
insert w (x ∷ xs) = cond (leb w.0 x.0) (w ∷ x ∷ xs) (x ∷ insert w xs)

unfoldable pub by_offset : List (ℕ × ℕ) → List (ℕ × ℕ)
by_offset [] = []
by_offset (w ∷ ws) = insert w (by_offset ws)

-- each starts where the one before it ended, the first at a word
unfoldable pub join_from : ℕ → List (ℕ × ℕ) → Bool
join_from at [] = true
join_from at (w ∷ ws) = eqb w.0 at && join_from (w.0 + w.1) ws

unfoldable pub slots : El manifest → List ℕ
slots m =
    21 unless (slot_keys_are (slots_of m) (blocks_of m))
    ∷ first (map (slot_answer (blocks_of m)) (slots_of m))
    ∷ 24 unless (join_from 0 (by_offset (map words (slots_of m))))
    ∷ []
