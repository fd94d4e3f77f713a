-- The answers of the walks are those of the questions, of a manifest that was read and whose declarations hold.
use Prim.Native.Nat.{ℕ, ◌+◌, ◌^◌, ◌≤◌, ◌<◌}
use native.Mathlib.Omega.{arith}
use mathlib.Core.Path.{◌≡◌, sym, ap, ◌∙◌, subst}
use mathlib.Core.Bool.{Bool, true, false}
use mathlib.Core.List.{List, [], ◌∷◌, map, map-map}
use lib.ListN.{length, take, drop}
use Rattle.std.specs.Prelude.{Result, Ok, Err}
use Rattle.state.specs.declared.Question.{Question}
use Rattle.state.specs.Outcome.{said}
use Rattle.format.specs.Format.{late, wire}
use Rattle.format.specs.Manifest.{blocks, state_slots}
use Rattle.format.specs.Fields.{Entry, blocks_of, slots_of, block_key_of, slot_key, state_len}
use Rattle.format.specs.Admits.{All}
use Rattle.format.specs.Places.{key_at}
use Rattle.format.proofs.Pairwise.{ascending-iff}
use Rattle.questions.specs.Sets.{keep, ◌unless◌, first}
use Rattle.questions.specs.Declarations.{block_names, is_stateful, declarations}
use Rattle.questions.specs.Slots.{slot_name, slot_keys_are, slot_answer, words, by_offset, join_from, slots}
use Rattle.questions.proofs.Chains.{first_one, unless-none, answered-none, answered-yes, answered-no}
use Rattle.questions.proofs.Kept.{all_so, all_of_map, keep_all}
use Rattle.questions.proofs.Ascends.{Ascends, ascends, keep-ascends}
use Rattle.questions.proofs.Named.{block_name, Alone, each-alone}
use Rattle.state_layout.specs.Tables.{manifest_of, table_of, room_start, Laid, Tabled, Table}
use Rattle.state_layout.proofs.Indexed.{table-blocks, table-slots, table_long, rows, room_behind, laid_of, laid_front, leaves_split}
use Rattle.state_layout.proofs.Names.{keys-are, names-blocks}
use Rattle.state_slots.specs.Walk.{block_at, slot_at, stateful_of, same_lists, keys_agree, pairwise, pair_answer, key_asked, words_asked, Held}
use Rattle.state_slots.proofs.Lists.{keep-map, keep-alike}
use Rattle.state_slots.proofs.Agree.{lists-same, same_set-lists}
use Rattle.state_slots.proofs.Walks.{keys-asked, words-asked}
use Rattle.state_slots.proofs.Answers.{blocks-some, slot-answers, pairs-none}

module _ {s tables bw ew : List ℕ} (t : Laid s tables) (eb : bw ≡ table_of 3 s tables) (ee : ew ≡ table_of 9 s tables) where
  abbrev bs : List (Entry blocks)
  bs = blocks_of (manifest_of s)

  abbrev ss : List (Entry state_slots)
  ss = slots_of (manifest_of s)

  abbrev stateful : List ℕ
  stateful = stateful_of s bw

  of_blocks : Table blocks s bw bs
  of_blocks = rw eb (table-blocks t)

  of_slots : Table state_slots s ew ss
  of_slots = rw ee (table-slots t)

  -- ---- the walked words are these entries
  stateful-values : map (block_at s) stateful ≡ keep is_stateful bs
  stateful-values = sym (keep-map (block_at s) is_stateful bw) ∙ ap (keep is_stateful) of_blocks.values

  stateful-keys : map (key_at blocks s) stateful ≡ map block_name (keep is_stateful bs)
  unfolding block_names
  stateful-keys =
      keep-alike (key_at blocks s) (λ p. block_name (block_at s p)) (λ p. is_stateful (block_at s p)) bw
      (names-blocks t.bytes of_blocks ∙ ap (map block_name) (sym of_blocks.values) ∙ map-map block_name (block_at s) bw)
      ∙ sym (map-map block_name (block_at s) stateful)
      ∙ ap (map block_name) stateful-values

  slot-keys : map (key_at state_slots s) ew ≡ map slot_name ss
  unfolding slot_name slot_key
  slot-keys = keys-are state_slots s t.bytes of_slots

  blocks-ascend : Ascends (map block_name bs)
  unfolding block_key_of
  blocks-ascend = ascends (map block_name bs) ((ascending-iff (late wire) tt (map block_name bs)).0 of_blocks.order)

  slots-ascend : Ascends (map slot_name ss)
  unfolding slot_name slot_key
  slots-ascend = ascends (map slot_name ss) ((ascending-iff (late wire) tt (map slot_name ss)).0 of_slots.order)

  -- ---- 21
  agreed : keys_agree s stateful ew ≡ same_lists (map slot_name ss) (map block_name (keep is_stateful bs))
  agreed = rw (slot-keys, stateful-keys)

  keys-answer : pairwise (key_asked s) stateful ew ≡ 21 unless (slot_keys_are ss bs)
  unfolding slot_keys_are block_names
  keys-answer = keys-asked s stateful ew ∙ ap (◌unless◌ 21) (agreed ∙ same_set-lists (map slot_name ss) (map block_name (keep is_stateful bs)) slots-ascend (keep-ascends block_name is_stateful bs blocks-ascend))

  module _ {r : Result Unit Question} (er : r ≡ said (pairwise (key_asked s) stateful ew)) where
    pub asked-21 : {q : Question} → r ≡ Err q → Err q ≡ said (first (slots (manifest_of s)))
    unfolding slots
    asked-21 h = answered-no _ (er ∙ ap said keys-answer) h _

    -- ---- 22 and 23
    module _ {u : Unit} (h : r ≡ Ok u) where
      names : map slot_name ss ≡ map block_name (keep is_stateful bs)
      names = lists-same (map slot_name ss) (map block_name (keep is_stateful bs)) (sym agreed ∙ unless-none 20 _ (sym (keys-asked s stateful ew) ∙ answered-none _ er h))

      paired : pairwise (words_asked s) stateful ew ≡ pairwise pair_answer (keep is_stateful bs) ss
      paired = words-asked s stateful ew ∙ rw (stateful-values, of_slots.values)

      slots-answer : pairwise (words_asked s) stateful ew ≡ first (map (slot_answer bs) ss)
      slots-answer =
          paired
          ∙ sym (slot-answers bs (keep is_stateful bs) ss (all_so (λ b h. h.0) (keep is_stateful bs) (keep_all is_stateful (Alone block_name bs) bs (each-alone block_name bs blocks-ascend))) names)

      to_slots : (qs : List ℕ) → first (first (map (slot_answer bs) ss) ∷ qs) ≡ first (21 unless (slot_keys_are ss bs) ∷ first (map (slot_answer bs) ss) ∷ qs)
      to_slots qs = answered-yes _ (er ∙ ap said keys-answer) h (first (map (slot_answer bs) ss) ∷ qs)

      module _ {r' : Result Unit Question} (er' : r' ≡ said (pairwise (words_asked s) stateful ew)) where
        pub asked-22 : {q : Question} → r' ≡ Err q → Err q ≡ said (first (slots (manifest_of s)))
        unfolding slots
        asked-22 k = answered-no _ (er' ∙ ap said slots-answer) k _ ∙ ap said (to_slots _)

        -- ---- 24
        module _ {u' : Unit} (h' : r' ≡ Ok u') where
          to-cover : (q : ℕ) → q ≡ first (21 unless (slot_keys_are ss bs) ∷ first (map (slot_answer bs) ss) ∷ q ∷ [])
          to-cover q = sym (first_one q) ∙ answered-yes _ (er' ∙ ap said slots-answer) h' (q ∷ []) ∙ to_slots (q ∷ [])

          pub cover-held : first (declarations (manifest_of s)) ≡ 0 → All (λ p. Held (slot_at s p)) ew
          cover-held d = all_of_map (slot_at s) Held ew (subst (All Held) (sym of_slots.values) all_held)
            where
              all_held : All Held ss
              all_held =
                  pairs-none (keep is_stateful bs) ss names (sym paired ∙ answered-none _ er' h')
                  (all_so (λ b h. h.0 h.1) (keep is_stateful bs) (keep_all is_stateful (λ b. is_stateful b ≡ true → 0 < state_len b) bs (blocks-some (manifest_of s) d)))

          module _ {c : Bool} (ec : c ≡ join_from 0 (by_offset (map (λ p. words (slot_at s p)) ew))) where
            joined : c ≡ join_from 0 (by_offset (map words ss))
            joined = ec ∙ ap (λ l. join_from 0 (by_offset l)) (sym (map-map words (slot_at s) ew) ∙ ap (map words) of_slots.values)

            covered : 24 unless c ≡ first (slots (manifest_of s))
            unfolding slots
            covered = ap (◌unless◌ 24) joined ∙ to-cover _

            pub asked-24 : c ≡ false → Err (record { 0 = 24 }) ≡ said (first (slots (manifest_of s)))
            unfolding ◌unless◌
            asked-24 h = rw (← covered, h)

            pub all_asked : c ≡ true → Ok tt ≡ said (first (slots (manifest_of s)))
            unfolding ◌unless◌
            all_asked h = rw (← covered, h)

-- the room behind the tables has two words for each slot
pub cover-room : {s index ew : List ℕ} → Tabled s index → ew ≡ table_of 9 s (take (room_start s) index) → (length ew + length ew ≤ length (drop (room_start s) index)) × (length s < 2 ^ 32)
cover-room {s} {index} t e =
    let l = table_long (laid_front t) 9 (omega arith) in
    let r = room_behind t in
    let w = rows (manifest_of s) in
    (omega (arith, ap length e, l, r, w.slots), omega (arith, t.short))

-- for `validate_slots`
pub ruleset asked = (laid_of, laid_front, leaves_split, cover-room, asked-21, asked-22, asked-24, all_asked)
