-- Demand 3, the words: of a manifest whose slots pass questions 21 to 24, each word below the sum of the stateful blocks' lengths is held by
-- exactly one slot, no slot reaches further, and that sum is the word total.
use Prim.Native.Nat.{ℕ, zero, suc, ◌≤◌, ◌<◌}
use native.Mathlib.Omega.{arith}
use mathlib.Core.Path.{◌≡◌, refl, sym, ap, ◌∙◌}
use mathlib.Core.Bool.{true}
use mathlib.Core.List.Permᴰ
use mathlib.Core.List.{List, [], ◌∷◌, map, map-map}
use lib.ListN.{length, get_or, length-map}
use borrow.Author.Tests.{eqb-true}
use Rattle.std.proofs.lemmas.Bool.{and_parts as both}
use Rattle.state_wire.specs.Fields.{max_snapshot_bytes}
use Rattle.format.specs.Format.{Fmt, El, late, wire, list, ◌then◌, encode}
use Rattle.format.specs.Keys.{block_key, connector_key}
use Rattle.format.specs.Manifest.{block_rest, connector_rest, slot_rest, blocks, state_slots, manifest}
use Rattle.format.specs.Fields.{Entry, blocks_of, connectors_of, slots_of, block_key_of, connector_key_of, state_len, slot_key, slot_length}
use Rattle.format.specs.Admits.{All, Holds}
use Rattle.format.proofs.Pairwise.{ascending-iff}
use Rattle.questions.specs.Sets.{keep, all_in, same_set, sum, first}
use Rattle.questions.specs.Declarations.{block_names, connector_names, is_stateful}
use Rattle.questions.specs.Slots.{slot_name, slot_keys_are, length_is, slot_answer, words, by_offset, join_from, slots}
use Rattle.questions.specs.Units.{word_total}
use Rattle.questions.proofs.Chains.{first_one, first-none, unless-none, each_none}
use Rattle.questions.proofs.Kept.{all_so, all_of_map, all-perm, keep_all}
use Rattle.questions.proofs.Ascends.{Ascends, ascends, same_if, keep-ascends}
use Rattle.questions.proofs.Named.{block_name, Alone, each-alone, length-is}
use Rattle.questions.proofs.Sorted.{sort-perm}
use Rattle.verdict.specs.Demand3.{HeldOnce, state_words, WordsHeld}
use Rattle.verdict.proofs.Once.{end, one, has, held, sum-perm, exactly-one, ends_by, held-once}

-- ---- the word total
-- no slot ends above it
ends-in-total : (es : List (Entry state_slots)) (j : ℕ) → j < length es → end (get_or (map words es) j (0, 0)) ≤ word_total es
unfolding word_total words
ends-in-total [] j h = absurd (omega arith)
ends-in-total (e ∷ es) zero h = omega arith
ends-in-total (e ∷ es) (suc j) h = omega (arith, ends-in-total es j (omega arith))

-- it is no more than where all end by
total-by : (n : ℕ) (es : List (Entry state_slots)) → All (λ e. end (words e) ≤ n) es → word_total es ≤ n
unfolding word_total words
total-by n [] h = omega arith
total-by n (e ∷ es) h = omega (arith, h.0, total-by n es h.1)

-- ---- the slots are the stateful blocks in their order, and as long
-- keys that passed question 9 ascend
pub keys-ascend : (least : ℕ) (key rest : Fmt) (es : List (El (key then rest))) → Holds max_snapshot_bytes (list 4 least (late wire) key rest) es
    → Ascends (map (λ e. encode key e.0) es)
unfolding Holds
keys-ascend least key rest es h =
    let ks : List (List ℕ) = map (λ e. encode key e.0) es in
    ascends ks ((ascending-iff (late wire) tt ks).0 h.2)

-- so do the connectors' names
pub connectors-ascend : (m : El manifest) → Holds max_snapshot_bytes manifest m → Ascends (connector_names (connectors_of m))
unfolding Holds manifest connectors_of connector_names connector_key_of
connectors-ascend m h = keys-ascend 19 connector_key connector_rest (connectors_of m) h.1.1.1.0

-- slots with the names of these blocks, each alone of its name, that pass question 22
same-lengths : (bs ks : List (Entry blocks)) (es : List (Entry state_slots)) → All (Alone block_name bs) ks → map slot_name es ≡ map block_name ks
    → All (λ e. slot_answer bs e ≡ 0) es → map slot_length es ≡ map state_len ks
unfolding slot_answer
same-lengths bs [] [] a n h = refl
same-lengths bs [] (e ∷ es) a n h = cc
same-lengths bs (b ∷ ks) [] a n h = cc
same-lengths bs (b ∷ ks) (e ∷ es) a n h =
    let l : length_is bs e ≡ true = unless-none 21 (length_is bs e) (first-none _ _ h.0).0 in
    rw (eqb-true (slot_length e) (state_len b) (sym (length-is bs b e a.0 (cc)) ∙ l), same-lengths bs ks es a.1 (cc) h.1)

module _ (m : El manifest) (h : Holds max_snapshot_bytes manifest m) (s : first (slots m) ≡ 0) where
  abbrev bs : List (Entry blocks)
  bs = blocks_of m

  abbrev es : List (Entry state_slots)
  es = slots_of m

  abbrev stateful : List (Entry blocks)
  stateful = keep is_stateful bs

  -- 9, of blocks and of slots
  blocks-ascend : Ascends (map block_name bs)
  unfolding Holds manifest blocks_of block_key_of
  blocks-ascend = keys-ascend 34 block_key block_rest bs h.1.1.0

  slots-ascend : Ascends (map slot_name es)
  unfolding Holds manifest slots_of slot_name slot_key
  slots-ascend = keys-ascend 21 block_key slot_rest es h.1.1.1.1.1.1.1.1.0

  -- 21: the slots have the names of the stateful blocks, in their order
  same_names : map slot_name es ≡ map block_name stateful
  unfolding slots slot_keys_are block_names same_set
  same_names =
      let b = both (all_in (map slot_name es) (map block_name stateful)) _ (unless-none 20 _ (first-none _ _ s).0) in
      same_if _ _ slots-ascend (keep-ascends block_name is_stateful bs blocks-ascend) b.0 b.1

  -- 22: they hold as many words
  sums : held (map words es) ≡ state_words m
  unfolding slots state_words words
  sums =
      ap sum (
      map-map (λ w. w.1) words es
      ∙ same-lengths bs stateful es
      (all_so (λ b p. p.0) stateful (keep_all is_stateful (Alone block_name bs) bs (each-alone block_name bs blocks-ascend))) same_names
      (each_none (slot_answer bs) es (first-none _ _ (first-none _ _ s).1).0))

  -- 24: by offset they join
  joined : join_from 0 (by_offset (map words es)) ≡ true
  unfolding slots
  joined = unless-none 23 _ (sym (first_one _) ∙ (first-none _ _ (first-none _ _ s).1).1)

  -- a sum over slots by offset is that over slots
  in_order : (g : ℕ × ℕ → ℕ) → sum (map g (map words es)) ≡ sum (map g (by_offset (map words es)))
  in_order g = sum-perm g (sort-perm (map words es))

  -- each word below the sum is in one slot
  each-once : (x : ℕ) → x < state_words m → HeldOnce (map words es) x
  each-once x l =
      held-once x (map words es)
      (in_order (λ w. one (has x w)) ∙ exactly-one 0 (by_offset (map words es)) joined x (omega arith) (omega (arith, sums, in_order (λ w. w.1))))

  -- the largest end is the sum
  total-is : word_total es ≡ state_words m
  total-is = omega (arith, below, above (state_words m) refl)
    where
      below : word_total es ≤ state_words m
      below =
          total-by (state_words m) es (all_of_map words (λ w. end w ≤ state_words m) es
          (all-perm (λ w. end w ≤ state_words m) (Permᴰ.symm (sort-perm (map words es)))
          (ends_by (state_words m) 0 (by_offset (map words es)) joined (omega (arith, sums, in_order (λ w. w.1))))))

      -- its last word is in a slot
      above : (n : ℕ) → state_words m ≡ n → n ≤ word_total es
      above zero e = omega arith
      above (suc n) e =
          let o = each-once n (omega arith) in
          omega (arith, o.holds.1, ends-in-total es o.place (omega (arith, o.there, length-map es words)))

  -- DEMAND 3, the words
  pub words-held : WordsHeld m
  words-held = record {
    held = each-once;
    within = λ j l x p. omega (arith, p.1, ends-in-total es j l, total-is);
    total = total-is;
  }
