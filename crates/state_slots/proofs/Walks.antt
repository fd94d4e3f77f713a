-- The walk over stateful blocks and slots, one turn at a time.
use Prim.Native.Nat.{ℕ, ◌+◌, ◌≤◌, ◌<◌}
use native.Mathlib.Numerals.{add-one}
use mathlib.Core.Path.{◌≡◌, refl, sym, ap, ◌∙◌, subst}
use mathlib.Core.Bool.{Bool, true, false, ◌&&◌}
use mathlib.Core.List.{List, [], ◌∷◌, map}
use lib.ListN.{length, get_or, drop, drop_of_length-le}
use lib.Seq.{drop-cons}
use denote.Param.Members.{Mut}
use denote.Ref.{Bor}
use Rattle.std.specs.Prelude.{Option, Some, None, Result, Ok, Err}
use Rattle.std.specs.Bool.{⊤}
use Rattle.std.specs.Fn.{CalledAt}
use Rattle.std.specs.Iterator.{Yields}
use Rattle.std.specs.List.{FoldsTo}
use Rattle.std.specs.Option.{MatchOption, is_some, ok_or}
use Rattle.std.proofs.Common.{Iter}
use Rattle.std.specs.Slice.Iter.{iter_rest, iter_steps}
use Rattle.state.specs.declared.Question.{Question}
use Rattle.state.specs.Outcome.{said}
use Rattle.format.specs.Lists.{same}
use Rattle.format.specs.Manifest.{blocks, state_slots}
use Rattle.format.specs.Places.{key_at}
use Rattle.questions.specs.Sets.{keep, ◌unless◌, first}
use Rattle.questions.specs.Declarations.{is_stateful}
use Rattle.questions.proofs.Chains.{first_one, answered-yes, answered-no, lacked, had}
use Rattle.state_slots.proofs.Lists.{empty}
use Rattle.state_slots.specs.Walk.{block_at, slot_at, stateful_of, NextStateful, pairwise, same_lists, keys_agree, pair_answer, key_asked, words_asked}

-- ---- the next stateful block
module _ (s : List ℕ) {F : Type 0} {g : Mut F (Bor (Bor ℕ) × Unit {0}) Bool} (f : F)
    (yes : (x : Bor ℕ) (q : F) → CalledAt g f x true q → is_stateful (block_at s x.now) ≡ true)
    (no : (x : Bor ℕ) (q : F) → CalledAt g f x false q → (q ≡ f) × (is_stateful (block_at s x.now) ≡ false)) where
  found : (a u : Iter ℕ) (r : Option (Bor ℕ)) → iter_steps a r u → MatchOption r ⊤ (λ x. (h : F) × CalledAt g f x true h) → NextStateful s (iter_rest a) (iter_rest u) r
  unfolding keep
  found a u None e m = record { next = rw (empty (iter_rest a) e.0) }
  found a u (Some x) e m = record { next = rw (e, yes x m.0 m.1) }

  passed : (xs : List (Bor ℕ)) (a t u : Iter ℕ) (r : Option (Bor ℕ)) (j : F) → Yields iter_steps a xs t → iter_steps t r u
      → FoldsTo (λ p x q. CalledAt g p x false q) f xs j → MatchOption r ⊤ (λ x. (h : F) × CalledAt g j x true h) → NextStateful s (iter_rest a) (iter_rest u) r
  unfolding keep
  passed [] a t u r j y e k m = subst (λ b. NextStateful s (iter_rest b) (iter_rest u) r) (sym y) (found t u r e (subst (λ p. MatchOption r ⊤ (λ x. (h : F) × CalledAt g p x true h)) (sym k) m))
  passed (x ∷ xs) a t u r j y e k m =
      let n = no x k.0 k.1 in
      let h : stateful_of s (iter_rest a) ≡ stateful_of s (iter_rest y.0) = rw (y.1, n.1) in
      record { next = rw h (passed xs y.0 t u r j y.2 e (subst (λ p. FoldsTo (λ p x q. CalledAt g p x false q) p xs j) n.0 k.2) m).next }

  pub next_found : (a u : Iter ℕ) (r : Option (Bor ℕ)) → (xs : List (Bor ℕ)) × (j : F) × ((t : Iter ℕ) × Yields iter_steps a xs t × iter_steps t r u)
      × FoldsTo (λ p x q. CalledAt g p x false q) f xs j × MatchOption r ⊤ (λ x. (h : F) × CalledAt g j x true h) → NextStateful s (iter_rest a) (iter_rest u) r
  next_found a u r h = passed h.0 a h.2.0 u r h.1 h.2.1 h.2.2 h.3 h.4

-- ---- the answer to all is that for the blocks that are left and the slots from the i-th on
pub record Walking (f : ℕ → ℕ → ℕ) (s bs es left : List ℕ) (i : ℕ) : Type 0 where
  pub is : pairwise f (stateful_of s bs) es ≡ pairwise f (stateful_of s left) (drop i es)

pub walk_start : (f : ℕ → ℕ → ℕ) (s bs es : List ℕ) → Walking f s bs es bs 0
walk_start f s bs es = record { is = refl }

module _ {f : ℕ → ℕ → ℕ} {s bs es left : List ℕ} {i : ℕ} (g : Walking f s bs es left i) {next : Option (Bor ℕ)} {after : List ℕ} (n : NextStateful s left after next) where
  abbrev whole : ℕ
  whole = pairwise f (stateful_of s bs) es

  module _ (h : length es ≤ i) where
    over : whole ≡ pairwise f (stateful_of s left) []
    over = rw (← drop_of_length-le es h) g.is

    pub walk-over : is_some next ≡ false → Ok tt ≡ said whole
    unfolding pairwise
    walk-over e = rw (over, nothing next n e)
      where
        nothing : (o : Option (Bor ℕ)) → NextStateful s left after o → is_some o ≡ false → stateful_of s left ≡ []
        nothing None m e = m.next
        nothing (Some b) m e = cc

    pub walk-block : is_some next ≡ true → Err (record { 0 = 21 }) ≡ said whole
    unfolding pairwise
    walk-block e = let p = something next n e in rw (over, p.1)
      where
        something : (o : Option (Bor ℕ)) → NextStateful s left after o → is_some o ≡ true → (b : Bor ℕ) × (stateful_of s left ≡ b.now ∷ stateful_of s after)
        something None m e = cc
        something (Some b) m e = (b, m.next)

  module _ (h : i < length es) {found : Result (Bor ℕ) Question} (o : found ≡ ok_or next (record { 0 = 21 })) where
    abbrev slot : ℕ
    slot = get_or es i 0

    this : drop i es ≡ slot ∷ drop (i + 1) es
    this = rw (add-one i) (drop-cons es i 0 h)

    pub walk-slot : {q : Question} → found ≡ Err q → Err q ≡ said whole
    unfolding pairwise
    walk-slot e =
        let p = lacked next _ o e in
        let m : stateful_of s left ≡ [] = (subst (NextStateful s left after) p.0 n).next in
        rw (p.1, g.is, m, this)

    module _ {b : Bor ℕ} (e : found ≡ Ok b) {r : Result Unit Question} (a : r ≡ said (f b.now slot)) where
      turn : whole ≡ first (f b.now slot ∷ pairwise f (stateful_of s after) (drop (i + 1) es) ∷ [])
      unfolding pairwise
      turn =
          let m : stateful_of s left ≡ b.now ∷ stateful_of s after = (subst (NextStateful s left after) (had next _ o e) n).next in
          rw (g.is, m, this)

      pub walk-no : {q : Question} → r ≡ Err q → Err q ≡ said whole
      walk-no i = answered-no _ a i _ ∙ ap said (sym turn)

      pub walk-on : {u : Unit} → r ≡ Ok u → Walking f s bs es after (i + 1)
      walk-on i = record { is = turn ∙ sym (answered-yes _ a i _) ∙ first_one _ }

-- ---- what is asked of positions is asked of what stands there
pairwise-map : {A B C D : Type 0} (f : C → D → ℕ) (g : A → C) (h : B → D) (bs : List A) (es : List B) → pairwise (λ b e. f (g b) (h e)) bs es ≡ pairwise f (map g bs) (map h es)
unfolding pairwise
pairwise-map f g h [] [] = refl
pairwise-map f g h [] (e ∷ es) = refl
pairwise-map f g h (b ∷ bs) [] = refl
pairwise-map f g h (b ∷ bs) (e ∷ es) = rw (pairwise-map f g h bs es)

pairwise-same : (ks ls : List (List ℕ)) → pairwise (λ k l. 21 unless (same l k)) ks ls ≡ 21 unless (same_lists ls ks)
unfolding pairwise same_lists ◌unless◌ first
pairwise-same [] [] = refl
pairwise-same [] (l ∷ ls) = refl
pairwise-same (k ∷ ks) [] = refl
pairwise-same (k ∷ ks) (l ∷ ls) = go (same l k) (pairwise-same ks ls)
  where
    go : (b : Bool) → pairwise (λ k l. 21 unless (same l k)) ks ls ≡ 21 unless (same_lists ls ks)
        → first (21 unless b ∷ pairwise (λ k l. 21 unless (same l k)) ks ls ∷ []) ≡ 21 unless (b && same_lists ls ks)
    go true h = first_one _ ∙ h
    go false h = refl

module _ (s : List ℕ) (bs es : List ℕ) where
  pub keys-asked : pairwise (key_asked s) bs es ≡ 21 unless (keys_agree s bs es)
  keys-asked = pairwise-map (λ k l. 21 unless (same l k)) (key_at blocks s) (key_at state_slots s) bs es ∙ pairwise-same (map (key_at blocks s) bs) (map (key_at state_slots s) es)

  pub words-asked : pairwise (words_asked s) bs es ≡ pairwise pair_answer (map (block_at s) bs) (map (slot_at s) es)
  words-asked = pairwise-map pair_answer (block_at s) (slot_at s) bs es

-- for `for_pairs`
pub ruleset walk = (walk_start, walk-over, walk-block, walk-slot, walk-no, walk-on)
