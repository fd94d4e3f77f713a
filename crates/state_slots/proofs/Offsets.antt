-- The offsets of slots: gathered, sorted, and walked over.
use Prim.Native.Nat.{ℕ, zero, suc, ◌+◌, ◌^◌, ◌≤◌, ◌<◌, min}
use native.Mathlib.Omega.{arith}
use native.Mathlib.Numerals.{add-one}
use mathlib.Core.Path.{◌≡◌, refl, sym, ap, ◌∙◌, subst}
use mathlib.Core.Bool.{Bool, true, false, cond, ◌&&◌}
use mathlib.Core.List.{List, [], ◌∷◌, ◌++◌, map}
use lib.ListN.{length, get_or, take, drop, set, drop_of_length-le, length-set}
use lib.Seq.{drop-cons, take-suc-set}
use lib.Dec.{leb, ltb, eqb}
use denote.Param.Members.{Mut}
use denote.Ref.{Bor}
use borrow.Author.Tests.{lt-ltb}
use Rattle.std.proofs.Common.{Iter, append_assoc}
use Rattle.std.proofs.lemmas.List.{take-append-drop}
use Rattle.std.specs.Prelude.{Option, Some, None}
use Rattle.std.specs.Fn.{Called}
use Rattle.std.specs.Iterator.{Yields, TryFoldTurn, TryFoldsItems}
use Rattle.std.specs.declared.ops.ControlFlow.{ControlFlow}
use Rattle.std.specs.ControlFlow.{continue_value}
use Rattle.std.specs.List.{FoldsTo}
use Rattle.std.specs.Option.{MatchOption, is_some}
use Rattle.std.specs.Slice.Iter.{iter_rest, iter_steps}
use Rattle.format.specs.Format.{done, text, ◌then◌}
use Rattle.format.specs.Keys.{block_key}
use Rattle.format.specs.Admits.{All}
use Rattle.format.specs.Places.{past}
use Rattle.questions.specs.Slots.{words, by_offset, join_from}
use Rattle.questions.proofs.Kept.{all_so, all-to-map, all-perm}
use Rattle.state_index.specs.declared.SortKey.TheVariants.{Number}
use Rattle.state_index.specs.Keys.{at_most}
use Rattle.state_index.specs.Sort.{Below, Ordered, Sorts}
use Rattle.state_index.proofs.Sorting.{perm-map}
use Rattle.state_index.proofs.Texts.{most-number}
use Rattle.state_slots.specs.Walk.{slot_at, words_at, end_of, Ends, Held}
use Rattle.state_slots.proofs.Lists.{empty}
use Rattle.state_slots.proofs.Parts.{words-at}
use Rattle.state_slots.proofs.Joining.{Some as HasSome, InOrder, joins-in-order}

-- a block key ends within the bytes
pub key-within : (s : List ℕ) (p : ℕ) → past block_key s p ≤ length s
unfolding past block_key
key-within s p = go (get_or s p 0)
  where
    go : (t : ℕ) → past (get_or (text ∷ (text then text) ∷ []) t done) s (min (p + 1) (length s)) ≤ length s
    go zero = omega arith
    go (suc zero) = omega arith
    go (suc (suc t)) = omega arith

-- ---- gathered: those below the i-th are done
pub record Gathering (f : ℕ → ℕ) (slots l : List ℕ) (i : ℕ) : Type 0 where
  pub long : length l ≡ length slots
  pub is : take i l ++ map f (drop i slots) ≡ map f slots

pub gather-start : (f : ℕ → ℕ) (slots l : List ℕ) → length slots ≡ length l → Gathering f slots l 0
gather-start f slots l h = record { long = sym h; is = refl }

module _ {f : ℕ → ℕ} {slots l : List ℕ} {i : ℕ} (g : Gathering f slots l i) where
  pub gather-on : i < length slots → {x : ℕ} → x ≡ f (get_or slots i 0) → Gathering f slots (set l i x) (i + 1)
  gather-on h {x} e = record {
    long = simp length-set g.long;
    is =
        rw (add-one i, take-suc-set l i x (omega (arith, g.long)), append_assoc, e)
        (ap (λ r. take i l ++ map f r) (sym (drop-cons slots i 0 h)) ∙ g.is);
  }

  pub gather-end : length slots ≤ i → l ≡ map f slots
  gather-end h =
      let d : drop i l ≡ [] = drop_of_length-le l (omega (arith, g.long)) in
      let e : drop i slots ≡ [] = drop_of_length-le slots h in
      sym (take-append-drop i l) ∙ ap (λ r. take i l ++ r) (d ∙ ap (map f) (sym e)) ∙ g.is

-- ---- walked over: each starts where the one before it ends
module _ (n : ℕ) (w : ℕ × ℕ) where
  ended : {m : ℕ} → end_of n w ≡ Some m → (eqb w.0 n ≡ true) × (w.0 + w.1 ≡ m)
  ended {m} h = go (eqb w.0 n) refl (ltb (w.0 + w.1) (2 ^ 64)) h
    where
      go : (b : Bool) → eqb w.0 n ≡ b → (c : Bool) → cond (b && c) (Some (w.0 + w.1)) None ≡ Some m → (eqb w.0 n ≡ true) × (w.0 + w.1 ≡ m)
      go true e true k = (e, cc)
      go true e false k = cc
      go false e c k = cc

  not_ended : end_of n w ≡ None → Ends w → eqb w.0 n ≡ false
  not_ended h l = go (eqb w.0 n) refl (rw (lt-ltb (w.0 + w.1) (2 ^ 64) l) at h)
    where
      go : (b : Bool) → eqb w.0 n ≡ b → cond (b && true) (Some (w.0 + w.1)) None ≡ None → eqb w.0 n ≡ false
      go true e k = cc
      go false e k = e

module _ (s : List ℕ) {F : Type 0} (E : Type 0) (g : Mut F (ℕ × (Bor ℕ × Unit {0})) (Option ℕ)) (f : F)
    (gives : (n : ℕ) (x : Bor ℕ) (v : Option ℕ) (q : F) → Called g f (n, (x, tt)) v q → (q ≡ f) × (v ≡ end_of n (words_at s x.now))) where
  -- a call goes on where it answers a number
  abbrev branches : Option ℕ → ControlFlow E ℕ → Type 0
  branches v c = v ≡ continue_value c

  -- what becomes of a total m where the walk ends or breaks off
  abbrev Last : F → ℕ → Option (Bor ℕ) → Option ℕ → Type 0
  Last j m o r = MatchOption o (r ≡ Some m) (λ x. (v : Option ℕ) × (h : F) × (e : E) × Called g j (m, (x, tt)) v h × (v ≡ None) × (r ≡ None))

  last : (a u : Iter ℕ) (o : Option (Bor ℕ)) (n : ℕ) (r : Option ℕ) → iter_steps a o u → Last f n o r → All (λ p. Ends (words_at s p)) (iter_rest a)
      → is_some r ≡ join_from n (map (words_at s) (iter_rest a))
  unfolding join_from
  last a u None n r e k l = rw (k, empty (iter_rest a) e.0)
  last a u (Some x) n r e k l =
      let h = gives n x k.0 k.1 k.3 in
      let ends = (subst (All (λ p. Ends (words_at s p))) e l).0 in
      rw (k.5, e, not_ended n (words_at s x.now) (sym h.1 ∙ k.4) ends)

  walked : (xs : List (Bor ℕ)) (a t u : Iter ℕ) (o : Option (Bor ℕ)) (n : ℕ) (j : F) (m : ℕ) (r : Option ℕ) → Yields iter_steps a xs t → iter_steps t o u
      → FoldsTo {P = F × ℕ} (TryFoldTurn g branches) (f, n) xs (j, m) → Last j m o r → All (λ p. Ends (words_at s p)) (iter_rest a) → is_some r ≡ join_from n (map (words_at s) (iter_rest a))
  unfolding join_from
  walked [] a t u o n j m r y e k z l =
      last a u o n r (subst (λ b. iter_steps b o u) (sym y) e) (subst (λ (p : F × ℕ). Last p.0 p.1 o r) (sym k) z) l
  walked (x ∷ xs) a t u o n j m r y e k z l =
      let h = gives n x k.1.0 k.0.0 k.1.1 in
      let d = ended n (words_at s x.now) (sym h.1 ∙ k.1.2) in
      rw (y.1, d.0, d.1)
      (walked xs y.0 t u o k.0.1 j m r y.2 e (subst (λ q. FoldsTo {P = F × ℕ} (TryFoldTurn g branches) (q, k.0.1) xs (j, m)) h.0 k.2) z (subst (All (λ p. Ends (words_at s p))) y.1 l).1)

  pub joins : (a u : Iter ℕ) (offsets : List ℕ) (r : Option ℕ) → TryFoldsItems iter_steps g branches (λ (e : E) (r : Option ℕ). r ≡ None) a f 0 r u → iter_rest a ≡ offsets
      → All (λ p. Ends (words_at s p)) offsets → is_some r ≡ join_from 0 (map (words_at s) offsets)
  joins a u offsets r h e l = rw (← e) (walked h.0 a h.4.0 u h.1 0 h.2 h.3 r h.4.1 h.4.2 h.5 h.6 (subst (All (λ p. Ends (words_at s p))) (sym e) l))

-- ---- sorted
-- positions in the order of their numbers are words in order
module _ (s : List ℕ) where
  below-words : (p : ℕ) (ps : List ℕ) → Below (at_most Number s) p ps → All (λ w. leb (words_at s p).0 w.0 ≡ true) (map (words_at s) ps)
  below-words p [] h = tt
  below-words p (q ∷ ps) h = (most-number s p q refl refl ∙ h.0, below-words p ps h.1)

  ordered_words : (ps : List ℕ) → Ordered (at_most Number s) ps → InOrder (map (words_at s) ps)
  ordered_words [] h = tt
  ordered_words (p ∷ ps) h = (below-words p ps h.0, ordered_words ps h.1)

  words-map : (ps : List ℕ) → map (words_at s) (map (past block_key s) ps) ≡ map (λ p. words (slot_at s p)) ps
  words-map [] = refl
  words-map (p ∷ ps) = rw (words-map ps, words-at s p)

-- the offsets of slots that hold some words, gathered and sorted
module _ (s slots : List ℕ) {offsets new : List ℕ} (o : Sorts (at_most Number s) offsets new) (e : offsets ≡ map (past block_key s) slots) (held : All (λ p. Held (slot_at s p)) slots) where
  each-held : All (λ p. Ends (words_at s p) × HasSome (words_at s p)) offsets
  unfolding words
  each-held = rw e
      (all-to-map (past block_key s) (λ p. Ends (words_at s p) × HasSome (words_at s p)) slots
      (all_so (λ p h. (subst Ends (words-at s p) h.1, subst HasSome (words-at s p) h.0)) slots held))

  pub sorted-ends : All (λ p. Ends (words_at s p)) new
  sorted-ends = all-perm (λ p. Ends (words_at s p)) o.perm (all_so (λ p h. h.0) offsets each-held)

  pub sorted-joins : join_from 0 (map (words_at s) new) ≡ join_from 0 (by_offset (map (λ p. words (slot_at s p)) slots))
  sorted-joins =
      joins-in-order 0 (perm-map (words_at s) o.perm) (ordered_words s new o.ordered) (all-to-map (words_at s) HasSome offsets (all_so (λ p h. h.1) offsets each-held))
      ∙ ap (λ l. join_from 0 (by_offset l)) (ap (map (words_at s)) e ∙ words-map s slots)

-- for `gather_offsets`
pub ruleset gathering = (key-within, gather-start, gather-on, gather-end)
