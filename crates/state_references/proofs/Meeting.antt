-- Keys met one after the other, each marked: what stops, and what is marked at the end.
use Prim.Native.Nat.{ℕ, ◌+◌, ◌≤◌, ◌<◌}
use mathlib.Core.Path.{◌≡◌, refl, sym, ap, ◌∙◌}
use mathlib.Core.Bool.{Bool, true, false, not, ◌&&◌, ◌||◌, and-true, or-true, or-false}
use mathlib.Core.List.{List, [], ◌∷◌, ◌++◌}
use lib.ListN.{length, get_or, drop, take, replicate, length-map, drop_of_length-le}
use lib.Seq.{drop-cons, take-append_seam}
use Rattle.std.proofs.Common.{add-one}
use Rattle.std.specs.Prelude.{Option, Some, None, is_some}
use Rattle.format.specs.Lists.{same, is_in, all_different}
use Rattle.format.specs.Manifest.{Section}
use Rattle.format.specs.Places.{key_at}
use Rattle.format.proofs.Lists.{same-sym}
use Rattle.questions.specs.Sets.{all, all_in, same_set, each_once}
use Rattle.state_layout.specs.Marks.{is_set, marks_of}
use Rattle.state_layout.specs.Keys.{keys_of, MetNew}
use Rattle.state_layout.proofs.Marked.{marks-none, all_set}

-- ---- plain lists
-- each key is known and was not met before
unfoldable pub new_each : (names seen ks : List (List ℕ)) → Bool
new_each names seen [] = true
new_each names seen (k ∷ ks) = (is_in k names && not (is_in k seen)) && new_each names (k ∷ seen) ks

-- those met at the end
unfoldable pub met : (seen ks : List (List ℕ)) → List (List ℕ)
met seen [] = seen
met seen (k ∷ ks) = met (k ∷ seen) ks

-- none of these is among those
unfoldable none_in : (ks seen : List (List ℕ)) → Bool
none_in ks seen = all (λ k. not (is_in k seen)) ks

none-in-none : (ks : List (List ℕ)) → none_in ks [] ≡ true
unfolding none_in all is_in
none-in-none [] = refl
none-in-none (k ∷ ks) = none-in-none ks

none_more : (ks : List (List ℕ)) (k : List ℕ) (seen : List (List ℕ)) → none_in ks (k ∷ seen) ≡ (not (is_in k ks) && none_in ks seen)
unfolding none_in all is_in
none_more [] k seen = refl
none_more (x ∷ ks) k seen = rw (same-sym x k) (go (same k x) (is_in x seen) (is_in k ks) (none_in ks seen) (none_more ks k seen))
  where
    go : (a b c d : Bool) {e : Bool} → e ≡ (not c && d) → (not (a || b) && e) ≡ (not (a || c) && (not b && d))
    go true b c d i = refl
    go false true true d i = refl
    go false true false d i = refl
    go false false c d i = i

new-each : (names seen ks : List (List ℕ)) → new_each names seen ks ≡ (all_in ks names && (all_different ks && none_in ks seen))
unfolding new_each all_in none_in all all_different
new-each names seen [] = refl
new-each names seen (k ∷ ks) =
    rw (new-each names (k ∷ seen) ks, none_more ks k seen)
    (go (is_in k names) (is_in k seen) (is_in k ks) (all_in ks names) (all_different ks) (none_in ks seen))
  where
    go : (a b c d e f : Bool) → ((a && not b) && (d && (e && (not c && f)))) ≡ ((a && d) && ((not c && e) && (not b && f)))
    go false b c d e f = refl
    go true true c false e f = refl
    go true true true true e f = refl
    go true true false true false f = refl
    go true true false true true f = refl
    go true false c false e f = refl
    go true false true true false f = refl
    go true false true true true f = refl
    go true false false true e f = refl

-- all are known and different where each is known and new
new-first : (names ks : List (List ℕ)) → new_each names [] ks ≡ (all_in ks names && all_different ks)
new-first names ks = new-each names [] ks ∙ rw (none-in-none ks, and-true (all_different ks))

in-met : (k : List ℕ) (seen ks : List (List ℕ)) → is_in k (met seen ks) ≡ (is_in k seen || is_in k ks)
unfolding met is_in
in-met k seen [] = sym (or-false (is_in k seen))
in-met k seen (x ∷ ks) = in-met k (x ∷ seen) ks ∙ go (same k x) (is_in k seen) (is_in k ks)
  where
    go : (a b c : Bool) → ((a || b) || c) ≡ (b || (a || c))
    go true b c = sym (or-true b)
    go false b c = refl

-- those met are those keys
all-met : (names ks : List (List ℕ)) → all_in names (met [] ks) ≡ all_in names ks
unfolding all_in all is_in
all-met [] ks = refl
all-met (k ∷ names) ks = rw (in-met k [] ks, all-met names ks)

-- ---- keys at words
-- the walk over the words, at place i: the keys before it were met, and are marked
pub record Meets (e : Section) (s words listed marks : List ℕ) (i : ℕ) : Type 0 where
  pub seen : List (List ℕ)
  pub marked : marks ≡ marks_of seen (keys_of e s words)
  pub answer : new_each (keys_of e s words) seen (keys_of e s (drop i listed)) ≡ new_each (keys_of e s words) [] (keys_of e s listed)
  pub ends : met seen (keys_of e s (drop i listed)) ≡ met [] (keys_of e s listed)

module _ {e : Section} {s words listed : List ℕ} where
  pub meets_start : {n : ℕ} → n ≡ length words → Meets e s words listed (replicate n 0) 0
  meets_start h = record {
    seen = [];
    marked = rw (h, ← length-map words (key_at e s)) (sym (marks-none (keys_of e s words)));
    answer = refl;
    ends = refl;
  }

  module _ {marks : List ℕ} {i : ℕ} (m : Meets e s words listed marks i) where
    module _ (h : i < length listed) {key : List ℕ} (b : key ≡ key_at e s (get_or listed i 0)) {f : Option ℕ} {after : List ℕ} (r : MetNew e s words key f marks after) where
      next-key : keys_of e s (drop i listed) ≡ key ∷ keys_of e s (drop (i + 1) listed)
      next-key = rw (add-one, drop-cons listed i 0 h, b)

      told : is_some f ≡ (is_in key (keys_of e s words) && not (is_in key m.seen))
      told = r.answer m.seen m.marked

      pub meets_next : {j : ℕ} → f ≡ Some j → Meets e s words listed after (i + 1)
      unfolding met new_each
      meets_next {j} g = record {
        seen = key ∷ m.seen;
        marked = r.next j g m.seen m.marked;
        answer = rw (next-key, ← told, g) at m.answer;
        ends = rw next-key at m.ends;
      }

      pub meets_stop : f ≡ None → false ≡ (all_in (keys_of e s listed) (keys_of e s words) && all_different (keys_of e s listed))
      unfolding new_each
      meets_stop g = rw (next-key, ← told, g) at m.answer ∙ new-first (keys_of e s words) (keys_of e s listed)

    -- at the end all keys were met
    module _ (h : length listed ≤ i) where
      none-left : drop i listed ≡ []
      none-left = drop_of_length-le listed h

      pub meets_all : true ≡ (all_in (keys_of e s listed) (keys_of e s words) && all_different (keys_of e s listed))
      unfolding new_each
      meets_all = rw none-left at m.answer ∙ new-first (keys_of e s words) (keys_of e s listed)

      pub meets_marked : all is_set marks ≡ all_in (keys_of e s words) (keys_of e s listed)
      unfolding met
      meets_marked =
          ap (all is_set) m.marked ∙ all_set m.seen (keys_of e s words) ∙ ap (all_in (keys_of e s words)) (rw none-left at m.ends)
          ∙ all-met (keys_of e s words) (keys_of e s listed)

-- ---- each once: all known, all different, none left out
module _ (ks names : List (List ℕ)) where
  once-is : each_once ks names ≡ ((all_in ks names && all_different ks) && all_in names ks)
  unfolding each_once same_set
  once-is = go (all_different ks) (all_in ks names) (all_in names ks)
    where
      go : (a b c : Bool) → (a && (b && c)) ≡ ((b && a) && c)
      go true true c = refl
      go true false c = refl
      go false true c = refl
      go false false c = refl

  pub once_not : {r : Bool} → r ≡ (all_in ks names && all_different ks) → r ≡ false → r ≡ each_once ks names
  once_not i n = sym (once-is ∙ rw (← i, n))

  pub once_all : {r : Bool} → true ≡ (all_in ks names && all_different ks) → r ≡ all_in names ks → r ≡ each_once ks names
  once_all i e = e ∙ sym (once-is ∙ rw (← i))

-- ---- the marks stand at the front of the room
pub marks_front : {n : ℕ} (marks rest : List ℕ) → n ≡ length marks → {b : Bool} → all is_set marks ≡ b → all is_set (take n (marks ++ rest)) ≡ b
marks_front marks rest l h = rw (l, take-append_seam marks rest) h
