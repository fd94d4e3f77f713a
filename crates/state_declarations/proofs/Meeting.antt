-- Marking several keys, one after the other.
use Prim.Native.Nat.{suc, min, ◌+◌, ◌-◌, ◌≤◌, ◌<◌}
use native.Mathlib.Omega.{arith}
use native.Mathlib.Numerals.{add-one}
use mathlib.Core.Path.{◌≡◌, refl, sym, ap, ◌∙◌}
use mathlib.Core.Bool.{Bool, true, false, ◌&&◌, ◌||◌, and_assoc, or_assoc, or_comm, or-false}
use mathlib.Core.List.{List, [], ◌∷◌, ◌++◌}
use borrow.Author.Tests.{eq-eqb, ne_eqb}
use lib.ListN.{length, get_or, drop, replicate, length-map, drop_of_length-le}
use lib.Seq.{drop-cons}
use Rattle.std.specs.Prelude.{Option, Some, None, ℕ}
use Rattle.std.specs.Option.{is_some}
use Rattle.format.specs.Lists.{same, is_in}
use Rattle.format.specs.Manifest.{Section}
use Rattle.format.specs.Format.{Fmt, text}
use Rattle.format.specs.Places.{key_at, past}
use Rattle.format.specs.Values.{value_at}
use Rattle.questions.specs.Sets.{all, all_in, gather, same_set}
use Rattle.state_layout.specs.Marks.{is_set, marks_of}
use Rattle.state_layout.specs.Keys.{keys_of, Met}
use Rattle.state_layout.proofs.Marked.{get-map, key_in, marks-none, all_set}
use Rattle.state_declarations.specs.Each.{names_from, class_at, met, MarksEach}

-- ---- keys that were met
met-append : (ks ls seen : List (List ℕ)) → met (ks ++ ls) seen ≡ met ls (met ks seen)
unfolding met
met-append [] ls seen = refl
met-append (k ∷ ks) ls seen = met-append ks ls (k ∷ seen)

in-met : (k : List ℕ) (ks seen : List (List ℕ)) → is_in k (met ks seen) ≡ (is_in k ks || is_in k seen)
unfolding met is_in
in-met k [] seen = refl
in-met k (l ∷ ks) seen =
    in-met k ks (l ∷ seen)
    ∙ sym (or_assoc (is_in k ks) (same k l) (is_in k seen)) ∙ ap (λ (b : Bool). b || is_in k seen) (or_comm (is_in k ks) (same k l))

all-met : (ls ks : List (List ℕ)) → all_in ls (met ks []) ≡ all_in ls ks
unfolding all_in all is_in
all-met [] ks = refl
all-met (l ∷ ls) ks = rw (in-met l ks [], or-false (is_in l ks), all-met ls ks)

all_append : (ks ls keys : List (List ℕ)) → all_in (ks ++ ls) keys ≡ (all_in ks keys && all_in ls keys)
unfolding all_in all
all_append [] ls keys = refl
all_append (k ∷ ks) ls keys = rw (all_append ks ls keys) (sym (and_assoc (is_in k keys) (all_in ks keys) (all_in ls keys)))

-- ---- marking them
some-none : {f : Option ℕ} → f ≡ None → is_some f ≡ true → ⊥
some-none i j = let h = rw i at j in cc

module _ {listed : List (List ℕ)} where
  pub each_none : (w : ℕ) (l : List ℕ) → MarksEach listed [] (Some w) l l
  unfolding met all_in all
  each_none w l = record { found = refl; marks = λ i seen h. h }

  module _ {xs : List (List ℕ)} {f : Option ℕ} {a b : List ℕ} (m : MarksEach listed xs f a b) where
    pub each_join : {ys : List (List ℕ)} {v : ℕ} {r : Option ℕ} {c : List ℕ} → f ≡ Some v → MarksEach listed ys r b c → MarksEach listed (xs ++ ys) r a c
    each_join {ys} i n = record {
      found = rw (all_append xs ys listed, ← m.found, i) n.found;
      marks = λ j seen h. rw (met-append xs ys seen) (n.marks j (met xs seen) (m.marks (ap is_some i) seen h));
    }

    pub each_fail : (ys : List (List ℕ)) {r : Option ℕ} → f ≡ None → r ≡ None → MarksEach listed (xs ++ ys) r a b
    each_fail ys i k = record {
      found = rw (all_append xs ys listed, ← m.found, i, k);
      marks = λ j. absurd (some-none k j);
    }

-- one key
module _ (e : Section) (s words key : List ℕ) {f : Option ℕ} {old new : List ℕ} (m : Met e s words key f old new) where
  pub place_there : {i : ℕ} → f ≡ Some i → i < length words
  place_there {i} g = (m.found.at i g).0

  pub each_one : {i : ℕ} → f ≡ Some i → (w : ℕ) → MarksEach (keys_of e s words) (key ∷ []) (Some w) old new
  unfolding met all_in all
  each_one {i} g w =
      let h = m.found.at i g in
      let k : get_or (keys_of e s words) i [] ≡ key = get-map (key_at e s) words i 0 [] h.0 ∙ h.1 in
      let there : is_in key (keys_of e s words) ≡ true = rw k at (key_in (keys_of e s words) i (omega (arith, h.0, length-map words (key_at e s)))) in
      record { found = rw there; marks = λ j seen. m.marks seen }

  pub each_lost : f ≡ None → {r : Option ℕ} → r ≡ None → MarksEach (keys_of e s words) (key ∷ []) r old new
  unfolding met all_in all
  each_lost g j = record { found = rw (j, m.found.nothing g); marks = λ k seen. m.marks seen }

  pub each_met : MarksEach (keys_of e s words) (key ∷ []) f old new
  each_met = go f refl
    where
      go : (o : Option ℕ) → f ≡ o → MarksEach (keys_of e s words) (key ∷ []) f old new
      go None g = each_lost g g
      go (Some i) g = rw g (each_one g i)

pub ruleset marked = (each_one, each_lost, place_there)

-- the class of the value or the value type at a position, if it has one
module _ (s : List ℕ) (at : ℕ) {t : ℕ} (e : t ≡ get_or s at 0) where
  pub class_none : (t ≡ 4 → ⊥) → (listed : List (List ℕ)) (w : ℕ) (l : List ℕ) → MarksEach listed (class_at s at) (Some w) l l
  unfolding class_at
  class_none n listed w l = rw (← e, ne_eqb t 4 n) (each_none w l)

  pub class_one : t ≡ 4 → {start : ℕ} → start ≡ min (at + 1) (length s) → {key : List ℕ} → key ≡ value_at text s start
      → (z : Section) (u words : List ℕ) {f : Option ℕ} {old new : List ℕ} → Met z u words key f old new → MarksEach (keys_of z u words) (class_at s at) f old new
  unfolding class_at
  class_one n i {key} j z u words m = rw (← e, eq-eqb t 4 n, ← i, ← j) (each_met z u words key m)

-- ---- loops that mark: whatever marks those that are left marks all
pub record Marking (listed keys rest : List (List ℕ)) (old now : List ℕ) : Type 0 where
  pub goes : (r : Option ℕ) (new : List ℕ) → MarksEach listed rest r now new → MarksEach listed keys r old new

module _ {listed keys rest : List (List ℕ)} {old now : List ℕ} (h : Marking listed keys rest old now) where
  pub marking-end : rest ≡ [] → (w : ℕ) → MarksEach listed keys (Some w) old now
  marking-end i w = h.goes (Some w) now (rw i (each_none w now))

  module _ {xs : List (List ℕ)} (ys : List (List ℕ)) (i : rest ≡ xs ++ ys) {f : Option ℕ} {new : List ℕ} (m : MarksEach listed xs f now new) where
    pub marking-next : {w : ℕ} → f ≡ Some w → Marking listed keys ys old new
    marking-next j = record { goes = λ r last n. h.goes r last (rw i (each_join m j n)) }

    pub marking-fail : {r : Option ℕ} → f ≡ None → r ≡ None → MarksEach listed keys r old new
    marking-fail {r} j k = h.goes r new (rw i (each_fail m ys j k))

-- what is left of words, and of a list
pub words-next : {A : Type 0} (names : ℕ → List A) (words : List ℕ) (i : ℕ) → i < length words → gather names (drop i words) ≡ names (get_or words i 0) ++ gather names (drop (i + 1) words)
unfolding gather
words-next names words i h = rw (add-one i, drop-cons words i 0)

pub words-end : {A : Type 0} (names : ℕ → List A) (words : List ℕ) (i : ℕ) → length words ≤ i → gather names (drop i words) ≡ []
unfolding gather
words-end names words i h = rw (drop_of_length-le words h)

module _ (entry : Fmt) (s : List ℕ) (names : ℕ → ℕ → List (List ℕ)) (n i p : ℕ) where
  pub list-next : i < n → {e : ℕ} → e ≡ past entry s p → names_from entry s names (n - i) p ≡ names p e ++ names_from entry s names (n - (i + 1)) e
  unfolding names_from
  list-next h j = let d : n - i ≡ suc (n - (i + 1)) = omega arith in rw (d, j)

  pub list-end : n ≤ i → names_from entry s names (n - i) p ≡ []
  unfolding names_from
  list-end h = let d : n - i ≡ 0 = omega arith in rw d

-- ---- the question: are the keys met those listed?
-- the marks cleared
pub cleared : (e : Section) (s words old : List ℕ) → length old ≡ length words → {new : List ℕ} → new ≡ replicate (length old) 0 → new ≡ marks_of [] (keys_of e s words)
cleared e s words old l h = rw (marks-none (keys_of e s words), length-map words (key_at e s), ← l) h

module _ {listed names : List (List ℕ)} {f : Option ℕ} {old new : List ℕ} (m : MarksEach listed names f old new) {b : Bool} (q : b ≡ is_some f) where
  pub unlisted : b ≡ false → b ≡ same_set names listed
  unfolding same_set
  unlisted j = rw (← m.found, ← q, j)

  pub all_listed : b ≡ true → old ≡ marks_of [] listed → {x : Bool} → x ≡ all is_set new → x ≡ same_set names listed
  unfolding same_set
  all_listed j o x = rw (← m.found, ← q, j) (x ∙ ap (all is_set) (m.marks (sym q ∙ j) [] o) ∙ all_set (met names []) listed ∙ all-met listed names)
