-- Questions 28 to 30 of a definition: the path that was found decides, and then the bounds.
use Prim.Native.Nat.{ℕ, ◌<◌}
use mathlib.Core.Path.{◌≡◌, refl, sym, ap, ◌∙◌}
use mathlib.Core.Bool.{Bool, true, false, ◌&&◌}
use mathlib.Core.List.{List, [], ◌∷◌, ◌++◌, map, map-append}
use lib.ListN.{length, get_or}
use Rattle.std.proofs.lemmas.Bool.{and_parts as both, or_parts as neither}
use Rattle.format.specs.Lists.{same, is_in}
use Rattle.format.specs.Format.{number, text}
use Rattle.format.specs.Manifest.{value_type, value, optional, enums, input_definitions, input_rest, numbered}
use Rattle.format.specs.Fields.{Entry, input_path, input_type, minimum, maximum, given}
use Rattle.format.specs.Places.{past, key_at}
use Rattle.format.specs.Values.{value_at}
use Rattle.format.proofs.Lists.{same_refl, same-sym}
use Rattle.questions.specs.Sets.{all, any, first}
use Rattle.questions.proofs.Chains.{says-yes, says-no, said-group-no, said-group-yes}
use Rattle.questions.specs.Inputs.{same_type, bound_answer}
use Rattle.state_index.specs.declared.SortKey.TheVariants.{Text}
use Rattle.state_index.specs.Keys.{text_at, at_most, sort_key}
use Rattle.state_index.specs.Sort.{Ordered}
use Rattle.state_index.specs.Find.{key_at_most}
use Rattle.state_index.specs.Words.{Found}
use Rattle.std.specs.Prelude.{Option, Some, Result, Ok, Err}
use Rattle.state.specs.declared.Question.{Question}
use Rattle.state.specs.Outcome.{said}
use Rattle.state_index.proofs.Order.{apart, is_false}
use Rattle.state_io.specs.Paths.{type_at, definition_at, agree, all_agree, defined_among, answer_among, Sought}
use Rattle.state_io.proofs.Bools.{all-at, any_at}
use Rattle.state_io.proofs.Types.{type-sym, type-trans}

-- none where each that a test passes is refused
none_of : (t u : ℕ → Bool) → ((z : ℕ) → t z ≡ true → u z ≡ false) → (l : List ℕ) → all t l ≡ true → any u l ≡ false
unfolding all any
none_of t u h [] e = refl
none_of t u h (z ∷ l) e = let b = both (t z) (all t l) e in rw (h z b.0) (none_of t u h l b.1)

module _ (s : List ℕ) (d : Entry input_definitions) where
  abbrev defines : ℕ → Bool
  defines q = same (text_at s q) (input_path d) && same_type (input_type d) (type_at s q)

  none-defined : (qs : List ℕ) → is_in (input_path d) (map (text_at s) qs) ≡ false → defined_among s qs d ≡ false
  unfolding defined_among any is_in
  none-defined [] e = refl
  none-defined (q ∷ qs) e =
      let n = neither (same (input_path d) (text_at s q)) (is_in (input_path d) (map (text_at s) qs)) e in
      rw (same-sym (text_at s q) (input_path d), n.0) (none-defined qs n.1)

  module _ (q : ℕ) (is : text_at s q ≡ input_path d) where
    -- another path of a type that is not this one's does not define either
    other : same_type (input_type d) (type_at s q) ≡ false → (z : ℕ) → agree s q z ≡ true → defines z ≡ false
    unfolding agree
    other n z a = go (same (text_at s z) (input_path d)) refl
      where
        go : (b : Bool) → same (text_at s z) (input_path d) ≡ b → (b && same_type (input_type d) (type_at s z)) ≡ false
        go false i = refl
        go true i =
            let e : same (text_at s q) (text_at s z) ≡ true = rw (is, same-sym (input_path d) (text_at s z)) i in
            let j : same_type (type_at s q) (type_at s z) ≡ true = rw e at a in
            is_false (same_type (input_type d) (type_at s z))
            (λ k. apart (sym (type-trans (input_type d) (type_at s z) (type_at s q) k (type-sym (type_at s z) (type_at s q) ∙ j)) ∙ n))

  -- as all external connectors of a path have one type, one of them decides
  one-decides : (qs : List ℕ) → all_agree s qs ≡ true → (j : ℕ) → j < length qs → text_at s (get_or qs j 0) ≡ input_path d
      → defined_among s qs d ≡ same_type (input_type d) (type_at s (get_or qs j 0))
  unfolding defined_among all_agree
  one-decides qs a j h is = go (same_type (input_type d) (type_at s (get_or qs j 0))) refl
    where
      go : (b : Bool) → same_type (input_type d) (type_at s (get_or qs j 0)) ≡ b → any defines qs ≡ b
      go true i = any_at defines qs j h (rw (is, same_refl (input_path d)) i)
      go false i = none_of (agree s (get_or qs j 0)) defines (other (get_or qs j 0) is i) qs (all-at (λ p. all (agree s p) qs) qs a j h)

-- ---- a definition by its bytes
pub seek-order : (s l : List ℕ) → Ordered (at_most Text s) l → Ordered (key_at_most (numbered 12) s) l
unfolding at_most sort_key numbered key_at value_at
seek-order s l o = o

module _ (s paths : List ℕ) (at : ℕ) where
  -- the path that was found decides
  pub decided : {key : List ℕ} → key ≡ text_at s at → {f : Option ℕ} → Found (numbered 12) s paths key f → Sought s paths
      → (i : ℕ) → f ≡ Some i → {p : ℕ} → p ≡ get_or paths i 0 → {t : ℕ} → t ≡ past text s at → {u : ℕ} → u ≡ past (number 4) s (past text s p)
      → {r : Bool} → r ≡ same_type (value_at value_type s t) (value_at value_type s u) → defined_among s paths (definition_at s at) ≡ r
  unfolding numbered key_at value_at input_path input_type input_rest
  decided ek found so i e {p} ep et eu er =
      let a = found.at i e in
      one-decides s (definition_at s at) paths so.agrees i a.0 (a.1 ∙ ek) ∙ rw (← ep, ← eu, ← et) (sym er)

module _ (s qs : List ℕ) (at : ℕ) (es : List (Entry enums)) where
  abbrev answer : ℕ
  answer = answer_among s es qs (definition_at s at)

  pub undefined : defined_among s qs (definition_at s at) ≡ false → 28 ≡ answer
  unfolding answer_among
  undefined e = says-no 27 _ e

  pub not_found : {key : List ℕ} → key ≡ text_at s at → is_in key (map (key_at (numbered 12) s) qs) ≡ false → 28 ≡ answer
  unfolding numbered key_at value_at input_path
  not_found ek e = undefined (none-defined s (definition_at s at) qs (rw (← ek) e))

  -- where there is one, the minimum decides, and then the maximum
  module _ (y : defined_among s qs (definition_at s at) ≡ true) {t a b : ℕ} (et : t ≡ past text s at) (ea : a ≡ past value_type s t)
      (eb : b ≡ past (optional value) s a) where
    abbrev bounds : ℕ → List ℕ
    bounds at = map (bound_answer es (value_at value_type s t)) (given value (value_at (optional value) s at))

    bounds-answer : first (bounds a ++ bounds b) ≡ answer
    unfolding answer_among input_type minimum maximum input_rest value_at past
    bounds-answer =
        ap first (sym (map-append (bound_answer es (value_at value_type s t)) (given value (value_at (optional value) s a)) (given value (value_at (optional value) s b))))
        ∙ rw (eb, ea, et) (sym (says-yes 28 _ y))

    module _ {z : Result Unit Question} (ez : z ≡ said (first (bounds a))) where
      pub minimum-refused : {q : Question} → z ≡ Err q → Err q ≡ said answer
      minimum-refused i = said-group-no (bounds a) (bounds b) (sym ez ∙ i) ∙ ap said bounds-answer

      pub maximum-answers : {v : Unit} → z ≡ Ok v → said (first (bounds b)) ≡ said answer
      maximum-answers i = sym (said-group-yes (bounds a) (bounds b) (sym ez ∙ i)) ∙ ap said bounds-answer
