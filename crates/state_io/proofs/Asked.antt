-- The answers by positions are those of the manifest's values, whatever the order of the paths.
use Prim.Native.Nat.{ℕ}
use mathlib.Core.Path.{◌≡◌, refl, sym, ◌∙◌}
use mathlib.Core.Bool.{Bool, true, false, not, cond, ◌&&◌, ◌||◌}
use mathlib.Core.List.{List, [], ◌∷◌, map, map-map, Permᴰ}
use lib.ListN.{length, length-map}
use lib.Dec.{eqb}
use borrow.Author.Tests.{eq-eqb, ne_eqb}
use Rattle.std.specs.Prelude.{Some, None}
use Rattle.state.specs.Bytes.{AreBytes}
use Rattle.format.specs.Lists.{same, is_in}
use Rattle.format.specs.Format.{encode}
use Rattle.format.specs.Admits.{All}
use Rattle.format.specs.Keys.{connector_key}
use Rattle.format.specs.Manifest.{enums, connectors, external_inputs, input_definitions, connector_rest, entry}
use Rattle.format.specs.Fields.{Entry, path, value_type_of, connector_key_of, external_input, input_path, input_type}
use Rattle.format.specs.Places.{past, key_at}
use Rattle.format.specs.Values.{value_at, Well}
use Rattle.format.proofs.Values.{well-then, key-written}
use Rattle.questions.specs.Sets.{keep, count_different, first}
use Rattle.questions.proofs.Chains.{says-yes, says-no, first_one}
use Rattle.questions.specs.Inputs.{externals, same_type, one_type, count_is, is_defined, definition_answer, input_answers}
use Rattle.questions.specs.References.{external_names}
use Rattle.state_index.specs.declared.SortKey.TheVariants.{Text}
use Rattle.state_index.specs.Keys.{text_at, at_most}
use Rattle.state_index.specs.Sort.{Ordered}
use Rattle.state_index.proofs.Sorting.{perm-map}
use Rattle.state_layout.specs.Tables.{Table}
use Rattle.state_layout.proofs.Classed.{any-map}
use Rattle.state_layout.proofs.Names.{keys-are}
use Rattle.state_layout.proofs.Tables.{limit}
use Rattle.state_io.specs.Paths.{type_at, definition_at, agree, all_agree, neighbours_agree, count_agreeing, defined_among, answer_among, answers_among}
use Rattle.state_io.proofs.Bools.{some_then, none_then, pairs-map, any-perm}
use Rattle.state_io.proofs.Neighbours.{neighbours-agree, agree-perm, runs-different, count-perm}

-- ---- what neighbours of sorted paths answer
module _ (s : List ℕ) (ps : List ℕ) (o : Ordered (at_most Text s) ps) where
  pub all-agree : {n : ℕ} → count_agreeing s ps ≡ Some n → all_agree s ps ≡ true
  all-agree e = sym (neighbours-agree s ps o) ∙ (some_then (neighbours_agree s ps) e).0

  module _ (es : List (Entry enums)) (ds : List ℕ) where
    abbrev answers : List ℕ
    answers = answers_among s es ps ds

    pub types-differ : count_agreeing s ps ≡ None → 27 ≡ first answers
    unfolding answers_among
    types-differ e = says-no 26 _ (sym (neighbours-agree s ps o) ∙ none_then (neighbours_agree s ps) _ e)

    module _ {n : ℕ} (e : count_agreeing s ps ≡ Some n) where
      counted : {b : Bool} → eqb (length ds) n ≡ b → eqb (length ds) (count_different (map (text_at s) ps)) ≡ b
      counted i = rw (← runs-different s ps o, (some_then (neighbours_agree s ps) e).1) i

      pub count-differs : (n ≡ length ds → ⊥) → 28 ≡ first answers
      unfolding answers_among
      count-differs d = says-no 27 _ (counted (ne_eqb (length ds) n (λ z. d (sym z)))) ∙ sym (says-yes 27 _ (all-agree e))

      pub definitions-answer : n ≡ length ds → first (map (λ p. answer_among s es ps (definition_at s p)) ds) ≡ first answers
      unfolding answers_among
      definitions-answer d = sym (first_one _) ∙ sym (says-yes 28 _ (counted (eq-eqb (length ds) n (sym d)))) ∙ sym (says-yes 27 _ (all-agree e))

-- ---- in another order
map_same : {A B : Type 0} (f g : A → B) → ((x : A) → f x ≡ g x) → (l : List A) → map f l ≡ map g l
map_same f g h [] = refl
map_same f g h (x ∷ l) = rw (h x, map_same f g h l)

module _ (s : List ℕ) (es : List (Entry enums)) {qs rs : List ℕ} (p : Permᴰ qs rs) where
  among-perm : (d : Entry input_definitions) → answer_among s es qs d ≡ answer_among s es rs d
  unfolding answer_among defined_among
  among-perm d = rw (any-perm (λ q. same (text_at s q) (input_path d) && same_type (input_type d) (type_at s q)) p)

  pub answers-perm : (ds : List ℕ) → answers_among s es qs ds ≡ answers_among s es rs ds
  unfolding answers_among
  answers-perm ds =
      rw (
        agree-perm s p,
        count-perm (perm-map (text_at s) p),
        map_same (λ q. answer_among s es qs (definition_at s q)) (λ q. answer_among s es rs (definition_at s q)) (λ q. among-perm (definition_at s q)) ds,
      )

-- ---- of connectors by where they start
abbrev connector_at : List ℕ → ℕ → Entry connectors
connector_at s p = value_at (entry connectors) s p

module _ (s : List ℕ) (ps : List ℕ) where
  abbrev entries : List (Entry connectors)
  entries = map (connector_at s) ps

  abbrev starts : List ℕ
  starts = map (past connector_key s) ps

  types_are : all_agree s starts ≡ one_type entries
  unfolding all_agree one_type agree path value_type_of connector_rest value_at
  types_are =
      pairs-map (agree s) (past connector_key s) ps
      ∙ sym (pairs-map (λ c d. not (same (path c) (path d)) || same_type (value_type_of c) (value_type_of d)) (connector_at s) ps)

  paths-are : map (text_at s) starts ≡ map path entries
  unfolding path connector_rest value_at
  paths-are = map-map (text_at s) (past connector_key s) ps ∙ sym (map-map path (connector_at s) ps)

  defined-are : (d : Entry input_definitions) → defined_among s starts d ≡ is_defined entries d
  unfolding defined_among is_defined path value_type_of connector_rest value_at
  defined-are d =
      any-map (λ q. same (text_at s q) (input_path d) && same_type (input_type d) (type_at s q)) (past connector_key s) ps
      ∙ sym (any-map (λ c. same (path c) (input_path d) && same_type (input_type d) (value_type_of c)) (connector_at s) ps)

  module _ (es : List (Entry enums)) where
    answer-is : (d : Entry input_definitions) → answer_among s es starts d ≡ definition_answer es entries d
    unfolding answer_among definition_answer
    answer-is d = rw (defined-are d)

    definitions-are : (ds : List ℕ) → map (λ p. answer_among s es starts (definition_at s p)) ds ≡ map (definition_answer es entries) (map (definition_at s) ds)
    definitions-are ds =
        map_same (λ p. answer_among s es starts (definition_at s p)) (λ p. definition_answer es entries (definition_at s p))
        (λ p. answer-is (definition_at s p)) ds
        ∙ sym (map-map (definition_answer es entries) (definition_at s) ds)

    pub answers-are : (ds : List ℕ) → answers_among s es starts ds ≡ input_answers es entries (map (definition_at s) ds)
    unfolding answers_among input_answers count_is
    answers-are ds = rw (types_are, paths-are, definitions-are ds, length-map ds (definition_at s))

-- ---- the connectors that external inputs name
cond_map : {A B : Type 0} (f : A → B) (b : Bool) (x : A) (l : List A) → cond b (f x ∷ map f l) (map f l) ≡ map f (cond b (x ∷ l) l)
cond_map f true x l = refl
cond_map f false x l = refl

module _ (s : List ℕ) (bytes : AreBytes s) (names : List (List ℕ)) where
  named-are : (ps : List ℕ) → All (Well limit (entry connectors) s) ps
      → keep (λ c. is_in (encode connector_key (connector_key_of c)) names) (map (connector_at s) ps) ≡ map (connector_at s) (keep (λ p. is_in (key_at connectors s p) names) ps)
  unfolding keep connector_key_of value_at
  named-are [] w = refl
  named-are (p ∷ ps) w =
      let e = key-written limit s bytes connectors p (well-then limit s connector_key connector_rest p w.0).0 in
      rw (e, named-are ps w.1) (cond_map (connector_at s) (is_in (encode connector_key (value_at connector_key s p)) names) p (keep (λ p. is_in (key_at connectors s p) names) ps))

pub externals-are : {s ps xs : List ℕ} {cs : List (Entry connectors)} {vs : List (Entry external_inputs)}
    → AreBytes s → Table connectors s ps cs → Table external_inputs s xs vs
    → externals vs cs ≡ map (connector_at s) (keep (λ p. is_in (key_at connectors s p) (map (key_at external_inputs s) xs)) ps)
unfolding externals external_names external_input
externals-are {s} {ps} {xs} {cs} {vs} bytes t x =
    rw (keys-are external_inputs s bytes x, ← t.values) (named-are s bytes (map (λ v. encode connector_key v.0) vs) ps t.well)
