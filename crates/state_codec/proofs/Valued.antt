-- Questions 34 to 36 of one value, by what a search for its key found.
use Prim.Native.Nat.{ℕ, ◌<◌}
use native.Mathlib.Omega.{arith}
use mathlib.Core.Path.{◌≡◌, sym, ap, ◌∙◌}
use mathlib.Core.Bool.{Bool, true, false, ◌&&◌}
use mathlib.Core.List.{List, [], map, map-map}
use lib.ListN.{length, get_or, length-map}
use Rattle.state.specs.Bytes.{AreBytes}
use Rattle.state_wire.specs.Fields.{max_snapshot_bytes}
use Rattle.format.specs.Lists.{same, is_in, all_different}
use Rattle.format.specs.Format.{number, text, encode}
use Rattle.format.specs.Keys.{connector_key}
use Rattle.format.specs.Manifest.{value, value_type, connector_rest, entry, connectors, enums, numbered}
use Rattle.format.specs.Fields.{Entry, connector_key_of, value_type_of}
use Rattle.format.specs.Places.{past, key_at}
use Rattle.format.specs.Values.{value_at, Well}
use Rattle.format.proofs.Values.{well-then, key-written}
use Rattle.questions.specs.Sets.{◌unless◌}
use Rattle.questions.specs.Declarations.{connector_names, enum_holds}
use Rattle.questions.specs.References.{is_known}
use Rattle.questions.specs.Inputs.{same_type, has_type}
use Rattle.questions.proofs.Chains.{says-yes, says-no, first_one}
use Rattle.tail.specs.Tail.{values, value_key, value_of, type_is, value_answer}
use Rattle.std.specs.Prelude.{Option, Some, None}
use Rattle.state_index.specs.Words.{Found}
use Rattle.state_layout.specs.Keys.{keys_of, Ascends}
use Rattle.state_layout.proofs.Choosing.{has-type}
use Rattle.state_layout.proofs.Classed.{any-map, any-only}
use Rattle.state_layout.proofs.Marked.{get-map, key_in}
use Rattle.state_codec.specs.Listed.{connectors_at, Listed}

-- the name of the connector at a position
abbrev name_at : List ℕ → ℕ → List ℕ
name_at s q = encode connector_key (connector_key_of (value_at (entry connectors) s q))

-- the names of those at positions
names_at : (s ps : List ℕ) → connector_names (map (value_at (entry connectors) s) ps) ≡ map (name_at s) ps
unfolding connector_names
names_at s ps = map-map (λ c. encode connector_key (connector_key_of c)) (value_at (entry connectors) s) ps

-- the value at a position of t, and what a search for its key among the connectors in s found
module _ {s words : List ℕ} (es : List (Entry enums)) (t : List ℕ) (at : ℕ) (named : Listed s words) (a : Ascends (numbered 4) s words) (bytes : AreBytes t)
    (well : Well max_snapshot_bytes (entry values) t at) {key : List ℕ} (reads : key ≡ key_at (numbered 4) t at)
    {f : Option ℕ} (r : Found (numbered 4) s words key f) where
  abbrev v : Entry values
  v = value_at (entry values) t at

  abbrev cs : List (Entry connectors)
  cs = connectors_at s words

  abbrev answer : ℕ
  answer = value_answer es cs v

  -- its key is written as it stands
  key-is : key ≡ encode connector_key (value_key v)
  unfolding numbered key_at value_key value_at
  key-is = reads ∙ key-written max_snapshot_bytes t bytes values at (well-then max_snapshot_bytes t connector_key value at well).0

  known_is : is_known (connector_names cs) (value_key v) ≡ is_in key (keys_of connectors s words)
  unfolding is_known
  known_is = rw (← key-is, ← named)

  -- no connector has it
  pub value-unknown : f ≡ None → 34 ≡ answer
  unfolding numbered value_answer
  value-unknown n = says-no 33 _ (known_is ∙ r.nothing n)

  -- the place of the connector that has it
  module _ {i : ℕ} (g : f ≡ Some i) where
    found : (i < length words) × (key_at connectors s (get_or words i 0) ≡ key)
    unfolding numbered
    found = r.at i g

    pub value-word : i < length words
    value-word = found.0

    known : is_known (connector_names cs) (value_key v) ≡ true
    known =
        let here : get_or (keys_of connectors s words) i [] ≡ key = get-map (key_at connectors s) words i 0 [] found.0 ∙ found.1 in
        known_is ∙ rw here at (key_in (keys_of connectors s words) i (omega (arith, found.0, length-map words (key_at connectors s))))

    -- its name is the value's
    name-is : name_at s (get_or words i 0) ≡ encode connector_key (value_key v)
    name-is =
        sym (get-map (name_at s) words i 0 [] found.0)
        ∙ ap (λ (ks : List (List ℕ)). get_or ks i []) (sym (names_at s words) ∙ sym named)
        ∙ get-map (key_at connectors s) words i 0 [] found.0 ∙ found.1 ∙ key-is

    -- question 35 is asked of that connector alone
    type-is : type_is cs v ≡ has_type (value_of v) (value_type_of (value_at (entry connectors) s (get_or words i 0)))
    unfolding type_is numbered
    type-is =
        let d : all_different (map (name_at s) words) ≡ true = rw (← names_at s words, ← named) a.1 in
        any-map (λ c. same (encode connector_key (value_key v)) (encode connector_key (connector_key_of c)) && has_type (value_of v) (value_type_of c)) (value_at (entry connectors) s) words
        ∙ any-only (encode connector_key (value_key v)) (name_at s) (λ q. has_type (value_of v) (value_type_of (value_at (entry connectors) s q))) words i d found.0 name-is

    -- the type there, held against the one that the value's bytes start with
    module _ {p q : ℕ} (behind : p ≡ past connector_key t at) {x : ℕ} (there : x ≡ get_or words i 0)
        (typed : q ≡ past (number 4) s (past text s (past connector_key s x))) {b : Bool} (same-type : b ≡ same_type (value_at value_type t p) (value_at value_type s q)) where
      type-told : type_is cs v ≡ b
      unfolding value_of value_type_of connector_rest value_at
      type-told = type-is ∙ rw (← there, ← typed, ← behind) (has-type t p (value_at value_type s q)) ∙ sym same-type

      -- 35 says no
      pub value-other : b ≡ false → 35 ≡ answer
      unfolding value_answer
      value-other n = sym (says-yes 34 _ known ∙ sym (says-no 34 _ (type-told ∙ n)))

      module _ (n : b ≡ true) {d : Bool} (holds : d ≡ enum_holds es (value_at value t p)) where
        rest-is : answer ≡ 36 unless d
        unfolding value_answer value_of value_at
        rest-is =
            says-yes 34 _ known ∙ says-yes 35 _ (type-told ∙ n) ∙ first_one _
            ∙ ap (λ (c : Bool). 36 unless c) (rw (← behind) (sym holds))

        -- 36 says no
        pub value-outside : d ≡ false → 36 ≡ answer
        unfolding ◌unless◌
        value-outside m = sym (rest-is ∙ rw m)

        -- all three say yes
        pub value-right : d ≡ true → 0 ≡ answer
        unfolding ◌unless◌
        value-right m = sym (rest-is ∙ rw m)

-- for `value_answer`
pub ruleset valued = (value-unknown, value-word, value-other, value-outside, value-right)
