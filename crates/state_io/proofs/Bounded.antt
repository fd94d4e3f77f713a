-- Questions 29 and 30 of a value and of a bound that may be left out, by their bytes.
use Prim.Native.Nat.{ℕ, zero, suc, ◌+◌, ◌≤◌, min}
use native.Mathlib.Omega.{arith}
use mathlib.Core.Path.{◌≡◌, refl, sym, ◌∙◌}
use mathlib.Core.Bool.{Bool, true, false}
use mathlib.Core.List.{List, [], ◌∷◌, map}
use lib.ListN.{length, get_or}
use borrow.Author.Tests.{ne_eqb}
use Rattle.std.proofs.lemmas.Bool.Decides.{nat_tests}
use Rattle.format.specs.Format.{El, done}
use Rattle.format.specs.Manifest.{value_type, value, optional, enums}
use Rattle.format.specs.Fields.{Entry, value_tag, given}
use Rattle.format.specs.Values.{value_at}
use Rattle.questions.specs.Sets.{first, ◌unless◌}
use Rattle.questions.specs.Declarations.{enum_holds}
use Rattle.questions.proofs.Chains.{says-yes, says-no, first_one}
use Rattle.questions.specs.Inputs.{same_type, bound_holds, bound_answer}
use Rattle.state_layout.proofs.Choosing.{has-type}

module _ (s : List ℕ) (at : ℕ) where
  tag_of : value_tag (value_at value s at) ≡ get_or s at 0
  unfolding value_tag value_at value
  tag_of = refl

  module _ (es : List (Entry enums)) (t : El value_type) {k : ℕ} (ek : k ≡ get_or s at 0) where
    abbrev answer : ℕ
    answer = bound_answer es t (value_at value s at)

    refused : bound_holds t (value_at value s at) ≡ false → 29 ≡ answer
    unfolding bound_answer
    refused e = says-no 28 _ e

    -- a Boolean or a String
    pub bound-unordered : 2 ≤ k → k ≤ 3 → 29 ≡ answer
    unfolding bound_holds
    bound-unordered a b = refused (rw (tag_of, ← ek) (grind (arith, nat_tests)))

    module _ (n : k ≡ 2 → ⊥) (m : k ≡ 3 → ⊥) {r : Bool} (er : r ≡ same_type (value_at value_type s at) t) where
      typed-bound : bound_holds t (value_at value s at) ≡ r
      unfolding bound_holds
      typed-bound = rw (tag_of, ← ek, ne_eqb k 2 n, ne_eqb k 3 m) (has-type s at t ∙ sym er)

      pub bound-type : r ≡ false → 29 ≡ answer
      bound-type e = refused (typed-bound ∙ e)

      -- question 30, of a value of that type
      module _ (yes : r ≡ true) {h : Bool} (eh : h ≡ enum_holds es (value_at value s at)) where
        pub bound-fails : h ≡ false → 30 ≡ answer
        unfolding bound_answer
        bound-fails e = says-no 29 [] (sym eh ∙ e) ∙ sym (says-yes 29 _ (typed-bound ∙ yes))

        pub bound-holds : h ≡ true → 0 ≡ answer
        unfolding bound_answer first
        bound-holds e = sym (says-yes 29 (30 unless (enum_holds es (value_at value s at)) ∷ []) (typed-bound ∙ yes) ∙ says-yes 30 [] (sym eh ∙ e))

-- ---- a bound that may be left out
abbrev opted : (s : List ℕ) (t p : ℕ) → El (optional value)
opted s t p = (t, value_at (get_or (done ∷ value ∷ []) t done) s p)

left_out : (s : List ℕ) (t p : ℕ) → (t ≡ 1 → ⊥) → given value (opted s t p) ≡ []
unfolding given
left_out s zero p n = refl
left_out s (suc zero) p n = absurd (n refl)
left_out s (suc (suc t)) p n = refl

module _ (s : List ℕ) (at : ℕ) (f : El value → ℕ) {k : ℕ} (ek : k ≡ get_or s at 0) where
  abbrev option : ℕ
  option = first (map f (given value (value_at (optional value) s at)))

  pub bound-none : (k ≡ 1 → ⊥) → 0 ≡ option
  unfolding value_at first
  bound-none n = rw (← ek, left_out s k (min (at + 1) (length s)) n)

  pub bound-given : k ≡ 1 → {p : ℕ} → p ≡ min (at + 1) (length s) → {a : ℕ} → a ≡ f (value_at value s p) → a ≡ option
  unfolding value_at given
  bound-given e i j = j ∙ rw (← ek, e, ← i) (sym (first_one _))

-- the answers of a bound that may be left out
pub ruleset bound_answers = (bound-none, bound-given, bound-unordered, bound-type, bound-fails, bound-holds)
