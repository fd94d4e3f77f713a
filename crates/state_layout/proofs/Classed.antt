-- The class of an enum value among those that words list: of paths that are all different only one can be its.
use Prim.Native.Nat.{ℕ, zero, suc, ◌+◌, ◌≤◌, ◌<◌, min}
use native.Mathlib.Omega.{arith}
use mathlib.Core.Path.{◌≡◌, refl, sym, ◌∙◌}
use mathlib.Core.Bool.{Bool, true, false, ◌&&◌, and-true, or-false}
use mathlib.Core.List.{List, [], ◌∷◌, map}
use lib.ListN.{length, get_or, length-map}
use lib.Dec.{ltb, leb}
use borrow.Author.Tests.{le-ltb, lt-ltb}
use Rattle.std.specs.Prelude.{Option, Some, None}
use Rattle.std.proofs.lemmas.Bool.{or_parts as neither}
use Rattle.format.specs.Lists.{same, is_in, all_different}
use Rattle.format.specs.Format.{El, text}
use Rattle.format.specs.Manifest.{value, members, entry, enums, numbered}
use Rattle.format.specs.Fields.{Entry, enum_path, members_of, value_class, ordinal}
use Rattle.format.specs.Places.{number_at, past, key_at}
use Rattle.format.specs.Values.{value_at}
use Rattle.format.proofs.Lists.{same_refl, same-sym}
use Rattle.format.proofs.Values.{values_length}
use Rattle.questions.specs.Sets.{all, any}
use Rattle.questions.specs.Declarations.{in_range, enum_holds}
use Rattle.state_index.specs.Words.{Found}
use Rattle.state_layout.specs.Keys.{Ascends, classes_of}
use Rattle.state_layout.proofs.Choosing.{value-class}
use Rattle.state_layout.proofs.Marked.{first-apart, key_apart, get-map}

-- ---- one of several by its key
-- one of those that a list is made to
pub any-map : {A B : Type 0} (t : B → Bool) (f : A → B) (l : List A) → any t (map f l) ≡ any (λ x. t (f x)) l
unfolding any
any-map t f [] = refl
any-map t f (x ∷ l) = rw (any-map t f l)

module _ (c : List ℕ) (key : ℕ → List ℕ) (r : ℕ → Bool) where
  -- none has that key
  any_none : (l : List ℕ) → is_in c (map key l) ≡ false → any (λ q. same c (key q) && r q) l ≡ false
  unfolding any is_in
  any_none [] h = refl
  any_none (x ∷ l) h = let n = neither (same c (key x)) (is_in c (map key l)) h in rw (n.0, any_none l n.1)

  -- the only one with that key decides
  pub any-only : (l : List ℕ) (i : ℕ) → all_different (map key l) ≡ true → i < length l → key (get_or l i 0) ≡ c → any (λ q. same c (key q) && r q) l ≡ r (get_or l i 0)
  unfolding any
  any-only [] i d h e = absurd (omega arith)
  any-only (x ∷ l) zero d h e =
      let n : is_in c (map key l) ≡ false = rw e at (first-apart (key x) (map key l) d).0 in
      rw (e, same_refl c, any_none l n) (or-false (r x))
  any-only (x ∷ l) (suc i) d h e =
      let a = first-apart (key x) (map key l) d in
      let here : get_or (map key l) i [] ≡ c = get-map key l i 0 [] (omega arith) ∙ e in
      let n : same (key x) c ≡ false = rw here at (key_apart (key x) (map key l) i a.0 (omega (arith, length-map l key))) in
      rw (same-sym c (key x), n) (any-only l i a.1 (omega arith) e)

-- ---- an enum value and the classes
-- the ordinal stands behind the class
ordinal-is : (t : List ℕ) (p : ℕ) → get_or t p 0 ≡ 4 → ordinal (value_at value t p) ≡ number_at 4 t (past text t (min (p + 1) (length t)))
unfolding value_at value ordinal
ordinal-is t p tag = rw tag

-- the class at q has the ordinals from 1 to the number of its members
range-is : (n : ℕ) (s : List ℕ) (q : ℕ) → in_range n (value_at (entry enums) s q) ≡ (ltb 0 n && leb n (number_at 4 s (past text s q)))
unfolding in_range members_of members value_at
range-is n s q = rw (values_length (value_at text s))

-- a listed class has its path and its ordinal
holds-any : (es : List (Entry enums)) (v : El value) {c : List ℕ} {n : ℕ} → value_class v ≡ c ∷ [] → ordinal v ≡ n
    → enum_holds es v ≡ any (λ e. same c (enum_path e) && in_range n e) es
unfolding enum_holds all
holds-any es v {c} {n} h k = rw (h, k) (and-true (any (λ e. same c (enum_path e) && in_range n e) es))

-- the enum value at p of t, and what a search among the classes in s for its class's path found
module _ {s words : List ℕ} (t : List ℕ) (p : ℕ) (a : Ascends (numbered 2) s words) {tag : ℕ} (et : tag ≡ get_or t p 0) (ez : tag ≡ 4)
    {start : ℕ} {class : List ℕ} {f : Option ℕ} (begins : start ≡ min (p + 1) (length t)) (reads : class ≡ value_at text t start)
    (r : Found (numbered 2) s words class f) where
  abbrev holds : Bool
  holds = enum_holds (classes_of s words) (value_at value t p)

  abbrev range_at : ℕ → Bool
  range_at q = in_range (ordinal (value_at value t p)) (value_at (entry enums) s q)

  holds-is : holds ≡ any (λ q. same class (key_at enums s q) && range_at q) words
  unfolding enum_path key_at value_at
  holds-is =
      holds-any (classes_of s words) (value_at value t p) (value-class t p ∙ rw (← et, ez, reads, begins)) refl
      ∙ any-map (λ e. same class (enum_path e) && in_range (ordinal (value_at value t p)) e) (value_at (entry enums) s) words

  -- its class is not listed
  pub class_unlisted : f ≡ None → false ≡ holds
  unfolding numbered
  class_unlisted n = sym (holds-is ∙ any_none class (key_at enums s) range_at words (r.nothing n))

  -- the place of its class, and its ordinal n
  module _ {i : ℕ} (g : f ≡ Some i) {end n : ℕ} (ends : end ≡ past text t start) (is : n ≡ number_at 4 t end) where
    found : (i < length words) × (key_at enums s (get_or words i 0) ≡ class)
    unfolding numbered
    found = r.at i g

    holds-here : holds ≡ (ltb 0 n && leb n (number_at 4 s (past text s (get_or words i 0))))
    unfolding numbered
    holds-here =
        let ordinal-here : ordinal (value_at value t p) ≡ n = ordinal-is t p (sym et ∙ ez) ∙ rw (is, ends, begins) in
        holds-is
        ∙ any-only class (key_at enums s) range_at words i a.1 found.0 found.1
        ∙ rw ordinal-here (range-is n s (get_or words i 0))

    -- ordinals start at 1
    pub class_zero : n ≤ 0 → ltb 0 n ≡ holds
    class_zero z = sym (holds-here ∙ rw (le-ltb 0 n z))

    -- and end with the last member
    pub class_range : 0 < n → {q names count : ℕ} → q ≡ get_or words i 0 → names ≡ past text s q → count ≡ number_at 4 s names → leb n count ≡ holds
    class_range z word after counts = sym (holds-here ∙ rw (lt-ltb 0 n z, counts, after, word))
