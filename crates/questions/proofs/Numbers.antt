-- The numbers that questions 11 to 32 answer with stand in document 01's order: before the question that is answered all have said yes.
use Prim.Native.Nat.{ℕ, zero, suc, ◌≤◌, ◌<◌}
use native.Mathlib.Omega.{arith}
use mathlib.Core.Path.{◌≡◌, refl}
use mathlib.Core.Bool.{Bool, true, false, not, ◌&&◌}
use mathlib.Core.List.{List, [], ◌∷◌, ◌++◌, map}
use lib.ListN.{get_or}
use lib.Dec.{leb, eqb}
use borrow.Author.Tests.{leb-true, ne_eqb}
use Rattle.std.proofs.lemmas.Bool.{and_parts as both}
use Rattle.format.specs.Format.{El}
use Rattle.format.specs.Admits.{All}
use Rattle.format.specs.Manifest.{value_type, value, enums, blocks, connectors, state_slots, input_definitions, manifest}
use Rattle.format.specs.Fields.{Entry, input_type, minimum, maximum, given, blocks_of, slots_of, input_definitions_of}
use Rattle.questions.specs.Sets.{keep, ◌unless◌, first}
use Rattle.questions.specs.Declarations.{block_answer, declarations}
use Rattle.questions.specs.References.{references, boundaries}
use Rattle.questions.specs.Slots.{slot_answer, slots}
use Rattle.questions.specs.Inputs.{bound_answer, definition_answer, input_answers, input_definitions_hold}
use Rattle.questions.specs.Portability.{portability_holds}
use Rattle.questions.specs.Order.{answers, first_failing}
use Rattle.questions.proofs.Chains.{first-none}

-- ---- places, each with its lowest and its highest number: 12 to 14 go block by block, 22 and 23 slot by slot, 28 to 30 definition by
-- definition after the count that 28 asks for
abbrev pub places : List (ℕ × ℕ)
places =
    (11, 11) ∷ (12, 14) ∷ (15, 15) ∷ (16, 16)
    ∷ (17, 17) ∷ (18, 18) ∷ (19, 19) ∷ (20, 20)
    ∷ (21, 21) ∷ (22, 23) ∷ (24, 24)
    ∷ (25, 25) ∷ (26, 26)
    ∷ (27, 27) ∷ (28, 28) ∷ (28, 30)
    ∷ (31, 31) ∷ (32, 32)
    ∷ []

-- answers, as many as places, and what holds of each
pub data Each (R : ℕ × ℕ → ℕ → Type 0) : List (ℕ × ℕ) → List ℕ → Type 0 where
  none : Each R [] []
  ◌also◌ : {p : ℕ × ℕ} {q : ℕ} {ps : List (ℕ × ℕ)} {qs : List ℕ} → R p q → Each R ps qs → Each R (p ∷ ps) (q ∷ qs)

infixr 20 ◌also◌
-- an answer is 0, for yes, or one of the place's numbers
pub data Of (p : ℕ × ℕ) : ℕ → Type 0 where
  yes : Of p 0
  no : {q : ℕ} → p.0 ≤ q → q ≤ p.1 → Of p q

-- ---- the answers are of their places
module _ (p : ℕ × ℕ) where
  -- one question, a group of them, one of each
  pub unless-of : (q : ℕ) (b : Bool) → (leb p.0 q && leb q p.1) ≡ true → Of p (q unless b)
  unfolding ◌unless◌
  unless-of q true e = yes
  unless-of q false e = let a = both (leb p.0 q) _ e in no (leb-true _ _ a.0) (leb-true _ _ a.1)

  pub first_of : (qs : List ℕ) → All (Of p) qs → Of p (first qs)
  unfolding first
  first_of [] a = yes
  first_of (zero ∷ qs) a = first_of qs a.1
  first_of (suc q ∷ qs) a = a.0

  pub all_of : {A : Type 0} (f : A → ℕ) → ((x : A) → Of p (f x)) → (xs : List A) → All (Of p) (map f xs)
  all_of f h [] = tt
  all_of f h (x ∷ xs) = (h x, all_of f h xs)

block_of : (es : List (Entry enums)) (b : Entry blocks) → Of (12, 14) (block_answer es b)
unfolding block_answer
block_of es b = first_of (12, 14) _ (unless-of _ 12 _ refl, (unless-of _ 13 _ refl, (unless-of _ 14 _ refl, tt)))

slot_of : (bs : List (Entry blocks)) (e : Entry state_slots) → Of (22, 23) (slot_answer bs e)
unfolding slot_answer
slot_of bs e = first_of (22, 23) _ (unless-of _ 22 _ refl, (unless-of _ 23 _ refl, tt))

bound_of : (es : List (Entry enums)) (t : El value_type) (v : El value) → Of (28, 30) (bound_answer es t v)
unfolding bound_answer
bound_of es t v = first_of (28, 30) _ (unless-of _ 29 _ refl, (unless-of _ 30 _ refl, tt))

definition-of : (es : List (Entry enums)) (xs : List (Entry connectors)) (d : Entry input_definitions) → Of (28, 30) (definition_answer es xs d)
unfolding definition_answer
definition-of es xs d =
    let t = input_type d in
    first_of (28, 30) _ (unless-of _ 28 _ refl, all_of _ (bound_answer es t) (bound_of es t) (given value (minimum d) ++ given value (maximum d)))

-- places that follow one another from a number on
abbrev in_a_row : ℕ → List (ℕ × ℕ) → Bool
in_a_row n [] = true
in_a_row n (p ∷ ps) = leb n p.0 && (leb p.0 p.1 && in_a_row p.1 ps)

-- one that is not 0 is one of the place's numbers
pub of-inside : {p : ℕ × ℕ} {q : ℕ} → Of p q → (q ≡ 0 → ⊥) → (p.0 ≤ q) × (q ≤ p.1)
of-inside yes h = absurd (h refl)
of-inside (no l k) h = (l, k)

in_a_row-parts : (n : ℕ) (p : ℕ × ℕ) (ps : List (ℕ × ℕ)) → in_a_row n (p ∷ ps) ≡ true → (n ≤ p.0) × (p.0 ≤ p.1) × (in_a_row p.1 ps ≡ true)
in_a_row-parts n p ps e =
    let a = both (leb n p.0) _ e in
    let b = both (leb p.0 p.1) _ a.1 in
    (leb-true _ _ a.0, leb-true _ _ b.0, b.1)

-- none of such places has its numbers below n
none_below : (n m : ℕ) → n ≤ m → {ps : List (ℕ × ℕ)} {qs : List ℕ} → in_a_row m ps ≡ true → Each Of ps qs → Each (λ p q. p.1 < n → q ≡ 0) ps qs
none_below n m l r none = none
none_below n m l r (◌also◌ {p = p} {q = q} {ps = ps} o os) =
    let a = in_a_row-parts m p ps r in
    let here : p.1 < n → q ≡ 0 = λ h. absurd (omega (arith, a.0, a.1)) in
    here also none_below n p.1 (omega (arith, a.0, a.1)) a.2 os

-- so the places whose numbers are below the first answer that is not 0 said yes
below-first : (n : ℕ) {ps : List (ℕ × ℕ)} {qs : List ℕ} → in_a_row n ps ≡ true → Each Of ps qs → Each (λ p q. p.1 < first qs → q ≡ 0) ps qs
unfolding first
below-first n r none = none
below-first n r (◌also◌ {p = p} {q = zero} {ps = ps} o os) = (λ h. refl) also below-first p.1 (in_a_row-parts n p ps r).2 os
below-first n r (◌also◌ {p = p} {q = suc q} {ps = ps} o os) =
    let i : suc q ≤ p.1 = (of-inside o (λ e. absurd (omega arith))).1 in
    let here : p.1 < suc q → suc q ≡ 0 = λ h. absurd (omega arith) in
    here also none_below (suc q) p.1 i (in_a_row-parts n p ps r).2 os

-- and that answer is no number before the first place's
first-late : (n : ℕ) {ps : List (ℕ × ℕ)} {qs : List ℕ} → in_a_row n ps ≡ true → Each Of ps qs → (first qs ≡ 0 → ⊥) → n ≤ first qs
unfolding first
first-late n r none h = absurd (h refl)
first-late n r (◌also◌ {p = p} {q = zero} {ps = ps} o os) h =
    let a = in_a_row-parts n p ps r in
    omega (arith, a.0, a.1, first-late p.1 a.2 os h)
first-late n r (◌also◌ {p = p} {q = suc q} {ps = ps} (no l k) os) h = omega (arith, l, (in_a_row-parts n p ps r).0)

-- the first that is not 0
first_head : (qs : List ℕ) → first qs ≡ get_or (keep (λ q. not (eqb q 0)) qs) 0 0
unfolding first keep
first_head [] = refl
first_head (zero ∷ qs) = first_head qs
first_head (suc q ∷ qs) = rw (ne_eqb (suc q) 0 (λ e. absurd (omega arith)))

first-zero : (qs : List ℕ) → first qs ≡ 0 → All (λ q. q ≡ 0) qs
first-zero [] e = tt
first-zero (q ∷ qs) e = let a = first-none q qs e in (a.0, first-zero qs a.1)

module _ (bound : List (List ℕ)) (revision : ℕ) (m : El manifest) where
  -- each answer is 0 or a number of its place
  pub answers-placed : Each Of places (answers bound revision m)
  unfolding answers declarations references slots boundaries input_definitions_hold input_answers portability_holds
  answers-placed =
      unless-of _ 11 _ refl also first_of _ _ (all_of _ _ (block_of _) (blocks_of m)) also unless-of _ 15 _ refl also unless-of _ 16 _ refl
      also unless-of _ 17 _ refl also unless-of _ 18 _ refl also unless-of _ 19 _ refl also unless-of _ 20 _ refl
      also unless-of _ 21 _ refl also first_of _ _ (all_of _ _ (slot_of _) (slots_of m)) also unless-of _ 24 _ refl
      also unless-of _ 25 _ refl also unless-of _ 26 _ refl
      also unless-of _ 27 _ refl also unless-of _ 28 _ refl also first_of _ _ (all_of _ _ (definition-of _ _) (input_definitions_of m))
      also unless-of _ 31 _ refl also unless-of _ 32 _ refl
      also none

  -- what is answered is the first that is not 0
  pub answered-first : first_failing bound revision m ≡ get_or (keep (λ q. not (eqb q 0)) (answers bound revision m)) 0 0
  unfolding first_failing
  answered-first = first_head (answers bound revision m)

  -- where a question is answered, all places before it said yes
  pub earlier-yes : Each (λ p q. p.1 < first_failing bound revision m → q ≡ 0) places (answers bound revision m)
  unfolding first_failing
  earlier-yes = below-first 11 refl answers-placed

  -- where none is, all did
  pub all_yes : first_failing bound revision m ≡ 0 → All (λ q. q ≡ 0) (answers bound revision m)
  unfolding first_failing
  all_yes e = first-zero (answers bound revision m) e

  -- the numbers are those from 11 on
  pub late-failing : (first_failing bound revision m ≡ 0 → ⊥) → 11 ≤ first_failing bound revision m
  unfolding first_failing
  late-failing = first-late 11 refl answers-placed
