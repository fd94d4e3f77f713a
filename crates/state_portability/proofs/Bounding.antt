-- Questions 31 and 32 of a manifest that was read, from what the code finds in its bytes.
use Prim.Native.Nat.{ℕ, zero, suc, min}
use native.Mathlib.Omega.{arith}
use mathlib.Core.Path.{◌≡◌, refl, sym, ap, ◌∙◌}
use mathlib.Core.Bool.{Bool, true, false, not, beq, cond, ◌&&◌}
use mathlib.Core.List.{List, [], ◌∷◌, map}
use lib.ListN.{length, get_or}
use lib.Dec.{ltb, eqb}
use borrow.Author.Tests.{eqb-true, ne_eqb, lt-ltb}
use Rattle.std.specs.Prelude.{Ok, Err}
use Rattle.state.specs.Outcome.{said}
use Rattle.format.specs.Format.{text, done, ◌then◌, El}
use Rattle.format.specs.Manifest.{entry, blocks, block_head, block_rest, portability, manifest}
use Rattle.format.specs.Fields.{class_path, blocks_of, portability_of, portability_tag, target}
use Rattle.format.specs.Places.{past}
use Rattle.format.specs.Values.{value_at}
use Rattle.questions.specs.Sets.{any, all, ◌unless◌, first}
use Rattle.questions.specs.Portability.{some_bound, tag_holds, target_holds, portability_holds, target_bound_classes}
use Rattle.questions.proofs.Chains.{says-yes, says-no}
use Rattle.state_layout.specs.Tables.{manifest_of, table_of, Laid}
use Rattle.state_layout.proofs.Indexed.{table-blocks}
use Rattle.state_portability.specs.Bound.{some_bound_at}

-- ---- the words that list blocks
some-listed : (bound : List (List ℕ)) (s ps : List ℕ) → some_bound_at bound s ps ≡ some_bound bound (map (value_at (entry blocks) s) ps)
unfolding some_bound any class_path block_rest block_head value_at
some-listed bound s [] = refl
some-listed bound s (p ∷ ps) = rw (some-listed bound s ps)

-- ---- question 31
pub tag_unasked : (s : List ℕ) (revision : ℕ) → eqb revision 2 ≡ false → true ≡ tag_holds target_bound_classes revision (manifest_of s)
unfolding tag_holds
tag_unasked s revision e = rw e

module _ {s index : List ℕ} (t : Laid s index) where
  pub tag_asked : (revision : ℕ) → eqb revision 2 ≡ true → {b : Bool} → b ≡ some_bound_at target_bound_classes s (table_of 3 s index) → {tag : ℕ} → tag ≡ get_or s 0 0
      → beq b (eqb tag 1) ≡ tag_holds target_bound_classes revision (manifest_of s)
  unfolding tag_holds value_at manifest portability_of portability_tag portability
  tag_asked revision asked {b} some {tag} reads = rw (asked, ← some_is, ← reads) (either b (eqb tag 1))
    where
      some_is : b ≡ some_bound target_bound_classes (blocks_of (manifest_of s))
      some_is = some ∙ some-listed target_bound_classes s (table_of 3 s index) ∙ ap (some_bound target_bound_classes) (table-blocks t).values

      either : (b t : Bool) → beq b t ≡ cond b t (not t)
      either true true = refl
      either true false = refl
      either false true = refl
      either false false = refl

-- ---- question 32: by the tag, and the texts behind it
names : (s : List ℕ) (t p : ℕ) → List (List ℕ)
names s zero p = []
names s (suc zero) p = value_at text s p ∷ value_at text s (past text s p) ∷ []
names s (suc (suc t)) p = []

named : (s : List ℕ) (t p : ℕ) → target (unfold portability in (t, value_at (get_or (done ∷ (text then text) ∷ []) t done) s p)) ≡ names s t p
unfolding target portability value_at names
named s zero p = refl
named s (suc zero) p = refl
named s (suc (suc t)) p = refl

module _ (s : List ℕ) {tag : ℕ} (reads : tag ≡ get_or s 0 0) where
  targets : target (portability_of (manifest_of s)) ≡ names s tag (min 1 (length s))
  unfolding value_at manifest portability_of portability
  targets = named s (get_or s 0 0) (min 1 (length s)) ∙ rw reads

  no_names : (t : ℕ) → (t ≡ 1 → ⊥) → names s t (min 1 (length s)) ≡ []
  unfolding names
  no_names zero n = refl
  no_names (suc zero) n = absurd (n refl)
  no_names (suc (suc t)) n = refl

  pub target_none : (tag ≡ 1 → ⊥) → true ≡ target_holds (portability_of (manifest_of s))
  unfolding target_holds all
  target_none n = rw (targets, no_names tag n)

  module _ (bound : tag ≡ 1) {arch : ℕ} {x : List ℕ} (starts : arch ≡ min 1 (length s)) (first : x ≡ value_at text s arch) where
    names-are : target (portability_of (manifest_of s)) ≡ x ∷ value_at text s (past text s arch) ∷ []
    unfolding names
    names-are = rw (targets, bound, first, starts)

    pub arch_none : eqb (length x) 0 ≡ true → false ≡ target_holds (portability_of (manifest_of s))
    unfolding target_holds all
    arch_none e = rw (names-are, eqb-true (length x) 0 e)

    pub os_there : eqb (length x) 0 ≡ false → {os : ℕ} {y : List ℕ} → os ≡ past text s arch → y ≡ value_at text s os → not (eqb (length y) 0) ≡ target_holds (portability_of (manifest_of s))
    unfolding target_holds all
    os_there e {os} {y} i j = rw (names-are, ← i, ← j, some (length x), e) (also (length y))
      where
        some : (k : ℕ) → ltb 0 k ≡ not (eqb k 0)
        some zero = refl
        some (suc k) = lt-ltb 0 (suc k) (omega arith) ∙ rw (ne_eqb (suc k) 0 (λ z. absurd (omega (arith, z))))

        also : (k : ℕ) → not (eqb k 0) ≡ (ltb 0 k && true)
        also zero = refl
        also (suc k) = rw (lt-ltb 0 (suc k) (omega arith), ne_eqb (suc k) 0 (λ z. absurd (omega (arith, z))))

-- ---- both
module _ (revision : ℕ) (m : El manifest) {b : Bool} (e : b ≡ tag_holds target_bound_classes revision m) where
  pub tag_no : b ≡ false → Err (record { 0 = 31 }) ≡ said (first (portability_holds target_bound_classes revision m))
  unfolding portability_holds
  tag_no f = ap said (says-no 30 _ (sym e ∙ f))

  module _ (f : b ≡ true) {c : Bool} (g : c ≡ target_holds (portability_of m)) where
    goes_on : first (portability_holds target_bound_classes revision m) ≡ first ((32 unless target_holds (portability_of m)) ∷ [])
    unfolding portability_holds
    goes_on = says-yes 31 _ (sym e ∙ f)

    pub target_no : c ≡ false → Err (record { 0 = 32 }) ≡ said (first (portability_holds target_bound_classes revision m))
    target_no h = ap said (says-no 31 [] (sym g ∙ h) ∙ sym goes_on)

    pub both_yes : c ≡ true → Ok tt ≡ said (first (portability_holds target_bound_classes revision m))
    unfolding first
    both_yes h = ap said (sym (goes_on ∙ says-yes 32 [] (sym g ∙ h)))
