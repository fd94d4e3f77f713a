-- What a tag chooses, where it ends, and where a list does.
use Prim.Native.Nat.{ℕ, zero, suc, ◌+◌, ◌-◌, ◌≤◌, ◌<◌, min}
use native.Mathlib.Omega.{arith}
use mathlib.Core.Path.{◌≡◌, refl, sym, ap, ◌∙◌}
use mathlib.Core.Bool.{true, false, not, cond, ◌&&◌, and-true, or-false}
use mathlib.Core.List.{List, [], ◌∷◌}
use lib.ListN.{length, get_or, get_or-eq_default}
use lib.Dec.{eqb}
use borrow.Author.Tests.{eq-eqb, ne_eqb}
use Rattle.format.specs.Lists.{same, is_in}
use Rattle.format.specs.Format.{free, Fmt, El, done, number, tag, text, ◌then◌, list, choice}
use Rattle.format.specs.Manifest.{optional, value_type, value, enums, params}
use Rattle.format.specs.Fields.{Entry, type_tag, type_class, value_tag, value_class}
use Rattle.format.specs.Places.{number_at, skip, past}
use Rattle.format.specs.Values.{value_at}
use Rattle.questions.specs.Sets.{all, all_in}
use Rattle.questions.specs.Declarations.{enum_holds}
use Rattle.questions.specs.Inputs.{same_type, has_type}

-- ---- what the tags of types, values and options choose
abbrev pub types : List Fmt
types = done ∷ done ∷ done ∷ done ∷ text ∷ []

abbrev pub values : List Fmt
values = number 8 ∷ number 8 ∷ tag 2 ∷ text ∷ (text then number 4) ∷ []

-- the type of a tag, whose class stands at a position; the value of one
unfoldable pub typed : List ℕ → (t p : ℕ) → El value_type
unfolding value_type
typed s t p = (t, value_at (get_or types t done) s p)

unfoldable valued : List ℕ → (t p : ℕ) → El value
unfolding value
valued s t p = (t, value_at (get_or values t done) s p)

-- the class: the text at p, where the tag is 4
abbrev pub class_of : List ℕ → (t p : ℕ) → List (List ℕ)
class_of s t p = cond (eqb t 4) (value_at text s p ∷ []) []

module _ (s : List ℕ) where
  pub typed-class : (t p : ℕ) → type_class (typed s t p) ≡ class_of s t p
  unfolding type_class typed value_type
  typed-class zero p = refl
  typed-class (suc zero) p = refl
  typed-class (suc (suc zero)) p = refl
  typed-class (suc (suc (suc zero))) p = refl
  typed-class (suc (suc (suc (suc zero)))) p = refl
  typed-class (suc (suc (suc (suc (suc t))))) p = rw (ne_eqb (suc (suc (suc (suc (suc t))))) 4 (λ e. omega arith))

  valued-class : (t p : ℕ) → value_class (valued s t p) ≡ class_of s t p
  unfolding value_class valued value value_at
  valued-class zero p = refl
  valued-class (suc zero) p = refl
  valued-class (suc (suc zero)) p = refl
  valued-class (suc (suc (suc zero))) p = refl
  valued-class (suc (suc (suc (suc zero)))) p = refl
  valued-class (suc (suc (suc (suc (suc t))))) p = rw (ne_eqb (suc (suc (suc (suc (suc t))))) 4 (λ e. omega arith))

  pub value-class : (at : ℕ) → value_class (value_at value s at) ≡ class_of s (get_or s at 0) (min (at + 1) (length s))
  unfolding value_at value valued
  value-class at = valued-class (get_or s at 0) (min (at + 1) (length s))

  -- a value that is no enum has none
  pub no_enum : (at : ℕ) (es : List (Entry enums)) {t : ℕ} → t ≡ get_or s at 0 → (t ≡ 4 → ⊥) → true ≡ enum_holds es (value_at value s at)
  unfolding enum_holds all
  no_enum at es {t} e n = rw (value-class at, ← e, ne_eqb t 4 n)

  -- a value has a type if the type at its position is that one: the class of an enum value stands where that of an enum type does
  pub has-type : (at : ℕ) (u : El value_type) → has_type (value_at value s at) u ≡ same_type (value_at value_type s at) u
  unfolding has_type same_type value_tag type_tag value_at value value_type valued typed
  has-type at u =
      let k : ℕ = get_or s at 0 in
      let p : ℕ = min (at + 1) (length s) in
      ap (λ (l : List (List ℕ)). eqb k (type_tag u) && all_in l (type_class u)) (valued-class k p ∙ sym (typed-class k p))

-- a type that is no enum has no bytes behind its tag
plain : (t : ℕ) → (t ≡ 4 → ⊥) → get_or types t done ≡ done
plain zero n = refl
plain (suc zero) n = refl
plain (suc (suc zero)) n = refl
plain (suc (suc (suc zero))) n = refl
plain (suc (suc (suc (suc zero)))) n = absurd (n refl)
plain (suc (suc (suc (suc (suc t))))) n = refl

value_low : (t : ℕ) → t < 2 → get_or values t done ≡ number 8
value_low zero h = refl
value_low (suc zero) h = refl
value_low (suc (suc t)) h = absurd (omega arith)

left_out : (f : Fmt) (t : ℕ) → (t ≡ 1 → ⊥) → get_or (done ∷ f ∷ []) t done ≡ done
left_out f zero n = refl
left_out f (suc zero) n = absurd (n refl)
left_out f (suc (suc t)) n = refl

choice-past : (fs : List Fmt) (s : List ℕ) (at : ℕ) → past (get_or fs (get_or s at 0) done) s (min (at + 1) (length s)) ≡ past (choice fs) s at
unfolding past
choice-past fs s at = refl

done-past : (s : List ℕ) (at : ℕ) → at ≡ past done s at
unfolding past
done-past s at = refl

-- where it ends, by the tag t and the position behind it
module _ (s : List ℕ) (at : ℕ) {t first : ℕ} (et : t ≡ get_or s at 0) (ef : first ≡ min (at + 1) (length s)) where
  chosen : (fs : List Fmt) {f : Fmt} → get_or fs t done ≡ f → {e : ℕ} → e ≡ past f s first → e ≡ past (choice fs) s at
  chosen fs i h = h ∙ rw (← i, ef, et) (choice-past fs s at)

  pub type_enum : t ≡ 4 → {e : ℕ} → e ≡ past text s first → e ≡ past value_type s at
  unfolding value_type
  type_enum z h = chosen types (rw z) h

  pub type_other : (t ≡ 4 → ⊥) → first ≡ past value_type s at
  unfolding value_type
  type_other n = chosen types (plain t n) (done-past s first)

  pub value_number : t < 2 → {e : ℕ} → e ≡ min (first + 8) (length s) → e ≡ past value s at
  unfolding value past
  value_number l h = chosen values (value_low t l) h

  pub value_boolean : t ≡ 2 → {e : ℕ} → e ≡ min (first + 1) (length s) → e ≡ past value s at
  unfolding value past
  value_boolean z h = chosen values {f = tag 2} (rw z) h

  pub value_string : t ≡ 3 → {e : ℕ} → e ≡ past text s first → e ≡ past value s at
  unfolding value
  value_string z h = chosen values (rw z) h

  pub value_enum : t ≡ 4 → {m e : ℕ} → m ≡ past text s first → e ≡ min (m + 4) (length s) → e ≡ past value s at
  unfolding value past
  value_enum z i h = chosen values {f = text then number 4} (rw z) (h ∙ rw i)

  pub value_other : 4 < t → first ≡ past value s at
  unfolding value
  value_other h = chosen values (get_or-eq_default {A = Fmt} values done {n = t} h) (done-past s first)

  pub optional_given : (f : Fmt) → t ≡ 1 → {e : ℕ} → e ≡ past f s first → e ≡ past (optional f) s at
  optional_given f z h = chosen (done ∷ f ∷ []) (rw z) h

  pub optional_none : (f : Fmt) → (t ≡ 1 → ⊥) → first ≡ past (optional f) s at
  optional_none f n = chosen (done ∷ f ∷ []) (left_out f t n) (done-past s first)

-- ---- lists, entry by entry
module _ (e : Fmt) (s : List ℕ) where
  -- where the entries that are left end
  abbrev pub entries_end : (left p : ℕ) → ℕ
  entries_end left p = skip (past e s) (past done s) left p

  pub list_start : (at : ℕ) {n p : ℕ} → n ≡ number_at 4 s at → p ≡ min (at + 4) (length s) → entries_end (n - 0) p ≡ past (list 4 0 free e done) s at
  unfolding past
  list_start at {n} i j = let d : n - 0 ≡ n = omega arith in rw (d, i, j)

  pub list_next : (n i p : ℕ) → i < n → {m z : ℕ} → m ≡ past e s p → entries_end (n - i) p ≡ z → entries_end (n - (i + 1)) m ≡ z
  unfolding past
  list_next n i p l j h = let d : n - i ≡ suc (n - (i + 1)) = omega arith in rw j (rw d at h)

  pub list_end : (n i : ℕ) → n ≤ i → {p z : ℕ} → entries_end (n - i) p ≡ z → p ≡ z
  list_end n i l h = let d : n - i ≡ 0 = omega arith in rw d at h

-- a parameter is a name and a value
skip-parts : (s : List ℕ) (n p : ℕ) → skip (past (text then value) s) (past done s) n p ≡ skip (past text s) (past value s) n p
unfolding past
skip-parts s zero p = refl
skip-parts s (suc n) p = skip-parts s n (past value s (past text s p))

pub params_past : (s : List ℕ) (at : ℕ) → past (list 4 0 free (text then value) done) s at ≡ past params s at
unfolding past params
params_past s at = skip-parts s (number_at 4 s at) (min (at + 4) (length s))

-- ---- one type or two
type-typed : (s : List ℕ) (at : ℕ) → value_at value_type s at ≡ typed s (get_or s at 0) (min (at + 1) (length s))
unfolding value_at value_type typed
type-typed s at = refl

-- the types of tags in s and in t
module _ (s t : List ℕ) where
  typed-apart : (k l p q : ℕ) → (k ≡ l → ⊥) → same_type (typed s k p) (typed t l q) ≡ false
  unfolding same_type type_tag typed value_type
  typed-apart k l p q n = rw (ne_eqb k l n)

  typed-plain : (k p q : ℕ) → (k ≡ 4 → ⊥) → same_type (typed s k p) (typed t k q) ≡ true
  unfolding same_type type_tag typed value_type all_in all
  typed-plain k p q n = rw (eq-eqb k k refl, typed-class s k p, ne_eqb k 4 n)

  typed-enum : (p q : ℕ) → same_type (typed s 4 p) (typed t 4 q) ≡ same (value_at text s p) (value_at text t q)
  unfolding same_type type_tag type_class typed value_type all_in all is_in
  typed-enum p q = and-true _ ∙ or-false _

-- the types at a of s and at b of t, by their tags
module _ (s t : List ℕ) (a b : ℕ) {k l : ℕ} (ek : k ≡ get_or s a 0) (el : l ≡ get_or t b 0) where
  -- of two tags they differ
  pub types_apart : (k ≡ l → ⊥) → eqb k l ≡ same_type (value_at value_type s a) (value_at value_type t b)
  types_apart n = rw (ne_eqb k l n, type-typed s a, type-typed t b, ← ek, ← el) (sym (typed-apart s t k l _ _ n))

  -- of one tag that is no enum's they are one
  pub types_plain : k ≡ l → (k ≡ 4 → ⊥) → not (eqb k 4) ≡ same_type (value_at value_type s a) (value_at value_type t b)
  types_plain i n = rw (ne_eqb k 4 n, type-typed s a, type-typed t b, ← ek, ← el, ← i) (sym (typed-plain s t k _ _ n))

  -- enums are one if their classes are
  pub types_enum : k ≡ l → k ≡ 4 → {p q : ℕ} → p ≡ min (a + 1) (length s) → q ≡ min (b + 1) (length t) → {x y : List ℕ} → x ≡ value_at text s p → y ≡ value_at text t q → same x y ≡ same_type (value_at value_type s a) (value_at value_type t b)
  types_enum i z ep eq ex ey = rw (type-typed s a, type-typed t b, ← ek, ← el, ← i, z, ← ep, ← eq, ex, ey) (sym (typed-enum s t _ _))
