-- What the code's tests say of `char_width` and `valid_up_to`, a law for each step of a character and one for every width.
-- Assumes nothing.
use Prim.Native.Nat.{ℕ, zero, suc, ◌+◌, ◌*◌, ◌-◌, ◌/◌, ◌%◌, ◌^◌, ◌≤◌, ◌<◌}
use mathlib.Core.List.{List, [], ◌∷◌}
use mathlib.Core.Bool.{Bool, true, false, ◌&&◌, and-false}
use mathlib.Core.Logic.{◌⊎◌, inl, inr, ⊎_elim}
use mathlib.Core.Path.{◌≡◌, refl, sym, subst, ◌∙◌}
use lib.ListN.{length, get_or, drop}
use lib.Seq.{drop-cons}
use lib.Dec.{eqb}
use native.Mathlib.Nat.{zero-add}
use native.Mathlib.Numerals.{add-one}
use native.Mathlib.Omega.{arith}
use borrow.Author.Tests.{lt-ltb, le-ltb, le-leb, lt-leb, eq-eqb, ne_eqb}
use Rattle.std.proofs.lemmas.Bool.{cases_lt}
use Rattle.utf8.specs.Rfc3629.{scalar, row, mark}
use Rattle.utf8.specs.Valid.{lead, fits, whole, opened, char_width, up_to, valid_up_to}

-- the first octets past those of a width
abbrev pub past : ℕ → ℕ
past zero = 0x80
past (suc zero) = 0xe0
past (suc (suc zero)) = 0xf0
past (suc (suc (suc k))) = 0xf8

-- the first octet of a character of 1 + k octets
pub lead_is : (k a : ℕ) → k < 4 → mark k ≤ a → a < past k → lead a ≡ suc k
lead_is zero a b h l = rw (lt-ltb a 0x80)
lead_is (suc zero) a b h l = let p : 0x80 ≤ a = omega arith in rw (le-ltb a 0x80, le-ltb a 0xc0, lt-ltb a 0xe0)
lead_is (suc (suc zero)) a b h l =
    let p : 0x80 ≤ a = omega arith in
    let q : 0xc0 ≤ a = omega arith in
    rw (le-ltb a 0x80, le-ltb a 0xc0, le-ltb a 0xe0, lt-ltb a 0xf0)
lead_is (suc (suc (suc zero))) a b h l =
    let p : 0x80 ≤ a = omega arith in
    let q : 0xc0 ≤ a = omega arith in
    let r : 0xe0 ≤ a = omega arith in
    rw (le-ltb a 0x80, le-ltb a 0xc0, le-ltb a 0xe0, le-ltb a 0xf0, lt-ltb a 0xf8)
lead_is (suc (suc (suc (suc k)))) a b h l = absurd (omega arith)

pub opens : (k a : ℕ) (s : List ℕ) → k < 4 → mark k ≤ a → a < past k → char_width (a ∷ s) ≡ whole k k (a - mark k) s
opens k a s b h l = rw (lead_is k a)

pub lead-not : (a : ℕ) → 0x80 ≤ a → a < 0xc0 → lead a ≡ 0
lead-not a h l = rw (le-ltb a 0x80, lt-ltb a 0xc0)

pub lead-none : (a : ℕ) → 0xf8 ≤ a → lead a ≡ 0
lead-none a h =
    let p : 0x80 ≤ a = omega arith in
    let q : 0xc0 ≤ a = omega arith in
    let r : 0xe0 ≤ a = omega arith in
    let t : 0xf0 ≤ a = omega arith in
    rw (le-ltb a 0x80, le-ltb a 0xc0, le-ltb a 0xe0, le-ltb a 0xf0, le-ltb a 0xf8)

-- and the other way
pub lead-range : (a k : ℕ) → lead a ≡ suc k → (k < 4) × (mark k ≤ a) × (a < past k)
lead-range a k e =
    ⊎_elim (λ l. is 0 (omega arith) (omega arith) l)
    (λ h. ⊎_elim (λ l. let z = lead-not a h l in absurd (omega arith))
    (λ h. ⊎_elim (λ l. is 1 (omega arith) h l)
    (λ h. ⊎_elim (λ l. is 2 (omega arith) h l)
    (λ h. ⊎_elim (λ l. is 3 (omega arith) h l) (λ h. let z = lead-none a h in absurd (omega arith)) (cases_lt a 0xf8))
    (cases_lt a 0xf0))
    (cases_lt a 0xe0))
    (cases_lt a 0xc0))
    (cases_lt a 0x80)
  where
    is : (j : ℕ) → j < 4 → mark j ≤ a → a < past j → (k < 4) × (mark k ≤ a) × (a < past k)
    is j b h l = let q : j ≡ k = omega (arith, lead_is j a b h l) in subst (λ (n : ℕ). (n < 4) × (mark n ≤ a) × (a < past n)) q (b, h, l)

-- one octet more
module _ (k j v c : ℕ) (s : List ℕ) where
  pub tail_more : c / 64 ≡ 2 → whole k (suc j) v (c ∷ s) ≡ whole k j (v * 64 + c % 64) s
  tail_more h = rw (eq-eqb (c / 64) 2)

  pub tail_none : (c / 64 ≡ 2 → ⊥) → whole k (suc j) v (c ∷ s) ≡ 0
  tail_none h = rw (ne_eqb (c / 64) 2)

-- the row of a number: k octets follow the first
abbrev pub least : ℕ → ℕ
least zero = 0
least (suc zero) = 0x80
least (suc (suc zero)) = 0x800
least (suc (suc (suc zero))) = 0x10000
least (suc (suc (suc (suc k)))) = 2 ^ 32

pub row_is : (k v : ℕ) → k < 4 → least k ≤ v → v < least (suc k) → row v ≡ k
row_is zero v b h l = rw (lt-ltb v 0x80)
row_is (suc zero) v b h l = rw (le-ltb v 0x80, lt-ltb v 0x800)
row_is (suc (suc zero)) v b h l = let p : 0x80 ≤ v = omega arith in rw (le-ltb v 0x80, le-ltb v 0x800, lt-ltb v 0x10000)
row_is (suc (suc (suc zero))) v b h l =
    let p : 0x80 ≤ v = omega arith in
    let q : 0x800 ≤ v = omega arith in
    rw (le-ltb v 0x80, le-ltb v 0x800, le-ltb v 0x10000)
row_is (suc (suc (suc (suc k)))) v b h l = absurd (omega arith)

-- which numbers are scalar values
module _ (v : ℕ) where
  pub scalar-low : v < 0xd800 → scalar v ≡ true
  scalar-low h = rw (lt-ltb v 0xd800)

  pub scalar-gap : 0xd800 ≤ v → v < 0xe000 → scalar v ≡ false
  scalar-gap h l = rw (le-ltb v 0xd800, lt-leb 0xe000 v)

  pub scalar-high : 0xe000 ≤ v → v < 0x110000 → scalar v ≡ true
  scalar-high h l = let p : 0xd800 ≤ v = omega arith in rw (le-ltb v 0xd800, le-leb 0xe000 v, lt-ltb v 0x110000)

  pub scalar-past : 0x110000 ≤ v → scalar v ≡ false
  scalar-past h =
      let p : 0xd800 ≤ v = omega arith in
      let q : 0xe000 ≤ v = omega arith in
      rw (le-ltb v 0xd800, le-leb 0xe000 v, le-ltb v 0x110000)

module _ (k v : ℕ) where
  pub fits-so : row v ≡ k → scalar v ≡ true → k + 1 ≡ fits k v
  fits-so e t = rw (eq-eqb (row v) k, t, add-one)

  pub fits_not : scalar v ≡ false → 0 ≡ fits k v
  fits_not t = rw (t, and-false)

  pub fits-other : (row v ≡ k → ⊥) → 0 ≡ fits k v
  fits-other n = rw (ne_eqb (row v) k)

pub ascii : (a : ℕ) (s : List ℕ) → a < 0x80 → char_width (a ∷ s) ≡ 1
ascii a s h =
    opens 0 a s (omega arith) (omega arith) h
    ∙ sym (fits-so 0 (a - 0) (row_is 0 (a - 0) (omega arith) (omega arith) (omega arith)) (scalar-low (a - 0) (omega arith)))

-- a list from an index: the element there, and the rest from the next index, as the code writes it
pub from : (s : List ℕ) (at next : ℕ) → at < length s → at + 1 ≡ next → drop at s ≡ get_or s at 0 ∷ drop next s
from s at next h e = rw (← e, add-one) (drop-cons s at 0 h)

-- a character has as many octets as its first announces, and they are there
pub whole-width : (k j v : ℕ) (s : List ℕ) → (whole k j v s ≡ 0) ⊎ ((whole k j v s ≡ suc k) × (j ≤ length s))
whole-width k zero v s = go (eqb (row v) k && scalar v) refl
  where
    go : (b : Bool) → eqb (row v) k && scalar v ≡ b → (fits k v ≡ 0) ⊎ ((fits k v ≡ suc k) × (0 ≤ length s))
    go true e = inr (rw e, omega arith)
    go false e = inl (rw e)
whole-width k (suc j) v [] = inl refl
whole-width k (suc j) v (c ∷ s) = go (eqb (c / 64) 2) refl (whole-width k j (v * 64 + c % 64) s)
  where
    go : (b : Bool) → eqb (c / 64) 2 ≡ b → (whole k j (v * 64 + c % 64) s ≡ 0) ⊎ ((whole k j (v * 64 + c % 64) s ≡ suc k) × (j ≤ length s)) → (whole k (suc j) v (c ∷ s) ≡ 0) ⊎ ((whole k (suc j) v (c ∷ s) ≡ suc k) × (suc j ≤ length (c ∷ s)))
    go true e (inl r) = inl (rw e r)
    go true e (inr r) = inr (rw e r.0, omega arith)
    go false e r = inl (rw e)

pub width-within : (s : List ℕ) → char_width s ≤ length s
width-within [] = omega arith
width-within (a ∷ s) = go (lead a)
  where
    go : (n : ℕ) → opened n a s ≤ length (a ∷ s)
    go zero = omega arith
    go (suc k) = ⊎_elim (λ e. omega arith) (λ e. omega arith) (whole-width k k (a - mark k) s)

-- octets that are passed
skip : (k : ℕ) (s : List ℕ) → k ≤ length s → up_to k s ≡ k + valid_up_to (drop k s)
unfolding valid_up_to
skip zero s h = sym (zero-add (valid_up_to s))
skip (suc k) [] h = absurd (omega arith)
skip (suc k) (b ∷ s) h = let r = skip k s (omega arith) in omega arith

-- a character more, and no more
pub stop : (s : List ℕ) → char_width s ≡ 0 → valid_up_to s ≡ 0
unfolding valid_up_to
stop [] e = refl
stop (b ∷ s) e = rw (e, up_to)

pub step : (s : List ℕ) (w : ℕ) → char_width s ≡ w → 0 < w → valid_up_to s ≡ w + valid_up_to (drop w s)
unfolding valid_up_to
step s zero e h = absurd (omega arith)
step [] (suc k) e h = absurd (omega arith)
step (b ∷ s) (suc k) e h =
    let l : k ≤ length s = omega (arith, width-within (b ∷ s)) in
    let r = skip k s l in
    rw (e, up_to) (omega arith)

up_to-within : (k : ℕ) (s : List ℕ) → up_to k s ≤ length s
up_to-within k [] = omega arith
up_to-within (suc k) (b ∷ s) = let r = up_to-within k s in omega arith
up_to-within zero (b ∷ s) = go (char_width (b ∷ s)) refl (λ k. up_to-within k s)
  where
    go : (w : ℕ) → char_width (b ∷ s) ≡ w → ((k : ℕ) → up_to k s ≤ length s) → up_to zero (b ∷ s) ≤ suc (length s)
    go zero e f = rw (e, up_to) (omega arith)
    go (suc k) e f = rw (e, up_to) (omega (arith, f k))

pub valid-within : (s : List ℕ) → valid_up_to s ≤ length s
unfolding valid_up_to
valid-within s = up_to-within 0 s
