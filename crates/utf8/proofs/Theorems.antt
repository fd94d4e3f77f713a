-- `valid_up_to` is the length of the longest front that is a text of RFC 3629:
--     valid-text     that front is a text
--     longest        no longer front is one
--     valid-iff      the whole list is a text where `valid_up_to` is its length, and there alone
-- Each goes by characters, by two laws of one character at any width: `decoded`, that what `char_width` takes is an encoding, and `encoded`, that it
-- takes every encoding.
-- Assumes nothing.
use Prim.Native.Nat.{ℕ, zero, suc, ◌+◌, ◌*◌, ◌-◌, ◌/◌, ◌%◌, ◌≤◌, ◌<◌}
use mathlib.Core.List.{List, [], ◌∷◌, ◌++◌, append_assoc, append-nil}
use mathlib.Core.Bool.{Bool, true, false}
use mathlib.Core.Logic.{⊎_elim, ◌↔◌}
use mathlib.Core.Path.{◌≡◌, refl, sym, ap, subst, ◌∙◌}
use lib.ListN.{length, take, drop, length-append, length-drop, take-append-drop}
use lib.Seq.{take-add, drop_at, take-length, length-take-le}
use lib.Dec.{eqb}
use native.Mathlib.Nat.{zero-add, add-zero, add-sub_cancel_left}
use native.Mathlib.Numerals.{add-one}
use native.Mathlib.Omega.{arith}
use borrow.Author.Tests.{eqb-true, eqb-false}
use Rattle.std.proofs.lemmas.Bool.{cases_lt}
use Rattle.utf8.specs.Rfc3629.{scalar, row, mark, octets, encode, Text, none, char}
use Rattle.utf8.specs.Valid.{lead, fits, whole, opened, char_width, valid_up_to}
use Rattle.utf8.proofs.Steps.{scalar-past, past, opens, lead-range, least, row_is, tail_more, tail_none, fits-so, step, stop, whole-width, width-within, valid-within}

-- ---- what `char_width` takes is an encoding

fits-inv : (k v : ℕ) → fits k v ≡ suc k → (row v ≡ k) × (scalar v ≡ true)
fits-inv k v = go (eqb (row v) k) (scalar v) refl refl
  where
    go : (p q : Bool) → eqb (row v) k ≡ p → scalar v ≡ q → fits k v ≡ suc k → (row v ≡ k) × (scalar v ≡ true)
    go true true e f h = (eqb-true (row v) k e, f)
    go true false e f h = let z : fits k v ≡ 0 = rw (e, f) in absurd (omega arith)
    go false q e f h = let z : fits k v ≡ 0 = rw e in absurd (omega arith)

-- the j octets that are read after i others
decodes : (m k i j v : ℕ) (s : List ℕ) → whole k j v s ≡ suc k → (u : ℕ) × (fits k u ≡ suc k) × (octets m (i + j) u ≡ octets m i v ++ take j s)
decodes m k i zero v s e = (v, e, rw (add-zero, append-nil))
decodes m k i (suc j) v [] e = absurd (omega arith)
decodes m k i (suc j) v (c ∷ s) e = go (eqb (c / 64) 2) refl (decodes m k (suc i) j (v * 64 + c % 64) s)
  where
    go : (b : Bool) → eqb (c / 64) 2 ≡ b
        → (whole k j (v * 64 + c % 64) s ≡ suc k → (u : ℕ) × (fits k u ≡ suc k) × (octets m (suc i + j) u ≡ octets m (suc i) (v * 64 + c % 64) ++ take j s))
        → (u : ℕ) × (fits k u ≡ suc k) × (octets m (i + suc j) u ≡ octets m i v ++ take (suc j) (c ∷ s))
    go true h f =
        let t = eqb-true (c / 64) 2 h in
        let r = f (sym (tail_more k j v c s t) ∙ e) in
        let top : (v * 64 + c % 64) / 64 ≡ v = omega arith in
        let low : 0x80 + (v * 64 + c % 64) % 64 ≡ c = omega arith in
        let n : suc i + j ≡ i + suc j = omega arith in
        (r.0, r.1, subst (λ (n : ℕ). octets m n r.0 ≡ octets m i v ++ (c ∷ take j s)) n (r.2 ∙ rw (top, low, append_assoc)))
    go false h f = let z = tail_none k j v c s (eqb-false (c / 64) 2 h) in absurd (omega arith)

-- the first octet and the rest
decoded-at : (k a : ℕ) (s : List ℕ) → mark k ≤ a → whole k k (a - mark k) s ≡ suc k → (v : ℕ) × (scalar v ≡ true) × (encode v ≡ take (suc k) (a ∷ s))
decoded-at k a s m e =
    let d = decodes (mark k) k 0 k (a - mark k) s e in
    let f = fits-inv k d.0 d.1 in
    let b : mark k + (a - mark k) ≡ a = omega arith in
    (d.0, f.1, rw f.0 (ap (λ (n : ℕ). octets (mark k) n d.0) (sym (zero-add k)) ∙ d.2 ∙ ap (λ (n : ℕ). n ∷ take k s) b))

decoded : (k : ℕ) (s : List ℕ) → char_width s ≡ suc k → (v : ℕ) × (scalar v ≡ true) × (encode v ≡ take (suc k) s)
decoded k [] e = absurd (omega arith)
decoded k (a ∷ s) e = go (lead a) refl e
  where
    go : (n : ℕ) → lead a ≡ n → opened n a s ≡ suc k → (v : ℕ) × (scalar v ≡ true) × (encode v ≡ take (suc k) (a ∷ s))
    go zero l e = absurd (omega arith)
    go (suc j) l e =
        let w : j ≡ k = ⊎_elim (λ z. absurd (omega arith)) (λ z. omega arith) (whole-width j j (a - mark j) s) in
        subst (λ (n : ℕ). (v : ℕ) × (scalar v ≡ true) × (encode v ≡ take (suc n) (a ∷ s))) w
        (decoded-at j a s (lead-range a j l).1 (e ∙ ap suc (sym w)))

-- ---- it takes every encoding

-- a number without its last j octets' bits, and those octets
abbrev top : ℕ → ℕ → ℕ
top zero v = v
top (suc j) v = top j (v / 64)

abbrev tails : ℕ → ℕ → List ℕ
tails zero v = []
tails (suc j) v = tails j (v / 64) ++ ((0x80 + v % 64) ∷ [])

octets-are : (m j v : ℕ) → octets m j v ≡ (m + top j v) ∷ tails j v
octets-are m zero v = refl
octets-are m (suc j) v = rw (octets-are m j (v / 64))

length-tails : (j v : ℕ) → length (tails j v) ≡ j
length-tails zero v = refl
length-tails (suc j) v = omega (arith, length-append (tails j (v / 64)) ((0x80 + v % 64) ∷ []), length-tails j (v / 64))

reads : (k i j v : ℕ) (r : List ℕ) → whole k (j + i) (top j v) (tails j v ++ r) ≡ whole k i v r
reads k i zero v r = rw zero-add
reads k i (suc j) v r =
    let t = 0x80 + v % 64 in
    let n : suc j + i ≡ j + suc i = omega arith in
    let z : v / 64 * 64 + t % 64 ≡ v = omega arith in
    rw (n, append_assoc) (reads k (suc i) j (v / 64) (t ∷ r) ∙ tail_more k i (v / 64) t r (omega arith) ∙ ap (λ (u : ℕ). whole k i u r) z)

scalar_below : (v : ℕ) → scalar v ≡ true → v < 0x110000
scalar_below v t =
    ⊎_elim (λ h. h) (λ h. let f = scalar-past v h in let z : ◌≡◌ {A = ℕ} 0 1 = cc in absurd (omega arith)) (cases_lt v 0x110000)

-- the bits of a number that are in its first octet leave that octet's fixed bits alone
room : (v : ℕ) → scalar v ≡ true → (row v < 4) × (mark (row v) + top (row v) v < past (row v))
room v t =
    let b = scalar_below v t in
    ⊎_elim (λ l. is 0 (omega arith) (omega arith) l (omega arith))
    (λ h. ⊎_elim (λ l. is 1 (omega arith) h l (omega arith))
    (λ h. ⊎_elim (λ l. is 2 (omega arith) h l (omega arith)) (λ h. is 3 (omega arith) h (omega arith) (omega arith)) (cases_lt v 0x10000))
    (cases_lt v 0x800))
    (cases_lt v 0x80)
  where
    is : (k : ℕ) → k < 4 → least k ≤ v → v < least (suc k) → mark k + top k v < past k → (row v < 4) × (mark (row v) + top (row v) v < past (row v))
    is k b h l f = subst (λ (n : ℕ). (n < 4) × (mark n + top n v < past n)) (sym (row_is k v b h l)) (b, f)

encoded-at : (k v : ℕ) (r : List ℕ) → k < 4 → mark k + top k v < past k → fits k v ≡ suc k → char_width (octets (mark k) k v ++ r) ≡ suc k
encoded-at k v r b h f =
    ap (λ (l : List ℕ). char_width (l ++ r)) (octets-are (mark k) k v)
    ∙ opens k (mark k + top k v) (tails k v ++ r) b (omega arith) h
    ∙ ap (λ (n : ℕ). whole k k n (tails k v ++ r)) (add-sub_cancel_left (mark k) (top k v))
    ∙ ap (λ (n : ℕ). whole k n (top k v) (tails k v ++ r)) (sym (add-zero k))
    ∙ reads k 0 k v r
    ∙ f

-- what a scalar value is written as is one character, of its row's width
pub encoded : (v : ℕ) (r : List ℕ) → scalar v ≡ true → char_width (encode v ++ r) ≡ suc (row v)
encoded v r t =
    let b = room v t in
    encoded-at (row v) v r b.0 b.1 (sym (fits-so (row v) v refl t) ∙ add-one (row v))

length-encode : (v : ℕ) → length (encode v) ≡ suc (row v)
length-encode v = ap length (octets-are (mark (row v)) (row v) v) ∙ ap suc (length-tails (row v) v)

-- ---- the theorems

valid-by : (n : ℕ) (bs : List ℕ) → length bs ≤ n → Text (take (valid_up_to bs) bs)
valid-by zero bs h = rw (stop bs (omega (arith, width-within bs))) none
valid-by (suc n) bs h = go (char_width bs) refl (valid-by n)
  where
    go : (w : ℕ) → char_width bs ≡ w → ((d : List ℕ) → length d ≤ n → Text (take (valid_up_to d) d)) → Text (take (valid_up_to bs) bs)
    go zero e more = rw (stop bs e) none
    go (suc k) e more =
        let d = drop (suc k) bs in
        let c = decoded k bs e in
        let t = char c.0 c.1 (more d (simp length-drop (omega arith))) in
        let q : encode c.0 ++ take (valid_up_to d) d ≡ take (valid_up_to bs) bs =
        ap (λ (l : List ℕ). l ++ take (valid_up_to d) d) c.2
        ∙ sym (take-add (suc k) (valid_up_to d) bs)
        ∙ ap (λ (n : ℕ). take n bs) (sym (step bs (suc k) e (omega arith))) in
        subst Text q t

-- the valid prefix is text
pub valid-text : (bs : List ℕ) → Text (take (valid_up_to bs) bs)
valid-text bs = valid-by (length bs) bs (omega arith)

-- a text in front counts whole
text-valid : (p r : List ℕ) → Text p → valid_up_to (p ++ r) ≡ length p + valid_up_to r
text-valid p r none = omega arith
text-valid p r (char v {bs} t q) =
    let e = encode v in
    ap valid_up_to (append_assoc e bs r)
    ∙ omega (
      arith,
      step (e ++ (bs ++ r)) (suc (row v)) (encoded v (bs ++ r) t) (omega arith),
      ap valid_up_to (drop_at e (bs ++ r) (suc (row v)) (length-encode v)),
      text-valid bs r q,
      length-append e bs,
      length-encode v,
    )

-- no longer prefix is text
pub longest : (bs : List ℕ) (n : ℕ) → n ≤ length bs → Text (take n bs) → n ≤ valid_up_to bs
longest bs n h t =
    omega (arith, text-valid (take n bs) (drop n bs) t, ap valid_up_to (take-append-drop n bs), length-take-le n bs h)

-- all bytes are valid exactly if they are text
pub valid-iff : (bs : List ℕ) → valid_up_to bs ≡ length bs ↔ Text bs
valid-iff bs = (
  λ e. subst Text (ap (λ (n : ℕ). take n bs) e ∙ take-length bs) (valid-text bs),
  λ t. omega (arith, longest bs (length bs) (omega arith) (subst Text (sym (take-length bs)) t), valid-within bs),
)
