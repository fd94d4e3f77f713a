-- The octets after the first: by RFC 3629, section 4, the first two decide, and the others only have to be 10xxxxxx. A law for every width.
-- Assumes nothing.
use Prim.Native.Nat.{ℕ, zero, suc, ◌+◌, ◌*◌, ◌-◌, ◌/◌, ◌%◌, ◌≤◌, ◌<◌}
use mathlib.Core.List.{List, [], ◌∷◌}
use mathlib.Core.Bool.{Bool, true, false}
use mathlib.Core.Logic.{◌⊎◌, ⊎_elim}
use mathlib.Core.Path.{◌≡◌, refl, sym, ap, ◌∙◌}
use lib.ListN.{get_or, length, take}
use lib.Seq.{length-take-le, get_or-take}
use lib.Dec.{eqb}
use native.Mathlib.Numerals.{add-one}
use native.Mathlib.Omega.{arith}
use borrow.Author.Tests.{eqb-true, eqb-false, lt-ltb, le-ltb, ne_eqb}
use Rattle.std.proofs.lemmas.Bool.{cases_lt}
use Rattle.utf8.specs.Rfc3629.{row, mark}
use Rattle.utf8.specs.Valid.{lead, fits, whole, char_width}
use Rattle.text.specs.Blocks.{second_from, second_to}
use Rattle.utf8.proofs.Steps.{past, lead-range, opens, tail_more, tail_none, least, row_is, scalar-low, scalar-gap, scalar-high, scalar-past, fits-so, fits_not, fits-other}

-- ---- numbers that are too small for their width, or are no scalar values, and numbers that fit

row-short : (k v : ℕ) → k < 4 → v < least k → row v < k
row-short zero v b h = absurd (omega arith)
row-short (suc k) v b h =
    ⊎_elim (λ l. omega (arith, row-short k v (omega arith) l)) (λ g. omega (arith, row_is k v (omega arith) g h)) (cases_lt v (least k))

module _ (k v : ℕ) where
  short : (k < 4) × (v < least k) → fits k v ≡ 0
  short h = sym (fits-other k v (λ e. let r = row-short k v h.0 h.1 in omega arith))

  gap : (0xd800 ≤ v) × (v < 0xe000) → fits k v ≡ 0
  gap h = sym (fits_not k v (scalar-gap v h.0 h.1))

  over : 0x110000 ≤ v → fits k v ≡ 0
  over h = sym (fits_not k v (scalar-past v h))

  low : (k < 4) × (least k ≤ v) × (v < least (suc k)) × (v < 0xd800) → fits k v ≡ suc k
  low h = sym (fits-so k v (row_is k v h.0 h.1 h.2) (scalar-low v h.3)) ∙ add-one k

  high : (k < 4) × (least k ≤ v) × (v < least (suc k)) × (0xe000 ≤ v) × (v < 0x110000) → fits k v ≡ suc k
  high h = sym (fits-so k v (row_is k v h.0 h.1 h.2) (scalar-high v h.3 h.4)) ∙ add-one k

-- ---- the table of section 4: with 1 + j octets after it the octet a, and the second octet from f to before t; also the empty rows

data Row : ℕ → ℕ → ℕ → ℕ → Type 0 where
  c0 : {a : ℕ} → 0xc0 ≤ a → a < 0xc2 → Row 0 a 0xc0 0xc0
  c2 : {a : ℕ} → 0xc2 ≤ a → a < 0xe0 → Row 0 a 0x80 0xc0
  e0 : {a : ℕ} → a ≡ 0xe0 → Row 1 a 0xa0 0xc0
  e1 : {a : ℕ} → 0xe1 ≤ a → a < 0xed → Row 1 a 0x80 0xc0
  ed : {a : ℕ} → a ≡ 0xed → Row 1 a 0x80 0xa0
  ee : {a : ℕ} → 0xee ≤ a → a < 0xf0 → Row 1 a 0x80 0xc0
  f0 : {a : ℕ} → a ≡ 0xf0 → Row 2 a 0x90 0xc0
  f1 : {a : ℕ} → 0xf1 ≤ a → a < 0xf4 → Row 2 a 0x80 0xc0
  f4 : {a : ℕ} → a ≡ 0xf4 → Row 2 a 0x80 0x90
  f5 : {a : ℕ} → 0xf5 ≤ a → a < 0xf8 → Row 2 a 0x80 0x80

-- the row of a first octet
module _ (a : ℕ) where
  from-80 : 0xc2 ≤ a → (a ≡ 0xe0 → ⊥) → (a ≡ 0xf0 → ⊥) → second_from a ≡ 0x80
  from-80 h n m = rw (le-ltb a 0xc2, ne_eqb a 0xe0, ne_eqb a 0xf0)

  to-c0 : (a ≡ 0xed → ⊥) → (a ≡ 0xf4 → ⊥) → a < 0xf5 → second_to a ≡ 0xc0
  to-c0 n m h = rw (ne_eqb a 0xed, ne_eqb a 0xf4, lt-ltb a 0xf5)

  to-80 : (a ≡ 0xed → ⊥) → (a ≡ 0xf4 → ⊥) → 0xf5 ≤ a → second_to a ≡ 0x80
  to-80 n m h = rw (ne_eqb a 0xed, ne_eqb a 0xf4, le-ltb a 0xf5)

so : {j a f t : ℕ} → second_from a ≡ f → second_to a ≡ t → Row j a f t → Row j a (second_from a) (second_to a)
so p q r = rw (p, q) r

at : {j a : ℕ} (x : ℕ) → a ≡ x → Row j a (second_from x) (second_to x) → Row j a (second_from a) (second_to a)
at x e r = so (ap second_from e) (ap second_to e) r

plain : {j a : ℕ} → (0xc2 ≤ a) × (a < 0xf5) × (a ≡ 0xe0 → ⊥) × (a ≡ 0xed → ⊥) × (a ≡ 0xf0 → ⊥) × (a ≡ 0xf4 → ⊥) → Row j a 0x80 0xc0 → Row j a (second_from a) (second_to a)
plain {j} {a} n r = so (from-80 a n.0 n.2 n.4) (to-c0 a n.3 n.5 n.1) r

rows : (j a : ℕ) → j < 3 → mark (suc j) ≤ a → a < past (suc j) → Row j a (second_from a) (second_to a)
rows zero a b h l =
    ⊎_elim (λ t. so (rw (lt-ltb a 0xc2)) (to-c0 a (omega arith) (omega arith) (omega arith)) (c0 h t)) (λ g. plain (omega arith) (c2 g l)) (cases_lt a 0xc2)
rows (suc zero) a b h l =
    ⊎_elim (λ t. at 0xe0 (omega arith) (e0 (omega arith)))
    (λ g. ⊎_elim (λ t. plain (omega arith) (e1 g t))
    (λ g. ⊎_elim (λ t. at 0xed (omega arith) (ed (omega arith))) (λ g. plain (omega arith) (ee g l)) (cases_lt a 0xee))
    (cases_lt a 0xed))
    (cases_lt a 0xe1)
rows (suc (suc zero)) a b h l =
    ⊎_elim (λ t. at 0xf0 (omega arith) (f0 (omega arith)))
    (λ g. ⊎_elim (λ t. plain (omega arith) (f1 g t))
    (λ g. ⊎_elim (λ t. at 0xf4 (omega arith) (f4 (omega arith)))
    (λ g. so (from-80 a (omega arith) (omega arith) (omega arith)) (to-80 a (omega arith) (omega arith) g) (f5 g l))
    (cases_lt a 0xf5))
    (cases_lt a 0xf4))
    (cases_lt a 0xf1)
rows (suc (suc (suc j))) a b h l = absurd (omega arith)

-- ---- numbers with the octets' bits v in front, and j octets yet to be read

abbrev Each : ℕ → ℕ → (ℕ → Type 0) → Type 0
Each zero v P = P v
Each (suc j) v P = (x : ℕ) → x < 64 → Each j (v * 64 + x) P

-- the next j octets are 10xxxxxx
abbrev Tails : ℕ → List ℕ → Type 0
Tails zero s = Unit
Tails (suc j) [] = ⊥
Tails (suc j) (c ∷ s) = (c / 64 ≡ 2) × Tails j s

all : (k j v : ℕ) (s : List ℕ) → Each j v (λ u. fits k u ≡ suc k) → Tails j s → whole k j v s ≡ suc k
all k zero v s f t = f
all k (suc j) v [] f t = absurd t
all k (suc j) v (c ∷ s) f t = tail_more k j v c s t.0 ∙ all k j (v * 64 + c % 64) s (f (c % 64) (omega arith)) t.1

none : (k j v : ℕ) (s : List ℕ) → Each j v (λ u. fits k u ≡ 0) → whole k j v s ≡ 0
none k zero v s f = f
none k (suc j) v [] f = refl
none k (suc j) v (c ∷ s) f = go (eqb (c / 64) 2) refl (none k j (v * 64 + c % 64) s (f (c % 64) (omega arith)))
  where
    go : (b : Bool) → eqb (c / 64) 2 ≡ b → whole k j (v * 64 + c % 64) s ≡ 0 → whole k (suc j) v (c ∷ s) ≡ 0
    go true e r = rw e r
    go false e r = rw e

-- an octet among them that is not 10xxxxxx
torn : (k j v i : ℕ) (s : List ℕ) → i < j → (get_or s i 0 / 64 ≡ 2 → ⊥) → whole k j v s ≡ 0
torn k zero v i s b n = absurd (omega arith)
torn k (suc j) v i [] b n = refl
torn k (suc j) v zero (c ∷ s) b n = tail_none k j v c s n
torn k (suc j) v (suc i) (c ∷ s) b n = go (eqb (c / 64) 2) refl (torn k j (v * 64 + c % 64) i s (omega arith) n)
  where
    go : (b : Bool) → eqb (c / 64) 2 ≡ b → whole k j (v * 64 + c % 64) s ≡ 0 → whole k (suc j) v (c ∷ s) ≡ 0
    go true e r = rw e r
    go false e r = rw e

-- ---- the first two octets, and numbers that begin with their bits

abbrev of-2 : ℕ → ℕ → ℕ
of-2 a b = (a - 0xc0) * 64 + b % 64

abbrev of-3 : ℕ → ℕ → ℕ → ℕ
of-3 a b x = ((a - 0xe0) * 64 + b % 64) * 64 + x

abbrev of-4 : ℕ → ℕ → ℕ → ℕ → ℕ
of-4 a b x y = (((a - 0xf0) * 64 + b % 64) * 64 + x) * 64 + y

good : (a b : ℕ) {j f t : ℕ} → Row j a f t → f ≤ b → b < t → (b / 64 ≡ 2) × Each j ((a - mark (suc j)) * 64 + b % 64) (λ u. fits (suc j) u ≡ suc (suc j))
good a b (c0 h l) p q = absurd (omega arith)
good a b (c2 h l) p q = (omega arith, low 1 (of-2 a b) (omega arith))
good a b (e0 e) p q = (omega arith, λ x i. low 2 (of-3 a b x) (omega arith))
good a b (e1 h l) p q = (omega arith, λ x i. low 2 (of-3 a b x) (omega arith))
good a b (ed e) p q = (omega arith, λ x i. low 2 (of-3 a b x) (omega arith))
good a b (ee h l) p q = (omega arith, λ x i. high 2 (of-3 a b x) (omega arith))
good a b (f0 e) p q = (omega arith, λ x i y o. high 3 (of-4 a b x y) (omega arith))
good a b (f1 h l) p q = (omega arith, λ x i y o. high 3 (of-4 a b x y) (omega arith))
good a b (f4 e) p q = (omega arith, λ x i y o. high 3 (of-4 a b x y) (omega arith))
good a b (f5 h l) p q = absurd (omega arith)

before : (a b : ℕ) {j f t : ℕ} → Row j a f t → b / 64 ≡ 2 → b < f → Each j ((a - mark (suc j)) * 64 + b % 64) (λ u. fits (suc j) u ≡ 0)
before a b (c0 h l) n o = short 1 (of-2 a b) (omega arith)
before a b (c2 h l) n o = absurd (omega arith)
before a b (e0 e) n o = λ x i. short 2 (of-3 a b x) (omega arith)
before a b (e1 h l) n o = absurd (omega arith)
before a b (ed e) n o = absurd (omega arith)
before a b (ee h l) n o = absurd (omega arith)
before a b (f0 e) n o = λ x i y m. short 3 (of-4 a b x y) (omega arith)
before a b (f1 h l) n o = absurd (omega arith)
before a b (f4 e) n o = absurd (omega arith)
before a b (f5 h l) n o = absurd (omega arith)

after : (a b : ℕ) {j f t : ℕ} → Row j a f t → b / 64 ≡ 2 → t ≤ b → Each j ((a - mark (suc j)) * 64 + b % 64) (λ u. fits (suc j) u ≡ 0)
after a b (c0 h l) n o = absurd (omega arith)
after a b (c2 h l) n o = absurd (omega arith)
after a b (e0 e) n o = absurd (omega arith)
after a b (e1 h l) n o = absurd (omega arith)
after a b (ed e) n o = λ x i. gap 2 (of-3 a b x) (omega arith)
after a b (ee h l) n o = absurd (omega arith)
after a b (f0 e) n o = absurd (omega arith)
after a b (f1 h l) n o = absurd (omega arith)
after a b (f4 e) n o = λ x i y m. over 3 (of-4 a b x y) (omega arith)
after a b (f5 h l) n o = λ x i y m. over 3 (of-4 a b x y) (omega arith)

-- a character whose second octet is in its row, and one whose is not
module _ (j a b : ℕ) (s : List ℕ) (h : (j < 3) × (mark (suc j) ≤ a) × (a < past (suc j))) where
  first : char_width (a ∷ b ∷ s) ≡ whole (suc j) (suc j) (a - mark (suc j)) (b ∷ s)
  first = opens (suc j) a (b ∷ s) (omega arith) h.1 h.2

  pub taken : second_from a ≤ b → b < second_to a → Tails j s → char_width (a ∷ b ∷ s) ≡ suc (suc j)
  taken p q t =
      let g = good a b (rows j a h.0 h.1 h.2) p q in
      first ∙ tail_more (suc j) j (a - mark (suc j)) b s g.0 ∙ all (suc j) j _ s g.1 t

  pub next : second_from a ≤ b → b < second_to a → b / 64 ≡ 2
  next p q = (good a b (rows j a h.0 h.1 h.2) p q).0

  refused : (b / 64 ≡ 2 → Each j ((a - mark (suc j)) * 64 + b % 64) (λ u. fits (suc j) u ≡ 0)) → char_width (a ∷ b ∷ s) ≡ 0
  refused f = first ∙ go (eqb (b / 64) 2) refl
    where
      go : (t : Bool) → eqb (b / 64) 2 ≡ t → whole (suc j) (suc j) (a - mark (suc j)) (b ∷ s) ≡ 0
      go true e = let q = eqb-true (b / 64) 2 e in tail_more (suc j) j (a - mark (suc j)) b s q ∙ none (suc j) j _ s (f q)
      go false e = tail_none (suc j) j (a - mark (suc j)) b s (eqb-false (b / 64) 2 e)

  pub broken-off : (i : ℕ) → i < suc j → (get_or (b ∷ s) i 0 / 64 ≡ 2 → ⊥) → char_width (a ∷ b ∷ s) ≡ 0
  broken-off i m e = first ∙ torn (suc j) (suc j) (a - mark (suc j)) i (b ∷ s) m e

  pub too-low : b < second_from a → char_width (a ∷ b ∷ s) ≡ 0
  too-low o = refused (λ e. before a b (rows j a h.0 h.1 h.2) e o)

  pub too-high : second_to a ≤ b → char_width (a ∷ b ∷ s) ≡ 0
  too-high o = refused (λ e. after a b (rows j a h.0 h.1 h.2) e o)

-- the next j octets of a list, where each is 10xxxxxx
tails : (j : ℕ) (s : List ℕ) → j ≤ length s → ((k : ℕ) → k < j → get_or s k 0 / 64 ≡ 2) → Tails j s
tails zero s h f = tt
tails (suc j) [] h f = absurd (omega arith)
tails (suc j) (c ∷ s) h f = (f 0 (omega arith), tails j s (omega arith) (λ k l. f (suc k) (omega arith)))

-- what the code's tests say after an octet that announces n others, of which b is the first and p the rest
pub width-taken : (n a : ℕ) (s : List ℕ) (b : ℕ) (p : List ℕ) → lead a ≡ n + 1 → n ≤ length s → take n s ≡ b ∷ p
    → second_from a ≤ b → b < second_to a → ((k : ℕ) → k < length p → get_or p k 0 / 64 ≡ 2) → char_width (a ∷ s) ≡ n + 1
width-taken zero a s b p e h q f t m = cc
width-taken (suc j) a [] b p e h q f t m = cc
width-taken (suc j) a (x ∷ s) b p e h q f t m =
    let g = lead-range a (suc j) (omega arith) in
    let i : x ≡ b = cc in
    let r : take j s ≡ p = cc in
    let l : length p ≡ j = sym (ap length r) ∙ length-take-le j s (omega arith) in
    taken j a x s (omega arith) (omega arith) (omega arith) (tails j s (omega arith) (λ k o. sym (ap (λ (z : ℕ). z / 64) (get_or-take j s k 0 o)) ∙ ap (λ (z : List ℕ). get_or z k 0 / 64) r ∙ m k (omega arith)))
    ∙ sym (add-one (suc j))

pub width-outside : (n a : ℕ) (s : List ℕ) (b : ℕ) (p : List ℕ) → lead a ≡ n + 1 → take n s ≡ b ∷ p → (b < second_from a) ⊎ (second_to a ≤ b) → char_width (a ∷ s) ≡ 0
width-outside zero a s b p e q o = cc
width-outside (suc j) a [] b p e q o = cc
width-outside (suc j) a (x ∷ s) b p e q o =
    let g = lead-range a (suc j) (omega arith) in
    let i : x ≡ b = cc in
    ⊎_elim (λ l. too-low j a x s (omega arith) (omega arith)) (λ l. too-high j a x s (omega arith) (omega arith)) o

pub width-torn : (n a : ℕ) (s : List ℕ) (b : ℕ) (p : List ℕ) → lead a ≡ n + 1 → n ≤ length s → take n s ≡ b ∷ p
    → (k : ℕ) → k < length p → (get_or p k 0 / 64 ≡ 2 → ⊥) → char_width (a ∷ s) ≡ 0
width-torn zero a s b p e h q k l m = cc
width-torn (suc j) a [] b p e h q k l m = cc
width-torn (suc j) a (x ∷ s) b p e h q k l m =
    let g = lead-range a (suc j) (omega arith) in
    let r : take j s ≡ p = cc in
    let o : k < j = omega (arith, ap length r, length-take-le j s (omega arith)) in
    broken-off j a x s (omega arith) (suc k) (omega arith) (λ u. m (sym (ap (λ (z : List ℕ). get_or z k 0 / 64) r) ∙ ap (λ (z : ℕ). z / 64) (get_or-take j s k 0 o) ∙ u))

pub none-follows : (a b : ℕ) → 0xf8 ≤ a → second_from a ≤ b → b < second_to a → ⊥
none-follows a b h p q = omega (arith, from-80 a (omega arith) (omega arith) (omega arith), to-80 a (omega arith) (omega arith) (omega arith))
