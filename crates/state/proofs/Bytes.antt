-- A part of a list, joined and cut; numbers as bytes.
use Prim.Native.Nat.{ℕ, zero, suc, ◌+◌, ◌*◌, ◌-◌, ◌/◌, ◌%◌, ◌^◌, ◌≤◌, ◌<◌}
use native.Mathlib.Numerals.{add-one}
use native.Mathlib.Omega.{arith}
use native.Mathlib.Nat.{add-sub_cancel_left, pow-suc, sub_self, sub-zero, zero-sub, suc-sub-suc}
use mathlib.Core.Path.{◌≡◌, refl, sym, ap, ◌∙◌}
use mathlib.Core.List.{List, [], ◌∷◌, ◌++◌}
use lib.ListN.{length, get_or, take, drop, length-append, length-drop, drop_of_length-le}
use lib.Seq.{take-add, take-take, drop-drop, take-nil, drop-cons, length-take-le, take-append_seam, drop-append_seam}
use Rattle.state.specs.Bytes.{AreBytes, span, number_of, bytes_of}

-- x stands in s from a up to b
pub record Part (s : List ℕ) (a b : ℕ) (x : List ℕ) : Type 0 where
  pub ends : b ≡ a + length x
  pub within : b ≤ length s
  pub is : span s a b ≡ x

module _ (s : List ℕ) where
  pub span-length : (a b : ℕ) → a ≤ b → b ≤ length s → length (span s a b) ≡ b - a
  span-length a b h k = length-take-le (b - a) (drop a s) (simp length-drop (omega arith))

  pub part-here : (a b : ℕ) → a ≤ b → b ≤ length s → Part s a b (span s a b)
  part-here a b h k = record { ends = omega (arith, span-length a b h k); within = k; is = refl }

  pub part-nil : (a : ℕ) → a ≤ length s → Part s a a []
  part-nil a h = record { ends = omega arith; within = h; is = rw (sub_self a) refl }

  pub part_join : {a b c : ℕ} {x y : List ℕ} → Part s a b x → Part s b c y → Part s a c (x ++ y)
  part_join {a} {b} {c} {x} {y} p q = record { ends = omega (arith, length-append x y, p.ends, q.ends); within = q.within; is = joined }
    where
      ab : b ≡ a + length x
      ab = p.ends

      bc : c ≡ b + length y
      bc = q.ends

      e1 : c - a ≡ (b - a) + (c - b)
      e1 = omega (arith, ab, bc)

      e2 : a + (b - a) ≡ b
      e2 = omega (arith, ab)

      joined : span s a c ≡ x ++ y
      joined =
          ap (λ (k : ℕ). take k (drop a s)) e1
          ∙ take-add (b - a) (c - b) (drop a s)
          ∙ ap (λ (l : List ℕ). l ++ take (c - b) (drop (b - a) (drop a s))) p.is
          ∙ ap (λ (l : List ℕ). x ++ take (c - b) l) (drop-drop (b - a) a s ∙ ap (λ (k : ℕ). drop k s) e2)
          ∙ ap (λ (l : List ℕ). x ++ l) q.is

pub span-cons : (s : List ℕ) (a b : ℕ) → a < b → b ≤ length s → span s a b ≡ get_or s a 0 ∷ span s (a + 1) b
span-cons s a b h k =
    let e : b - a ≡ suc (b - (a + 1)) = omega arith in
    rw (e, drop-cons s a 0 (omega arith), add-one a)

pub span-nil : (s : List ℕ) (a : ℕ) → span s a a ≡ []
span-nil s a = rw (sub_self a)

-- no bytes where the start does not lie before the list's end
pub span-past : (s : List ℕ) (a b : ℕ) → length s ≤ a → [] ≡ span s a b
span-past s a b h = sym (rw (drop_of_length-le s h, take-nil))

-- the number in the bytes from a up to b: its lowest byte, and the number in the rest; one part of them, and the rest
pub number-cons : (s : List ℕ) (a next b : ℕ) → a + 1 ≡ next → next ≤ b → b ≤ length s → number_of (span s a b) ≡ get_or s a 0 + 256 * number_of (span s next b)
unfolding number_of
number-cons s a next b e h k = rw (← e) (ap number_of (span-cons s a b (omega arith) k))

pub number-none : (s : List ℕ) (a : ℕ) → number_of (span s a a) ≡ 0
unfolding number_of
number-none s a = ap number_of (span-nil s a)

number_append : (xs ys : List ℕ) → number_of (xs ++ ys) ≡ number_of xs + 256 ^ length xs * number_of ys
unfolding number_of
number_append [] ys = omega arith
number_append (x ∷ xs) ys = rw (number_append xs ys, pow-suc) (omega arith)

-- a number in two halves of w bytes each
pub number-halves : (w : ℕ) (s : List ℕ) (a m b : ℕ) → a + w ≡ m → m + w ≡ b → b ≤ length s → {low high : ℕ} → low ≡ number_of (span s a m) → high ≡ number_of (span s m b)
    → low + 256 ^ w * high ≡ number_of (span s a b)
number-halves w s a m b p q l {low} {high} e f =
    let n : length (span s a m) ≡ w = span-length s a m (omega arith) (omega arith) ∙ omega arith in
    sym (ap number_of (part_join s (part-here s a m (omega arith) (omega arith)) (part-here s m b (omega arith) l)).is
    ∙ number_append (span s a m) (span s m b) ∙ rw (n, ← e, ← f))

pub span-drop : (s : List ℕ) (j a b : ℕ) → span s (a + j) b ≡ drop j (span s a b)
span-drop s j a b = ap (λ (k : ℕ). take k (drop (a + j) s)) e ∙ ap (take (b - a - j)) (sym (drop-drop j a s)) ∙ sym (drop-take j (b - a) (drop a s))
  where
    e : b - (a + j) ≡ b - a - j
    e = omega arith

    drop-take : (j n : ℕ) (l : List ℕ) → drop j (take n l) ≡ take (n - j) (drop j l)
    drop-take zero n l = ap (λ (k : ℕ). take k l) (sym (sub-zero n))
    drop-take (suc j) zero l = sym (ap (λ (k : ℕ). take k (drop (suc j) l)) (zero-sub (suc j)))
    drop-take (suc j) (suc n) [] = sym (take-nil (suc n - suc j))
    drop-take (suc j) (suc n) (x ∷ xs) = drop-take j n xs ∙ ap (λ (k : ℕ). take k (drop j xs)) (sym (suc-sub-suc n j))

-- where two lists stand as one, the first and the second
module _ (s : List ℕ) {a c : ℕ} (x y : List ℕ) (p : Part s a c (x ++ y)) where
  cut-ends : c ≡ a + length x + length y
  cut-ends = omega (arith, length-append x y, p.ends)

  pub part-front : Part s a (a + length x) x
  part-front = record {
    ends = refl;
    within = omega (arith, cut-ends, p.within);
    is =
        ap (λ (k : ℕ). take k (drop a s)) (add-sub_cancel_left a (length x))
        ∙ sym (take-take (length x) (c - a) (drop a s) (omega (arith, cut-ends))) ∙ ap (take (length x)) p.is ∙ take-append_seam x y;
  }

  pub part-back : Part s (a + length x) c y
  part-back = record { ends = cut-ends; within = p.within; is = span-drop s (length x) a c ∙ ap (drop (length x)) p.is ∙ drop-append_seam x y }

-- what a list begins with
pub part-first : (x y : List ℕ) → Part (x ++ y) 0 (length x) x
part-first x y = record { ends = omega arith; within = simp length-append (omega arith); is = rw (sub-zero (length x), take-append_seam x y) }

bytes-tail : (x : ℕ) (xs : List ℕ) → AreBytes (x ∷ xs) → AreBytes xs
bytes-tail x xs h i = h (suc i)

pub bytes_drop : (n : ℕ) (s : List ℕ) → AreBytes s → AreBytes (drop n s)
bytes_drop zero s h = h
bytes_drop (suc n) [] h = h
bytes_drop (suc n) (x ∷ xs) h = bytes_drop n xs (bytes-tail x xs h)

pub bytes_take : (n : ℕ) (s : List ℕ) → AreBytes s → AreBytes (take n s)
bytes_take zero s h i = omega arith
bytes_take (suc n) [] h i = h i
bytes_take (suc n) (x ∷ xs) h zero = h zero
bytes_take (suc n) (x ∷ xs) h (suc i) = bytes_take n xs (bytes-tail x xs h) i

pub bytes-span : (s : List ℕ) (a b : ℕ) → AreBytes s → AreBytes (span s a b)
bytes-span s a b h = bytes_take (b - a) (drop a s) (bytes_drop a s h)

pub number-bytes : (l : List ℕ) → AreBytes l → bytes_of (length l) (number_of l) ≡ l
unfolding bytes_of number_of
number-bytes [] h = refl
number-bytes (x ∷ xs) h =
    let b : x < 256 = h 0 in
    let e1 : (x + 256 * number_of xs) % 256 ≡ x = omega arith in
    let e2 : (x + 256 * number_of xs) / 256 ≡ number_of xs = omega arith in
    rw (e1, e2, number-bytes xs (bytes-tail x xs h))

pub number-below : (l : List ℕ) → AreBytes l → number_of l < 256 ^ length l
unfolding number_of
number-below [] h = omega arith
number-below (x ∷ xs) h =
    let b : x < 256 = h 0 in
    let r : number_of xs < 256 ^ length xs = number-below xs (bytes-tail x xs h) in
    rw (pow-suc 256 (length xs)) (omega arith)

pub bytes-length : (w n : ℕ) → length (bytes_of w n) ≡ w
unfolding bytes_of
bytes-length zero n = refl
bytes-length (suc w) n = ap suc (bytes-length w (n / 256))

pub bytes-number : (w n : ℕ) → n < 256 ^ w → number_of (bytes_of w n) ≡ n
unfolding bytes_of number_of
bytes-number zero n h = omega arith
bytes-number (suc w) n h =
    let h' : n < 256 ^ w * 256 = rw (pow-suc 256 w) at h in
    let r : number_of (bytes_of w (n / 256)) ≡ n / 256 = bytes-number w (n / 256) (omega arith) in
    omega arith

pub number-one : (s : List ℕ) (a : ℕ) → a + 1 ≤ length s → get_or s a 0 ≡ number_of (span s a (a + 1))
number-one s a h = omega (arith, number-cons s a (a + 1) (a + 1) refl (omega arith) h, number-none s (a + 1))
