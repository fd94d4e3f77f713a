-- The number in a few bytes is the number in eight: zeros behind them add nothing. Four are a number by themselves.
use Prim.Native.Nat.{ℕ, zero, suc, ◌+◌, ◌*◌, ◌≤◌}
use native.Mathlib.Omega.{arith}
use mathlib.Core.Path.{◌≡◌, refl, ap, ◌∙◌}
use mathlib.Core.List.{List, [], ◌∷◌, ◌++◌}
use lib.ListN.{length, get_or, drop, replicate, length-append, length-drop}
use lib.Seq.{take_all}
use mir.Syntax.{w32, w64}
use Rattle.std.specs.Int.{from_le_bytes}
use Rattle.state.specs.Bytes.{span, number_of}
use Rattle.state.proofs.Bytes.{number-cons, number-none}

padded : (xs ys : List ℕ) → number_of ys ≡ 0 → number_of (xs ++ ys) ≡ number_of xs
unfolding number_of
padded [] ys h = h
padded (x ∷ xs) ys h = rw (padded xs ys h)

zeros : (n w : ℕ) → number_of (drop w (replicate n 0)) ≡ 0
unfolding number_of
zeros zero zero = refl
zeros zero (suc w) = refl
zeros (suc n) zero = rw (zeros n zero)
zeros (suc n) (suc w) = zeros n w

eight : (l : List ℕ) → length l ≡ 8 → from_le_bytes w64 l ≡ number_of l
eight l h =
    let n : (a : ℕ) → a + 1 ≤ 8 → number_of (span l a 8) ≡ get_or l a 0 + 256 * number_of (span l (a + 1) 8) = λ a k. number-cons l a (a + 1) 8 refl k (omega arith) in
    let w : span l 0 8 ≡ l = take_all 8 l (omega arith) in
    omega (arith, ap number_of w, n 0 (omega arith), n 1 (omega arith), n 2 (omega arith), n 3 (omega arith), n 4 (omega arith), n 5 (omega arith), n 6 (omega arith), n 7 (omega arith), number-none l 8)

pub number_wide : (w : ℕ) (x : List ℕ) → length x ≡ w → w ≤ 8 → from_le_bytes w64 (x ++ drop w (replicate 8 0)) ≡ number_of x
number_wide w x h k =
    eight (x ++ drop w (replicate 8 0)) (simp (length-append, length-drop) (omega arith)) ∙ padded x (drop w (replicate 8 0)) (zeros 8 w)

pub number_four : (l : List ℕ) → length l ≡ 4 → from_le_bytes w32 l ≡ number_of l
number_four l h =
    let n : (a : ℕ) → a + 1 ≤ 4 → number_of (span l a 4) ≡ get_or l a 0 + 256 * number_of (span l (a + 1) 4) = λ a k. number-cons l a (a + 1) 4 refl k (omega arith) in
    let w : span l 0 4 ≡ l = take_all 4 l (omega arith) in
    omega (arith, ap number_of w, n 0 (omega arith), n 1 (omega arith), n 2 (omega arith), n 3 (omega arith), number-none l 4)
