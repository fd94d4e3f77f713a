-- `lex_compare` and `agreeing` as one relation: a law on both is then a proof by its six cases.
-- Assumes nothing.
use Prim.Native.Nat.{ℕ, suc, ◌+◌, ◌<◌}
use mathlib.Core.List.{List, [], ◌∷◌, ◌++◌}
use mathlib.Core.Path.{◌≡◌, refl, ap}
use native.Mathlib.Decide.{dec_lt}
use native.Mathlib.Nat.{zero-add, suc-add}
use native.Mathlib.Omega.{arith}
use lib.ListN.{length}
use borrow.Author.Tests.{lt-ltb, le-ltb, eq-eqb, ne_eqb}
use Rattle.std.specs.declared.cmp.Ordering.{Ordering}
use Rattle.std.specs.declared.cmp.Ordering.TheVariants.{Less, Equal, Greater}
use Rattle.order.specs.Lex.{lex_compare, agreeing}

-- two lists, their order, and how many elements agree
pub data Compares : List ℕ → List ℕ → Ordering → ℕ → Type 0 where
  ended : Compares [] [] Equal 0
  shorter : {y : ℕ} {ys : List ℕ} → Compares [] (y ∷ ys) Less 0
  longer : {x : ℕ} {xs : List ℕ} → Compares (x ∷ xs) [] Greater 0
  less : {x y : ℕ} {xs ys : List ℕ} → x < y → Compares (x ∷ xs) (y ∷ ys) Less 0
  greater : {x y : ℕ} {xs ys : List ℕ} → y < x → Compares (x ∷ xs) (y ∷ ys) Greater 0
  same : {x y : ℕ} {xs ys : List ℕ} {o : Ordering} {n : ℕ} → x ≡ y → Compares xs ys o n → Compares (x ∷ xs) (y ∷ ys) o (suc n)

-- no other order and number are related
pub only : {xs ys : List ℕ} {o : Ordering} {n : ℕ} → Compares xs ys o n → (lex_compare xs ys ≡ o) × (agreeing xs ys ≡ n)
unfolding lex_compare agreeing
only ended = (refl, refl)
only shorter = (refl, refl)
only longer = (refl, refl)
only (less {x} {y} h) = (rw (lt-ltb x y), rw (ne_eqb x y (omega arith)))
only (greater {x} {y} h) = (rw (le-ltb x y (omega arith), lt-ltb y x), rw (ne_eqb x y (omega arith)))
only (same {x} {y} e c) = (rw (le-ltb x y (omega arith), le-ltb y x (omega arith)) (only c).0, rw (eq-eqb x y e) (ap suc (only c).1))

-- these are
some : (xs ys : List ℕ) → (o : Ordering) × (n : ℕ) × Compares xs ys o n
some [] [] = (Equal, 0, ended)
some [] (y ∷ ys) = (Less, 0, shorter)
some (x ∷ xs) [] = (Greater, 0, longer)
some (x ∷ xs) (y ∷ ys) = go (dec_lt x y) (dec_lt y x) (some xs ys)
  where
    go : Dec (x < y) → Dec (y < x) → ((o : Ordering) × (n : ℕ) × Compares xs ys o n) → (o : Ordering) × (n : ℕ) × Compares (x ∷ xs) (y ∷ ys) o n
    go (yes h) k r = (Less, 0, less h)
    go (no h) (yes k) r = (Greater, 0, greater k)
    go (no h) (no k) r = let e : x ≡ y = omega arith in (r.0, suc r.1, same e r.2)

pub graph : (xs ys : List ℕ) → Compares xs ys (lex_compare xs ys) (agreeing xs ys)
graph xs ys = let c = (some xs ys).2 in rw ((only c).0, (only c).1) c

-- behind a front that both have
pub behind : {x y : List ℕ} {o : Ordering} {n : ℕ} (c : List ℕ) → Compares x y o n → Compares (c ++ x) (c ++ y) o (length c + n)
behind [] d = rw zero-add d
behind (b ∷ c) d = rw suc-add (same refl (behind c d))
