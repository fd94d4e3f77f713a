-- `lex_compare` is an order of lists. That it is total is that an `Ordering` has three values.
-- `agreeing` is the length of the longest front that two lists share, and what stands there decides.
-- Assumes nothing.
use Prim.Native.Nat.{ℕ, suc, ◌≤◌, ◌<◌}
use mathlib.Core.List.{List, ◌∷◌, ◌++◌, append-nil}
use mathlib.Core.Logic.{◌↔◌}
use mathlib.Core.Path.{◌≡◌, refl, sym, ap₂, ◌∙◌}
use native.Mathlib.Nat.{lt_trans}
use native.Mathlib.Omega.{arith}
use lib.ListN.{length, take, get_or}
use Rattle.std.specs.declared.cmp.Ordering.{Ordering}
use Rattle.std.specs.declared.cmp.Ordering.TheVariants.{Less, Equal, Greater}
use Rattle.order.specs.Lex.{lex_compare, agreeing, then_with}
use Rattle.order.proofs.Graph.{Compares, ended, shorter, longer, less, greater, same, only, graph, behind}

-- the order of the same two lists the other way round
abbrev pub turned : Ordering → Ordering
turned Less = Greater
turned Equal = Equal
turned Greater = Less

turn : {xs ys : List ℕ} {o : Ordering} {n : ℕ} → Compares xs ys o n → Compares ys xs (turned o) n
turn ended = ended
turn shorter = longer
turn longer = shorter
turn (less h) = greater h
turn (greater h) = less h
turn (same e c) = same (sym e) (turn c)

-- antisymmetry
pub lex-turned : (xs ys : List ℕ) → lex_compare ys xs ≡ turned (lex_compare xs ys)
lex-turned xs ys = (only (turn (graph xs ys))).0

pub lex-refl : (xs : List ℕ) → lex_compare xs xs ≡ Equal
lex-refl xs = (only (rw append-nil at (behind xs ended))).0

equals : {xs ys : List ℕ} {n : ℕ} → Compares xs ys Equal n → xs ≡ ys
equals ended = refl
equals (same e c) = ap₂ ◌∷◌ e (equals c)

-- `Equal` at equal lists alone
pub lex-equal-iff : (xs ys : List ℕ) → lex_compare xs ys ≡ Equal ↔ xs ≡ ys
lex-equal-iff xs ys = (λ e. equals (rw e at (graph xs ys)), λ e. rw e (lex-refl ys))

chain : {xs ys zs : List ℕ} {n m : ℕ} → Compares xs ys Less n → Compares ys zs Less m → (k : ℕ) × Compares xs zs Less k
chain shorter (less k) = (0, shorter)
chain shorter (same e d) = (0, shorter)
chain (less h) (less k) = (0, less (lt_trans h k))
chain (less h) (same e d) = (0, less (rw e at h))
chain (same e c) (less k) = (0, less (rw (← e) at k))
chain (same e c) (same f d) = let r = chain c d in (suc r.0, same (e ∙ f) r.1)

pub lex-trans : (xs ys zs : List ℕ) → lex_compare xs ys ≡ Less → lex_compare ys zs ≡ Less → lex_compare xs zs ≡ Less
lex-trans xs ys zs p q = (only (chain (rw p at (graph xs ys)) (rw q at (graph ys zs))).1).0

front : {xs ys : List ℕ} {o : Ordering} {n : ℕ} → Compares xs ys o n → (n ≤ length xs) × (n ≤ length ys) × (take n xs ≡ take n ys)
front ended = (omega arith, omega arith, refl)
front shorter = (omega arith, omega arith, refl)
front longer = (omega arith, omega arith, refl)
front (less h) = (omega arith, omega arith, refl)
front (greater h) = (omega arith, omega arith, refl)
front (same e c) = let r = front c in (omega arith, omega arith, ap₂ ◌∷◌ e r.2)

module _ (xs ys : List ℕ) where
  -- no more elements agree than either list has
  pub agree-within : (agreeing xs ys ≤ length xs) × (agreeing xs ys ≤ length ys)
  agree-within = let r = front (graph xs ys) in (r.0, r.1)

  -- the fronts of that length are the same
  pub agree-front : take (agreeing xs ys) xs ≡ take (agreeing xs ys) ys
  agree-front = (front (graph xs ys)).2

-- what stands at n of two lists, and the order that it gives
pub data FirstDifference (xs ys : List ℕ) (n : ℕ) : Ordering → Type 0 where
  both_end : n ≡ length xs → n ≡ length ys → FirstDifference xs ys n Equal
  left-ends : n ≡ length xs → n < length ys → FirstDifference xs ys n Less
  right-ends : n < length xs → n ≡ length ys → FirstDifference xs ys n Greater
  below : n < length xs → n < length ys → get_or xs n 0 < get_or ys n 0 → FirstDifference xs ys n Less
  above : n < length xs → n < length ys → get_or ys n 0 < get_or xs n 0 → FirstDifference xs ys n Greater

after : {x y n : ℕ} {xs ys : List ℕ} {o : Ordering} → FirstDifference xs ys n o → FirstDifference (x ∷ xs) (y ∷ ys) (suc n) o
after (both_end p q) = both_end (omega arith) (omega arith)
after (left-ends p q) = left-ends (omega arith) (omega arith)
after (right-ends p q) = right-ends (omega arith) (omega arith)
after (below p q h) = below (omega arith) (omega arith) h
after (above p q h) = above (omega arith) (omega arith) h

decides : {xs ys : List ℕ} {o : Ordering} {n : ℕ} → Compares xs ys o n → FirstDifference xs ys n o
decides ended = both_end refl refl
decides shorter = left-ends refl (omega arith)
decides longer = right-ends (omega arith) refl
decides (less h) = below (omega arith) (omega arith) h
decides (greater h) = above (omega arith) (omega arith) h
decides (same e c) = after (decides c)

-- no longer fronts agree: the lists differ there or one ends, and that decides the order
pub agree_decides : (xs ys : List ℕ) → FirstDifference xs ys (agreeing xs ys) (lex_compare xs ys)
agree_decides xs ys = decides (graph xs ys)

parts : {a b x y : List ℕ} {o p : Ordering} {n m : ℕ} → n ≡ length a ↔ n ≡ length b → Compares a b o n → Compares x y p m → (k : ℕ) × Compares (a ++ x) (b ++ y) (then_with o p) k
parts f ended d = (_, d)
parts f shorter d = absurd (omega (arith, f.0 refl))
parts f longer d = absurd (omega (arith, f.1 refl))
parts f (less h) d = (0, less h)
parts f (greater h) d = (0, greater h)
parts f (same e c) d =
    let r = parts (λ q. omega (arith, f.0 (omega arith)), λ q. omega (arith, f.1 (omega arith))) c d in
    (suc r.0, same {n = r.0} e r.1)

module _ (a b x y : List ℕ) where
  -- two parts each: where neither first part is only a front of the other, the second parts decide what the first leave open
  pub lex-parts : agreeing a b ≡ length a ↔ agreeing a b ≡ length b → lex_compare (a ++ x) (b ++ y) ≡ then_with (lex_compare a b) (lex_compare x y)
  lex-parts f = (only (parts f (graph a b) (graph x y)).1).0

  -- so it is for first parts of one length
  pub lex-append : length a ≡ length b → lex_compare (a ++ x) (b ++ y) ≡ then_with (lex_compare a b) (lex_compare x y)
  lex-append h = lex-parts (omega arith)
