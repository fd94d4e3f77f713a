-- Words for lists, and for the first question that says no.
use Rattle.std.specs.Prelude.{ℕ, zero, suc, ◌+◌, List, [], ◌∷◌, ◌++◌, Bool, true, false, cond, ◌&&◌, ◌||◌}
use Rattle.format.specs.Lists.{is_in, all_different}

module _ {A : Type 0} where
  -- each passes a test; one passes it
  unfoldable pub all : (A → Bool) → List A → Bool
  all t [] = true
  all t (x ∷ xs) = t x && all t xs

  unfoldable pub any : (A → Bool) → List A → Bool
  any t [] = false
  any t (x ∷ xs) = t x || any t xs

  -- those that pass a test, in their order
  unfoldable pub keep : (A → Bool) → List A → List A
  keep t [] = []
  keep t (x ∷ xs) = cond (t x) (x ∷ keep t xs) (keep t xs)

  -- what each has, one after the other
  unfoldable pub gather : {B : Type 0} → (A → List B) → List A → List B
  gather f [] = []
  gather f (x ∷ xs) = f x ++ gather f xs

-- each of these is among those
unfoldable pub all_in : List (List ℕ) → List (List ℕ) → Bool
all_in ks ls = all (λ k. is_in k ls) ks

-- and each of those among these
unfoldable pub same_set : List (List ℕ) → List (List ℕ) → Bool
same_set ks ls = all_in ks ls && all_in ls ks

-- these are those, each once
unfoldable pub each_once : List (List ℕ) → List (List ℕ) → Bool
each_once ks ls = all_different ks && same_set ks ls

-- how many different ones there are
unfoldable pub count_different : List (List ℕ) → ℕ
count_different [] = 0
count_different (k ∷ ks) = cond (is_in k ks) 0 1 + count_different ks

-- the sum of all, 0 of none
unfoldable pub sum : List ℕ → ℕ
sum [] = 0
sum (n ∷ ns) = n + sum ns

-- ---- a question's answer is 0 for yes and its number for no
unfoldable pub ◌unless◌ : (question : ℕ) → Bool → ℕ
◌unless◌ q b = cond b 0 q

infix 70 ◌unless◌
-- the first that says no
unfoldable pub first : List ℕ → ℕ
first [] = 0
first (zero ∷ qs) = first qs
first (suc q ∷ qs) = suc q
