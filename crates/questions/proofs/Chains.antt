-- The first question that says no, one after another.
use Prim.Native.Nat.{ℕ, zero, suc}
use native.Mathlib.Omega.{arith}
use mathlib.Core.Path.{◌≡◌, refl, sym, ap, ◌∙◌}
use mathlib.Core.Bool.{Bool, true, false}
use mathlib.Core.List.{List, [], ◌∷◌, ◌++◌, map}
use Rattle.std.specs.Prelude.{Option, Some, None, Result, Ok, Err, ok_or}
use Rattle.state.specs.Outcome.{said}
use Rattle.state.specs.declared.Question.{Question}
use Rattle.state.specs.declared.Refusal.{Refusal}
use Rattle.format.specs.Admits.{All}
use Rattle.questions.specs.Sets.{◌unless◌, first}

-- a question that says yes, one that says no
pub says-yes : (q : ℕ) (qs : List ℕ) {b : Bool} → b ≡ true → first ((q unless b) ∷ qs) ≡ first qs
unfolding first ◌unless◌
says-yes q qs e = rw e

pub says-no : (q : ℕ) (qs : List ℕ) {b : Bool} → b ≡ false → suc q ≡ first ((suc q unless b) ∷ qs)
unfolding first ◌unless◌
says-no q qs e = rw e

-- a group of questions of which none says no, one of which one does
pub none-says-no : (qs : List ℕ) {n : ℕ} → n ≡ 0 → first (n ∷ qs) ≡ first qs
unfolding first
none-says-no qs e = rw e

pub one-says-no : (qs : List ℕ) (n : ℕ) → (n ≡ 0 → ⊥) → n ≡ first (n ∷ qs)
unfolding first
one-says-no qs zero h = absurd (h refl)
one-says-no qs (suc n) h = refl

-- a group of one
pub first_one : (q : ℕ) → first (q ∷ []) ≡ q
unfolding first
first_one zero = refl
first_one (suc q) = refl

pub first_rest : (q : ℕ) (qs : List ℕ) → first (q ∷ qs) ≡ first (q ∷ first qs ∷ [])
unfolding first
first_rest zero qs = sym (first_one (first qs))
first_rest (suc q) qs = refl

-- groups in a row
pub first-append : (xs ys : List ℕ) → first (xs ++ ys) ≡ first (first xs ∷ ys)
unfolding first
first-append [] ys = refl
first-append (zero ∷ xs) ys = first-append xs ys
first-append (suc q ∷ xs) ys = refl

-- of a group in front of others: the first that says no is in it, or behind it
pub group-no : (xs ys : List ℕ) {n : ℕ} → n ≡ first xs → (n ≡ 0 → ⊥) → n ≡ first (xs ++ ys)
group-no xs ys {n} e h = one-says-no ys n h ∙ ap (λ (k : ℕ). first (k ∷ ys)) e ∙ sym (first-append xs ys)

pub group-yes : (xs ys : List ℕ) {n : ℕ} → n ≡ first xs → n ≡ 0 → first (xs ++ ys) ≡ first ys
group-yes xs ys e h = first-append xs ys ∙ none-says-no ys (sym e ∙ h)

-- ---- where none says no
pub first-none : (q : ℕ) (qs : List ℕ) → first (q ∷ qs) ≡ 0 → (q ≡ 0) × (first qs ≡ 0)
unfolding first
first-none zero qs h = (refl, h)
first-none (suc q) qs h = absurd (omega arith)

-- in either of two groups
pub groups_none : (xs ys : List ℕ) → first (xs ++ ys) ≡ 0 → (first xs ≡ 0) × (first ys ≡ 0)
groups_none xs ys h = first-none (first xs) ys (sym (first-append xs ys) ∙ h)

pub unless-none : (q : ℕ) (b : Bool) → suc q unless b ≡ 0 → b ≡ true
unfolding ◌unless◌
unless-none q true h = refl
unless-none q false h = absurd (omega arith)

pub each_none : {A : Type 0} (f : A → ℕ) (xs : List A) → first (map f xs) ≡ 0 → All (λ x. f x ≡ 0) xs
each_none f [] h = tt
each_none f (x ∷ xs) h = let p = first-none (f x) (map f xs) h in (p.0, each_none f xs p.1)

-- ---- an answer as code says it: `Ok`, or `Err` with the question that says no
pub said-yes : (n : ℕ) {u : Unit} → said n ≡ Ok u → n ≡ 0
said-yes zero e = refl
said-yes (suc n) e = cc

pub said-no : (n : ℕ) {d : Question} → said n ≡ Err d → (n ≡ d.0) × (n ≡ 0 → ⊥)
said-no zero e = cc
said-no (suc n) {d = d} e = let i : record { 0 = suc n } ≡ d = cc in (ap (λ (x : Question). x.0) i, λ z. absurd (omega arith))

-- what code answered of one in front of others
module _ (n : ℕ) {r : Result Unit Question} (is : r ≡ said n) where
  pub answered-none : {u : Unit} → r ≡ Ok u → n ≡ 0
  answered-none e = said-yes n (sym is ∙ e)

  pub answered-yes : {u : Unit} → r ≡ Ok u → (qs : List ℕ) → first qs ≡ first (n ∷ qs)
  answered-yes e qs = sym (none-says-no qs (answered-none e))

  pub answered-no : {d : Question} → r ≡ Err d → (qs : List ℕ) → Err d ≡ said (first (n ∷ qs))
  answered-no e qs = sym e ∙ is ∙ ap said (one-says-no qs n (said-no n (sym is ∙ e)).1)

-- of a group in front of others
pub said-group-no : (xs ys : List ℕ) {d : Question} → said (first xs) ≡ Err d → Err d ≡ said (first (xs ++ ys))
said-group-no xs ys {d = d} e = let p = said-no (first xs) e in sym e ∙ ap said (group-no xs ys refl p.1)

pub said-group-yes : (xs ys : List ℕ) {u : Unit} → said (first xs) ≡ Ok u → said (first (xs ++ ys)) ≡ said (first ys)
said-group-yes xs ys e = ap said (group-yes xs ys refl (said-yes (first xs) e))

pub ruleset in_order = (said-group-no, said-group-yes)

-- ---- what is looked up, and a question that says no where it is not there
module _ {A : Type 0} (o : Option A) (q : Question) {r : Result A Question} (is : r ≡ ok_or o q) where
  pub lacked : {p : Question} → r ≡ Err p → (o ≡ None) × (p ≡ q)
  lacked {p} e = go o is
    where
      go : (o : Option A) → r ≡ ok_or o q → (o ≡ None) × (p ≡ q)
      go (Some x) i = cc
      go None i = (refl, cc)

  pub had : {x : A} → r ≡ Ok x → o ≡ Some x
  had {x} e = go o is
    where
      go : (o : Option A) → r ≡ ok_or o q → o ≡ Some x
      go (Some y) i = cc
      go None i = cc

-- ---- a refusal with its place
-- a question over the whole, refused at a position
abbrev pub located : ℕ → Result Unit Question → Result Unit (Refusal ℕ)
located n (Ok u) = Ok u
located n (Err q) = Err (record { question = q; at = n })

pub located-no : (n : ℕ) (v : Result Unit Question) {m : Result Unit (Refusal ℕ)} {d : Refusal ℕ} → m ≡ located n v → m ≡ Err d → (q : Question) × (v ≡ Err q) × (d ≡ record { question = q; at = n })
located-no n (Ok u) l e = cc (sym l ∙ e)
located-no n (Err q) {d = d} l e =
    let z : ◌≡◌ {A = Result Unit (Refusal ℕ)} (Err (record { question = q; at = n })) (Err d) = sym l ∙ e in
    let i : d ≡ record { question = q; at = n } = cc in
    (q, refl, i)

pub located-yes : (n : ℕ) (v : Result Unit Question) {m : Result Unit (Refusal ℕ)} {u : Unit} → m ≡ located n v → m ≡ Ok u → v ≡ Ok tt
located-yes n (Ok u) l e = refl
located-yes n (Err q) l e = cc (sym l ∙ e)
