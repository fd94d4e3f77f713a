-- What an answer of code tells of the reading that it is the answer of.
use Prim.Native.Nat.{ℕ, zero, suc}
use mathlib.Core.Path.{◌≡◌, refl, sym, ap, subst, ◌∙◌}
use mathlib.Core.Bool.{Bool, true, false}
use Rattle.std.specs.Prelude.{Result, Ok, Err}
use Rattle.std.specs.Result.{IsErrAnd}
use Rattle.state.specs.declared.Refusal.{Refusal}
use Rattle.state.specs.Outcome.{Outcome, got, refused, bind, ask, heed, refusal, refuses, Stepped, NumberRead, step_of, field_of, step_of_field}

-- a number that was read, and one that was refused
pub value-got : (o : Outcome ℕ) {f : NumberRead} {v n : ℕ} → f ≡ field_of o → f ≡ Ok (v, n) → o ≡ got v n
value-got (got a m) {v = v} {n = n} p q = let e : ◌≡◌ {A = NumberRead} (Ok (a, m)) (Ok (v, n)) = sym p ∙ q in let i : ◌≡◌ {A = ℕ × ℕ} (a, m) (v, n) = cc in ap (λ (x : ℕ × ℕ). got x.0 x.1) i
value-got (refused a m) p q = cc

pub value-refused : (o : Outcome ℕ) {f : NumberRead} {e : Refusal ℕ} → f ≡ field_of o → f ≡ Err e → o ≡ refused e.question.0 e.at
value-refused (got a m) p q = cc
value-refused (refused a m) {e = e} p q = let h : ◌≡◌ {A = NumberRead} (refuses a m) (Err e) = sym p ∙ q in let i : refusal a m ≡ e = cc in ap (λ (x : Refusal ℕ). refused x.question.0 x.at) i

pub step-of-field : (o : Outcome ℕ) → step_of_field (field_of o) ≡ step_of o
step-of-field (got v n) = refl
step-of-field (refused q p) = refl

-- a step refused
pub step-refused : {A : Type 0} (o : Outcome A) {r : Stepped} {e : Refusal ℕ} → r ≡ step_of o → r ≡ Err e → o ≡ refused e.question.0 e.at
step-refused (got a m) p q = cc
step-refused (refused a m) {e = e} p q = let h : ◌≡◌ {A = Stepped} (refuses a m) (Err e) = sym p ∙ q in let i : refusal a m ≡ e = cc in ap (λ (x : Refusal ℕ). refused x.question.0 x.at) i

-- the value forgotten: go on from where a step ended, or where a question was answered yes
abbrev pub onward : Stepped → (ℕ → Stepped) → Stepped
onward (Ok n) k = k n
onward (Err e) k = Err e

abbrev pub asked : Bool → (q p : ℕ) → Stepped → Stepped
asked true q p k = k
asked false q p k = refuses q p

pub step-ask : {A : Type 0} (b : Bool) (q p : ℕ) (o : Outcome A) → step_of (ask b q p o) ≡ asked b q p (step_of o)
step-ask true q p o = refl
step-ask false q p o = refl

-- an answer that is not 0 is refused
pub heed-no : {A : Type 0} (q p : ℕ) (o : Outcome A) → (q ≡ 0 → ⊥) → refuses q p ≡ step_of (heed q p o)
heed-no zero p o h = absurd (h refl)
heed-no (suc q) p o h = refl

module _ {A B : Type 0} where
  pub step-bind : (o : Outcome A) (k : ℕ → Stepped) (f : A → ℕ → Outcome B) → ((a : A) (n : ℕ) → step_of (f a n) ≡ k n) → step_of (bind o f) ≡ onward (step_of o) k
  step-bind (got a n) k f h = h a n
  step-bind (refused q p) k f h = refl

  pub step_keeps : (o : Outcome A) (f : A → B) → step_of (bind o (λ a n. got (f a) n)) ≡ step_of o
  step_keeps (got a n) f = refl
  step_keeps (refused q p) f = refl

-- P of what was read, where something was
pub data Yields {A : Type 0} (P : A → ℕ → Type 0) : Outcome A → Type 0 where
  this : {v : A} {n : ℕ} → P v n → Yields P (got v n)
  nothing : {q p : ℕ} → Yields P (refused q p)

pub always : {A : Type 0} (o : Outcome A) → Yields (λ v n. Unit) o
always (got v n) = this tt
always (refused q p) = nothing

module _ {A : Type 0} {P : A → ℕ → Type 0} where
  pub yielded : {v : A} {n : ℕ} → Yields P (got v n) → P v n
  yielded (this p) = p

  pub yields-so : {Q : A → ℕ → Type 0} {o : Outcome A} → Yields P o → ((a : A) (m : ℕ) → P a m → Q a m) → Yields Q o
  yields-so (this {v = a} {n = m} p) h = this (h a m p)
  yields-so nothing h = nothing

  pub yields-ask : (b : Bool) (q p : ℕ) {o : Outcome A} → (b ≡ true → Yields P o) → Yields P (ask b q p o)
  yields-ask true q p h = h refl
  yields-ask false q p h = nothing

  pub yields-heed : (q p : ℕ) {o : Outcome A} → (q ≡ 0 → Yields P o) → Yields P (heed q p o)
  yields-heed zero p h = h refl
  yields-heed (suc q) p h = nothing

module _ {A B : Type 0} {P : A → ℕ → Type 0} {Q : B → ℕ → Type 0} where
  pub yields-bind : {o : Outcome A} {k : A → ℕ → Outcome B} → Yields P o → ((a : A) (m : ℕ) → P a m → Yields Q (k a m)) → Yields Q (bind o k)
  yields-bind (this {v = a} {n = m} p) h = h a m p
  yields-bind nothing h = nothing

-- and so of what code was told
pub step-yields : {A : Type 0} {P : A → ℕ → Type 0} {o : Outcome A} {r : Stepped} {m : ℕ} → Yields P o → r ≡ step_of o → r ≡ Ok m → (v : A) × (o ≡ got v m) × P v m
step-yields {P = P} {m = m} (this {v = v} {n = n} p) e h = let i : n ≡ m = cc (sym e ∙ h) in (v, ap (got v) i, subst (P v) i p)
step-yields nothing e h = cc

pub value-yields : {P : ℕ → ℕ → Type 0} {o : Outcome ℕ} {f : NumberRead} {v m : ℕ} → Yields P o → f ≡ field_of o → f ≡ Ok (v, m) → P v m
value-yields {P = P} {o = o} {v = v} {m = m} y e h = yielded (subst (Yields P) (value-got o e h) y)

-- what `?` passes on
pub passed_on : {T E : Type 0} {r : Result T E} {d : E} → IsErrAnd r (λ e. e ≡ d) → r ≡ Err d
passed_on {r = Ok n} h = absurd h
passed_on {r = Err e} h = ap Err h
