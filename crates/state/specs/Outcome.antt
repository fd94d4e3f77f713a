-- What a reading comes to, and what each type of answer says of it.
use Rattle.std.specs.Prelude.{ℕ, zero, suc, ◌+◌, ◌-◌, ◌^◌, min, Bool, true, false, Result, Ok, Err}
use Rattle.state.specs.declared.Question.{Question}
use Rattle.state.specs.declared.Refusal.{Refusal}

-- a value and the position after it; or the number of the question that was answered no, and the position at which it is refused
pub data Outcome (A : Type 0) : Type 0 where
  got : A → (next : ℕ) → Outcome A
  refused : (question position : ℕ) → Outcome A

-- document 01, "A refusal is number and offset": as code answers it, at a position or an offset
abbrev pub refusal : (question at : ℕ) → Refusal ℕ
refusal q p = record { question = record { 0 = q }; at = p }

abbrev pub refuses : {A : Type 0} → (question at : ℕ) → Result A (Refusal ℕ)
refuses q p = Err (refusal q p)

-- the answer of code that asks questions: yes to all, or the first that is answered no. An answer is 0 for yes and a question's number for no
abbrev pub said : (answer : ℕ) → Result Unit Question
said zero = Ok tt
said (suc q) = Err (record { 0 = suc q })

-- what code answers that walks over a value: where it ends; and code that reads a number: the number, and where it ends
abbrev pub Stepped : Type 0
Stepped = Result ℕ (Refusal ℕ)

abbrev pub NumberRead : Type 0
NumberRead = Result (ℕ × ℕ) (Refusal ℕ)

module _ {A B : Type 0} where
  -- one reading after another: the first refusal stands
  abbrev pub bind : Outcome A → (A → ℕ → Outcome B) → Outcome B
  bind (got a n) k = k a n
  bind (refused q p) k = refused q p

module _ {A : Type 0} where
  -- document 01, "Questions": yes goes on, no is refusal q at p
  abbrev pub ask : Bool → (q p : ℕ) → Outcome A → Outcome A
  ask true q p k = k
  ask false q p k = refused q p

  -- the same of an answer that is 0 for yes and a question's number for no
  abbrev pub heed : (answer p : ℕ) → Outcome A → Outcome A
  heed zero p k = k
  heed (suc q) p k = refused (suc q) p

  abbrev pub step_of : Outcome A → Stepped
  step_of (got v n) = Ok n
  step_of (refused q p) = refuses q p

abbrev pub field_of : Outcome ℕ → NumberRead
field_of (got v n) = Ok (v, n)
field_of (refused q p) = refuses q p

-- a number's reading with the number forgotten
abbrev pub step_of_field : {N : Type 0} → Result (N × ℕ) (Refusal ℕ) → Stepped
step_of_field (Ok f) = Ok f.1
step_of_field (Err e) = Err e

-- document 01, state_wire.rs: "Offsets are base plus position and stop at 2^64 − 1"
abbrev pub offset_of : (base position : ℕ) → ℕ
offset_of base position = min (base + position) (2 ^ 64 - 1)
