-- What was read stands there: the bytes of a field, a number, a tag and a text.
use Prim.Native.Nat.{ℕ, ◌+◌, ◌≤◌, ◌<◌}
use native.Mathlib.Omega.{arith}
use mathlib.Core.Path.{◌≡◌, refl, ap, ◌∙◌}
use mathlib.Core.List.{List}
use lib.ListN.{length}
use lib.Dec.{ltb, leb, eqb}
use borrow.Author.Tests.{leb-true, ltb-true, le-leb}
use Rattle.state.specs.Bytes.{span, number_of}
use Rattle.state.specs.Outcome.{got, Stepped, NumberRead, step_of, field_of}
use Rattle.std.specs.Prelude.{Ok}
use Rattle.state.proofs.Bytes.{span-length, number-one}
use Rattle.state.proofs.Outcome.{step-yields, value-yields, Yields, this, yields-ask, yields-bind}
use Rattle.utf8.specs.Valid.{valid_up_to}
use Rattle.utf8.proofs.Steps.{valid-within}
use Rattle.state_wire.specs.Fields.{read_span, read_number, read_tag, read_text}

module _ (n : ℕ) (s : List ℕ) (at : ℕ) where
  pub span-got : at + n ≤ length s → read_span n s at ≡ got (span s at (at + n)) (at + n)
  unfolding read_span
  span-got h = rw (le-leb (at + n) (length s) h)

  pub yields-span : Yields (λ bs m. (m ≡ at + n) × (m ≤ length s) × (bs ≡ span s at m)) (read_span n s at)
  unfolding read_span
  yields-span = yields-ask (leb (at + n) (length s)) 3 at λ t. this (refl, leb-true _ _ t, refl)

  pub yields-number : Yields (λ v m. (m ≡ at + n) × (m ≤ length s) × (v ≡ number_of (span s at m))) (read_number n s at)
  unfolding read_number
  yields-number = yields-bind yields-span λ bs m p. this (p.0, p.1, ap number_of p.2)

pub tag_below : (known : ℕ) (s : List ℕ) (at : ℕ) {f : NumberRead} {t m : ℕ} → f ≡ field_of (read_tag known s at) → f ≡ Ok (t, m) → t < known
unfolding read_tag
tag_below known s at e h =
    value-yields (yields-bind (yields-number 1 s at) λ t m _. yields-ask {P = λ t m. t < known} (ltb t known) 6 m λ b. this (ltb-true _ _ b)) e h

pub yields-text : (limit : ℕ) (s : List ℕ) (at : ℕ) → Yields (λ bs m. (at + 4 ≤ m) × (m ≤ length s) × (bs ≡ span s (at + 4) m)) (read_text limit s at)
unfolding read_text
yields-text limit s at =
    yields-bind (yields-number 4 s at) λ n start p.
    yields-ask (leb n limit) 4 at λ _.
    yields-bind (yields-span n s start) λ bs m q.
    yields-ask (eqb (valid_up_to bs) n) 5 (start + valid_up_to bs) λ _.
    this (omega arith, q.1, q.2 ∙ ap (λ (x : ℕ). span s x m) p.0)

pub text-ends : (limit : ℕ) (s : List ℕ) (at : ℕ) {r : Stepped} {next : ℕ} → r ≡ step_of (read_text limit s at) → r ≡ Ok next → (at + 4 ≤ next) × (next ≤ length s)
text-ends limit s at e h = let y = (step-yields (yields-text limit s at) e h).2 in (y.0, y.1)

-- the valid prefix of a text ends within it, and the text within the lent bytes
pub ruleset within = (valid-within, span-length)

-- a byte is the number that it spells
pub ruleset byte = (number-one)
