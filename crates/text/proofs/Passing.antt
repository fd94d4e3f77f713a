-- Characters that are passed, one after the other, as the code passes them.
use Prim.Native.Nat.{ℕ, zero, suc, ◌+◌, ◌≤◌, ◌<◌}
use mathlib.Core.List.{List, [], ◌∷◌}
use mathlib.Core.Path.{◌≡◌, refl, sym, ap, ◌∙◌}
use lib.ListN.{length, get_or, drop, length-drop}
use lib.Seq.{drop-drop, get_or-drop}
use native.Mathlib.Nat.{zero-add}
use native.Mathlib.Omega.{arith}
use Rattle.std.specs.List.{between, fold}
use Rattle.std.specs.Prelude.{max, Option, None, Some}
use Rattle.std.proofs.lemmas.List.Edits.{get_or-between, length-between}
use Rattle.std.proofs.lemmas.Slice.{between_to_end}
use Rattle.utf8.specs.Valid.{char_width, valid_up_to, valid_from}
use Rattle.text.specs.Blocks.{Passed, IsWidth}
use Rattle.utf8.proofs.Steps.{stop, step, ascii, width-within}

-- steps, one after the other
pub onward : {s : List ℕ} {p q r : ℕ} → Passed s p q → Passed s q r → Passed s p r
onward a b = record { on = omega arith; within = b.within; same = b.same ∙ a.same }

-- no character at a position, and one
pub bad : (s : List ℕ) (at : ℕ) → char_width (drop at s) ≡ 0 → at ≡ valid_from s at
bad s at e = let z = stop (drop at s) e in omega arith

module _ (s : List ℕ) (at w : ℕ) (h : at ≤ length s) (e : char_width (between at (length s) s) ≡ w) where
  rest : char_width (drop at s) ≡ w
  rest = sym (ap char_width (between_to_end s at (length s) (omega arith))) ∙ e

  pub further : (next : ℕ) → 0 < w → next ≡ at + w → Passed s at next
  further next l n =
      let b : at + w ≤ length s = omega (arith, width-within (drop at s), length-drop at s, rest) in
      let d : valid_up_to (drop at s) ≡ w + valid_up_to (drop (at + w) s) = step (drop at s) w rest l ∙ rw drop-drop in
      rw n (record { on = omega arith; within = b; same = omega arith })

pub ended : (s : List ℕ) (at : ℕ) (o : Option ℕ) → at ≤ length s → IsWidth o (char_width (between at (length s) s)) → ((w : ℕ) → o ≡ Some w → ⊥) → at ≡ valid_from s at
ended s at None h e n = bad s at (rest s at 0 h e)
ended s at (Some w) h e n = absurd (n w refl)

-- octets below 0x80, each a character
ascii_run : (n : ℕ) (s : List ℕ) → n ≤ length s → ((k : ℕ) → k < n → get_or s k 0 < 0x80) → valid_up_to s ≡ n + valid_up_to (drop n s)
ascii_run zero s h f = sym (zero-add (valid_up_to s))
ascii_run (suc n) [] h f = absurd (omega arith)
ascii_run (suc n) (a ∷ s) h f =
    omega (arith, step (a ∷ s) 1 (ascii a s (f 0 (omega arith))) (omega arith), ascii_run n s (omega arith) (λ k l. f (suc k) (omega arith)))

-- the first n of a part of a list
pub ascii-passed : (s : List ℕ) (at n to : ℕ) → at + n ≤ to → to ≤ length s → ((k : ℕ) → k < n → get_or (between at to s) k 0 < 0x80) → Passed s at (at + n)
ascii-passed s at n to h b f =
    let d : valid_up_to (drop at s) ≡ n + valid_up_to (drop (at + n) s) =
    ascii_run n (drop at s) (simp length-drop (omega arith)) (λ k l. rw get_or-drop (omega (arith, f k l, get_or-between s at to k 0 (omega arith)))) ∙ rw drop-drop in
    record { on = omega arith; within = omega arith; same = omega arith }

-- none of the numbers is above the greatest
max-from : (s : List ℕ) (a : ℕ) → a ≤ fold max a s
max-from [] a = omega arith
max-from (x ∷ s) a = omega (arith, max-from s (max a x))

max-above : (s : List ℕ) (a k : ℕ) → k < length s → get_or s k 0 ≤ fold max a s
max-above [] a k l = absurd (omega arith)
max-above (x ∷ s) a zero l = omega (arith, max-from s (max a x))
max-above (x ∷ s) a (suc k) l = max-above s (max a x) k (omega arith)

pub ascii-block : (s : List ℕ) (at n : ℕ) → at + n ≤ length s → fold max 0 (between at (at + n) s) < 0x80 → Passed s at (at + n)
ascii-block s at n h m =
    let b = between at (at + n) s in
    let l : length b ≡ n = omega (arith, length-between s at (at + n) h) in
    ascii-passed s at n (at + n) (omega arith) h (λ k i. omega (arith, max-above b 0 k (omega arith)))
