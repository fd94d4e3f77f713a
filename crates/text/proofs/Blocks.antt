-- Blocks of octets that are each right after the three before them: from one quiet position to another they are whole characters.
-- Assumes nothing.
use Prim.Native.Nat.{ℕ, zero, suc, ◌+◌, ◌-◌, ◌≤◌, ◌<◌}
use mathlib.Core.List.{List, [], ◌∷◌}
use mathlib.Core.Logic.{⊎_elim}
use mathlib.Core.Path.{◌≡◌, refl, sym, subst, ◌∙◌}
use lib.ListN.{length, get_or, drop}
use lib.Seq.{drop-drop}
use native.Mathlib.Nat.{zero-add, add-zero}
use native.Mathlib.Omega.{arith}
use Rattle.std.proofs.lemmas.Bool.{cases_lt}
use Rattle.std.specs.Prelude.{Option, None, Some, IfSome}
use Rattle.utf8.specs.Valid.{valid_up_to}
use Rattle.text.specs.Blocks.{Passed, Clean, Quiet, CleanAt, QuietAt, CleanUpTo, pad}
use Rattle.utf8.proofs.Steps.{step, ascii, from}
use Rattle.text.proofs.Octets.{taken, next, none-follows}

-- ---- after w, x and y a list whose first m octets are right, with a quiet end

abbrev Run : ℕ → ℕ → ℕ → ℕ → List ℕ → Type 0
Run w x y zero l = Quiet w x y
Run w x y (suc m) [] = ⊥
Run w x y (suc m) (z ∷ l) = Clean w x y z × Run x y z m l

abbrev Whole : ℕ → List ℕ → Type 0
Whole m l = valid_up_to l ≡ m + valid_up_to (drop m l)

abbrev Runs : ℕ → Type 0
Runs n = (m : ℕ) → m ≤ n → (w x y : ℕ) (l : List ℕ) → Quiet w x y → Run w x y m l → Whole m l

-- characters of one, two, three and four octets at the start of a run; what is left of it is shorter
module _ (n x y a : ℕ) (q : (x < 0xe0) × (y < 0xc0)) (more : Runs n) where
  one : (m : ℕ) (l : List ℕ) → m ≤ n → a < 0x80 → Run x y a m l → Whole (suc m) (a ∷ l)
  one m l k h r =
      let v : Quiet x y a = omega arith in
      omega (arith, step (a ∷ l) 1 (ascii a l h) (omega arith), more m k x y a l v r)

  two : (m : ℕ) (l : List ℕ) → m ≤ n → (0xc0 ≤ a) × (a < 0xe0) → Run x y a m l → Whole (suc m) (a ∷ l)
  two zero l k h r = absurd (omega (arith, r.one))
  two (suc m) [] k h r = absurd r
  two (suc m) (b ∷ l) k h (c, r) =
      let s = c.second h.0 in
      let e = next 0 a b l (omega arith) s.0 s.1 in
      let v : Quiet y a b = omega arith in
      omega (arith, step (a ∷ b ∷ l) 2 (taken 0 a b l (omega arith) s.0 s.1 tt) (omega arith), more m (omega arith) y a b l v r)

  three : (m : ℕ) (l : List ℕ) → m ≤ n → (0xe0 ≤ a) × (a < 0xf0) → Run x y a m l → Whole (suc m) (a ∷ l)
  three zero l k h r = absurd (omega (arith, r.one))
  three (suc m) [] k h r = absurd r
  three (suc zero) (b ∷ l) k h (c, r) = absurd (omega (arith, r.two))
  three (suc (suc m)) (b ∷ []) k h (c, r) = absurd r
  three (suc (suc m)) (b ∷ d ∷ l) k h (c, (f, r)) =
      let s = c.second (omega arith) in
      let t = f.third h.0 in
      let e = next 1 a b l (omega arith) s.0 s.1 in
      let v : Quiet a b d = omega arith in
      omega (arith, step (a ∷ b ∷ d ∷ l) 3 (taken 1 a b (d ∷ l) (omega arith) s.0 s.1 (omega arith, tt)) (omega arith), more m (omega arith) a b d l v r)

  four : (m : ℕ) (l : List ℕ) → m ≤ n → (0xf0 ≤ a) × (a < 0xf8) → Run x y a m l → Whole (suc m) (a ∷ l)
  four zero l k h r = absurd (omega (arith, r.one))
  four (suc m) [] k h r = absurd r
  four (suc zero) (b ∷ l) k h (c, r) = absurd (omega (arith, r.two))
  four (suc (suc m)) (b ∷ []) k h (c, r) = absurd r
  four (suc (suc zero)) (b ∷ d ∷ l) k h (c, (f, r)) = absurd (omega (arith, r.three))
  four (suc (suc (suc m))) (b ∷ d ∷ []) k h (c, (f, r)) = absurd r
  four (suc (suc (suc m))) (b ∷ d ∷ p ∷ l) k h (c, (f, (g, r))) =
      let s = c.second (omega arith) in
      let t = f.third (omega arith) in
      let u = g.fourth h.0 in
      let e = next 2 a b l (omega arith) s.0 s.1 in
      let v : Quiet b d p = omega arith in
      omega (arith, step (a ∷ b ∷ d ∷ p ∷ l) 4 (taken 2 a b (d ∷ p ∷ l) (omega arith) s.0 s.1 (omega arith, (omega arith, tt))) (omega arith), more m (omega arith) b d p l v r)

  none : (m : ℕ) (l : List ℕ) → 0xf8 ≤ a → Run x y a m l → ⊥
  none zero l h r = omega (arith, r.one)
  none (suc m) [] h r = r
  none (suc m) (b ∷ l) h (c, r) = let s = c.second (omega arith) in none-follows a b h s.0 s.1

runs-more : (n : ℕ) → Runs n → Runs (suc n)
runs-more n more zero h w x y l q r = sym (zero-add (valid_up_to l))
runs-more n more (suc m) h w x y [] q r = absurd r
runs-more n more (suc m) h w x y (a ∷ l) q (c, r) =
    let v : (x < 0xe0) × (y < 0xc0) = omega arith in
    let k : m ≤ n = omega arith in
    ⊎_elim (λ t. one n x y a v more m l k t r)
    (λ g. ⊎_elim (λ t. two n x y a v more m l k (g, t) r)
    (λ g. ⊎_elim (λ t. three n x y a v more m l k (g, t) r)
    (λ g. ⊎_elim (λ t. four n x y a v more m l k (g, t) r) (λ g. absurd (none n x y a v more m l g r)) (cases_lt a 0xf8))
    (cases_lt a 0xf0))
    (cases_lt a 0xe0))
    (c.first q.one q.two q.three)

runs : (n : ℕ) → Runs n
runs zero zero h w x y l q r = sym (zero-add (valid_up_to l))
runs zero (suc m) h w x y l q r = absurd (omega arith)
runs (suc n) m h w x y l q r = runs-more n (runs n) m h w x y l q r

-- the same in a list of which each octet from one position on is right, up to another
pub pad-at : (s : List ℕ) (i j : ℕ) → i ≡ j + 3 → get_or (pad s) i 0 ≡ get_or s j 0
pad-at s i j e = let q : i ≡ suc (suc (suc j)) = omega arith in rw q

run_at : (s : List ℕ) (m p : ℕ) → p + m ≤ length s → ((k : ℕ) → p ≤ k → k < p + m → CleanAt s k) → QuietAt s (p + m)
    → Run (get_or (pad s) p 0) (get_or (pad s) (p + 1) 0) (get_or (pad s) (p + 2) 0) m (drop p s)
run_at s zero p b f q = rw add-zero at q
run_at s (suc m) p b f q =
    let e : p + 1 + 1 ≡ p + 2 = omega arith in
    let n : p + 1 + m ≡ p + suc m = omega arith in
    let r = run_at s m (p + 1) (omega arith) (λ k i l. f k (omega arith) (omega arith)) (rw n q) in
    rw (from s p (p + 1) (omega arith) refl) (f p (omega arith) (omega arith), rw (e, pad-at s (p + 1 + 2) p (omega arith)) at r)

pub blocks-passed : (s : List ℕ) (q p : ℕ) → CleanUpTo s q p → QuietAt s q → QuietAt s p → Passed s q p
blocks-passed s q p c u v =
    let n : q + (p - q) ≡ p = omega arith in
    let r = run_at s (p - q) q (omega arith) (λ k i o. c.each k i (omega arith)) (rw n v) in
    let d : valid_up_to (drop q s) ≡ p - q + valid_up_to (drop p s) = runs (p - q) (p - q) (omega arith) _ _ _ (drop q s) u r ∙ rw (drop-drop, n) in
    record { on = c.on; within = c.within; same = omega arith }

-- none yet, one more, some more, a part
pub clean-none : (s : List ℕ) (q p : ℕ) → q ≡ p → q ≤ length s → CleanUpTo s q p
clean-none s q p e h = record { on = omega arith; within = omega arith; each = λ k i l. absurd (omega arith) }

pub clean-next : {s : List ℕ} {q p : ℕ} (r : ℕ) → CleanUpTo s q p → r ≡ p + 1 → r ≤ length s → CleanAt s p → CleanUpTo s q r
clean-next {s} {q} {p} r c e h a = record { on = omega arith; within = h; each = λ k i l. ⊎_elim (λ b. c.each k i b) (λ b. let m : p ≡ k = omega arith in subst (CleanAt s) m a) (cases_lt k p) }

pub clean-more : {s : List ℕ} {q p r : ℕ} → CleanUpTo s q p → CleanUpTo s p r → CleanUpTo s q r
clean-more {s} {q} {p} {r} c d = record { on = omega arith; within = d.within; each = λ k h l. ⊎_elim (λ i. c.each k h i) (λ i. d.each k i l) (cases_lt k p) }

pub clean-part : {s : List ℕ} {q p : ℕ} (a b : ℕ) → CleanUpTo s q p → q ≤ a → a ≤ b → b ≤ p → CleanUpTo s a b
clean-part a b c h g l = record { on = g; within = omega arith; each = λ k i m. c.each k (omega arith) (omega arith) }

-- .. up to a position within them that no character crosses, if one was found
pub passed-last : {s : List ℕ} {q p : ℕ} (r : Option ℕ) → IfSome r (λ at. (q < at) × (at ≤ p) × QuietAt s at) → CleanUpTo s q p → QuietAt s q → IfSome r (λ at. (q < at) × Passed s q at)
passed-last None f c u = tt
passed-last {s} {q} (Some x) f c u = (f.0, blocks-passed s q x (clean-part q x c (omega arith) (omega arith) (omega arith)) u f.2)
