use Prim.Native.Nat.{ℕ, ◌+◌, ◌≤◌, ◌<◌}
use mathlib.Core.List.{List}
use mathlib.Core.Path.{◌≡◌}
use lib.ListN.{length}
use borrow.Author.Tests.{tests}
use native.Mathlib.Omega.{arith}
use Rattle.std.proofs.Common.{rules}
use Rattle.std.proofs.lemmas.Iterator.{IsFirst-from_position, YieldsList-from_slice}
use Rattle.std.proofs.lemmas.List.Edits.{length-between}
use Rattle.std.specs.List.{between, AllWithin, HoldsAt}
use Rattle.std.specs.Prelude.{Option, None, Some, MatchOption}
use Rattle.text.specs.Blocks.{Passed}
use Rattle.text.proofs.Passing.{ascii-passed}
use Rattle.text.proofs.ascii.ascii_bytes.Goals as goal

-- the octets before the i-th of what is left
passed : (s : List ℕ) (from i : ℕ) → from + i ≤ length s → AllWithin (λ x. x < 0x80) (between from (length s) s) 0 i → Passed s from (from + i)
passed s from i h f = ascii-passed s from i (length s) h (omega arith) (λ k l. f k 0 (omega arith) l)

found : (s : List ℕ) (from : ℕ) → from ≤ length s → (r : Option ℕ) {n : ℕ}
    → let rest = between from (length s) s in MatchOption r (AllWithin (λ x. x < 0x80) rest 0 (length rest)) (λ i. (i < length rest) × HoldsAt (λ x. 0x80 ≤ x) rest i × AllWithin (λ x. x < 0x80) rest 0 i)
    → MatchOption r (n ≡ length s) (λ i. n ≡ from + i) → Passed s from n
found s from h None f e =
    let l = length-between s from (length s) (omega arith) in
    let m : from + length (between from (length s) s) ≡ length s = omega arith in
    rw (e, ← m) (passed s from (length (between from (length s) s)) (omega arith) f)
found s from h (Some i) f e = rw e (passed s from i (omega (arith, f.0, length-between s from (length s) (omega arith))) f.2)

pub returns : goal.returns
returns c =
    let told : MatchOption c.position.result (c.map_or.result ≡ length c.args.s.now) (λ i. c.map_or.result ≡ c.args.from + i) = search rules in
    let f = IsFirst-from_position _ _ _ (λ x. 0x80 ≤ x) (λ x. x < 0x80) c.position.ensures.ran (YieldsList-from_slice _ c.iter.ensures.rest) (λ x q k. search (rules, tests)) (λ x q k. search (rules, tests)) in
    found c.args.s.now c.args.from c.requires c.position.result f told
