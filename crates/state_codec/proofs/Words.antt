-- The words of a tail, and the flags behind them.
use Prim.Native.Nat.{ℕ, zero, suc, ◌+◌, ◌*◌, ◌≤◌}
use native.Mathlib.Omega.{arith}
use mathlib.Core.Path.{◌≡◌, refl, sym, ap, ◌∙◌}
use mathlib.Core.List.{List, []}
use lib.ListN.{length}
use lib.Dec.{eqb}
use borrow.Author.Tests.{le-leb}
use Rattle.std.specs.Prelude.{Ok, Err}
use Rattle.state.specs.Outcome.{got, step_of, field_of, NumberRead}
use Rattle.state.proofs.Outcome.{value-got, value-refused, step-yields, Yields, this, always, yields-bind, asked, step-ask}
use Rattle.state_sections.proofs.Reading.{chosen, step-chosen, count_is}
use Rattle.state_wire.specs.Fields.{read_span, read_number, read_count}
use Rattle.format.specs.Format.{El, free, done, number, entries, read, scan, scan_entries}
use Rattle.format.proofs.Entries.{scan-entries, forgets, counted-fits}
use Rattle.state_layout.proofs.Tables.{limit}
use Rattle.tail.specs.Tail.{words, flags, read_words, read_flags}

-- words whose bytes are there are passed over
words-passed : (t : List ℕ) (n at : ℕ) → at + 8 * n ≤ length t → scan_entries limit free (number 8) done t n at [] ≡ Ok (at + 8 * n)
unfolding scan_entries scan read read_number read_span
words-passed t zero at h = let z : at ≡ at + 0 = omega arith in ap Ok z
words-passed t (suc n) at h =
    let i : at + 8 ≤ length t = omega arith in
    let z : at + 8 + 8 * n ≡ at + 8 * suc n = omega arith in
    scan-entries limit free (number 8) done t n at []
    ∙ rw (le-leb (at + 8) (length t) i) (forgets limit (number 8) done t n (at + 8) _ ∙ words-passed t n (at + 8) (omega arith) ∙ ap Ok z)

-- entries that were read are as many as were counted
yields-entries : (t : List ℕ) (n at : ℕ) (ks : List (List ℕ)) → Yields (λ vs _. length vs ≡ n) (entries free (read limit (number 8)) (read limit done) t n at ks)
yields-entries t zero at ks = this refl
yields-entries t (suc n) at ks =
    yields-bind (always (read limit (number 8) t at)) λ k m _.
    yields-bind (always (read limit done t m)) λ r e _.
    yields-bind (yields-entries t n e _) λ vs z h.
    this (ap suc h)

module _ (t : List ℕ) (at : ℕ) where
  module _ {g : NumberRead} (e : g ≡ field_of (read_count 8 8 t at)) {n m : ℕ} (h : g ≡ Ok (n, m)) where
    -- the words counted are there
    pub words-fit : m + 8 * n ≤ length t
    words-fit = let f = counted-fits t at 8 8 e h in omega (arith, f.2, f.3)

    -- and were read
    words-read : (ws : El words) × (read limit words t at ≡ got ws (m + 8 * n)) × (unfold words in length ws ≡ n)
    unfolding words read scan_entries
    words-read =
        let y = step-yields (yields-entries t n m []) (sym (words-passed t n m words-fit)) refl in
        (y.0, rw (value-got (read_count 8 8 t at) e h) y.1, y.2)

  -- what code answers that passes them over: 3 and 7 of the count, and 37
  pub words_is : (total : ℕ) → step_of (read_words total t at) ≡ chosen (field_of (read_count 8 8 t at)) (λ n m. asked (eqb n total) 37 at (Ok (m + 8 * n)))
  unfolding read_words words read
  words_is total = go (field_of (read_count 8 8 t at)) refl
    where
      go : (g : NumberRead) → field_of (read_count 8 8 t at) ≡ g → step_of (read_words total t at) ≡ chosen g (λ n m. asked (eqb n total) 37 at (Ok (m + 8 * n)))
      go (Ok f) h = let w = words-read refl h in rw (w.1, w.2) (step-ask (eqb f.0 total) 37 at _)
      go (Err d) h = rw (value-refused (read_count 8 8 t at) refl h)

  -- the flags: 3 of their bytes, 38, and 10 behind them
  pub flags_is : step_of (read_flags t at) ≡ chosen (field_of (read_number 4 t at)) (λ f n. asked (eqb f 0) 38 at (asked (eqb n (length t)) 10 n (Ok n)))
  unfolding read_flags flags read
  flags_is = step-chosen (read_number 4 t at) _ _ (λ f n. step-ask (eqb f 0) 38 at _ ∙ ap (asked (eqb f 0) 38 at) (step-ask (eqb n (length t)) 10 n _))

pub ruleset worded = (count_is, words_is)
