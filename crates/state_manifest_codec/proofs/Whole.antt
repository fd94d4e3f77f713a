-- What `read_manifest` answers, from what its tests and the reader of the sections answered.
use Prim.Native.Nat.{ℕ, ◌≤◌, ◌<◌}
use native.Mathlib.Omega.{arith}
use native.Mathlib.Nat.{zero-add}
use mathlib.Core.Path.{◌≡◌, refl, sym, ap, ◌∙◌, subst}
use mathlib.Core.List.{List, ◌++◌}
use lib.ListN.{length, take, drop, length-append, length-take, length-drop}
use lib.Seq.{drop_at, take-append-le, length-take-le}
use borrow.Author.Tests.{le-leb, lt-leb, eq-eqb, ne_eqb}
use Rattle.state.specs.declared.Refusal.{Refusal}
use Rattle.std.specs.Prelude.{Ok, Err}
use Rattle.state.specs.Outcome.{step_of, Stepped, refusal, refuses}
use Rattle.state.proofs.Outcome.{step-refused, step-yields, always}
use Rattle.state_wire.specs.Fields.{max_snapshot_bytes}
use Rattle.format.specs.Format.{read, scan}
use Rattle.format.specs.Manifest.{manifest}
use Rattle.format.specs.Places.{manifest_starts, manifest_entries}
use Rattle.format.specs.Reading.{index_words, read_sections, read_manifest}
use Rattle.format.proofs.Refusals.{Late, late-read, late-question}
use Rattle.state_manifest_codec.specs.Filled.{Fills}
use Rattle.state_manifest_codec.specs.Reads.{Reads}

module _ (s old : List ℕ) where
  unread : {q : ℕ} → refuses q 0 ≡ step_of (read_manifest max_snapshot_bytes s (length old)) → Reads s (refuses q 0) old old
  unread e = record { is = e; starts = λ n i. let z : ◌≡◌ {A = ℕ} 0 1 = cc in absurd (omega arith); beyond = refl; untouched = λ q p i h. refl; long = refl }

  pub too_long : max_snapshot_bytes < length s → Reads s (refuses 1 0) old old
  unfolding read_manifest
  too_long h = unread (rw (lt-leb (length s) max_snapshot_bytes h))

  module _ (sized : length s ≤ max_snapshot_bytes) where
    pub too_few : length old < index_words (length s) → Reads s (refuses 2 0) old old
    unfolding read_manifest
    too_few h = unread (rw (le-leb (length s) max_snapshot_bytes sized, lt-leb (index_words (length s)) (length old) h))

    module _ (fits : index_words (length s) ≤ length old) where
      pub words-lent : length (take (index_words (length s)) old) ≡ index_words (length s)
      words-lent = length-take-le (index_words (length s)) old fits

      asks : step_of (read_manifest max_snapshot_bytes s (length old)) ≡ step_of (read_sections max_snapshot_bytes s)
      unfolding read_manifest
      asks = rw (le-leb (length s) max_snapshot_bytes sized, le-leb (index_words (length s)) (length old) fits)

      -- the words lent came back as `part`
      module _ {r : Stepped} {part : List ℕ} (f : Fills r (scan max_snapshot_bytes manifest s 0) (manifest_starts max_snapshot_bytes s ++ manifest_entries max_snapshot_bytes s) 0 (take (index_words (length s)) old) part) where
        part-long : length part ≡ index_words (length s)
        part-long = f.long ∙ words-lent

        beyond : drop (index_words (length s)) (part ++ drop (index_words (length s)) old) ≡ drop (index_words (length s)) old
        beyond = drop_at part _ (index_words (length s)) part-long

        pub whole_long : length (part ++ drop (index_words (length s)) old) ≡ length old
        whole_long = length-append part _ ∙ omega (arith, part-long, length-drop (index_words (length s)) old)

        late_refused : {q p : ℕ} → 3 ≤ q → refuses q p ≡ step_of (read_sections max_snapshot_bytes s) → Reads s (refuses q p) old (part ++ drop (index_words (length s)) old)
        late_refused {q} {p} h e = record {
          is = e ∙ sym asks;
          starts = λ n i. let z : ◌≡◌ {A = ℕ} 0 1 = cc in absurd (omega arith);
          beyond = beyond;
          untouched = λ q' p' i k. let j : refusal q p ≡ refusal q' p' = cc i in let z : q ≡ q' = ap (λ (x : Refusal ℕ). x.question.0) j in absurd (omega arith);
          long = whole_long;
        }

        pub sections-stop : {d : Refusal ℕ} → r ≡ Err d → Reads s r old (part ++ drop (index_words (length s)) old)
        unfolding read_sections scan
        sections-stop {d} h =
            let e = step-refused (read max_snapshot_bytes manifest s 0) f.is h in
            subst (λ (x : Stepped). Reads s x old (part ++ drop (index_words (length s)) old)) (sym h) (late_refused (late-question (subst Late e (late-read s max_snapshot_bytes manifest 0))) (rw e))

        module _ {e : ℕ} (h : r ≡ Ok e) where
          pub left_over : (e ≡ length s → ⊥) → Reads s (refuses 10 e) old (part ++ drop (index_words (length s)) old)
          unfolding read_sections scan
          left_over n =
              let y = step-yields (always (read max_snapshot_bytes manifest s 0)) f.is h in
              late_refused (omega arith) (rw (y.1, ne_eqb e (length s) n))

          pub all_read : e ≡ length s → Reads s (Ok e) old (part ++ drop (index_words (length s)) old)
          unfolding read_sections scan
          all_read q = record {
            is = (let y = step-yields (always (read max_snapshot_bytes manifest s 0)) f.is h in rw (asks, y.1, eq-eqb e (length s) q));
            starts = λ n i. take-append-le _ part _ short ∙ words;
            beyond = beyond;
            untouched = λ q p i k. let z : ◌≡◌ {A = ℕ} 0 1 = cc in absurd (omega arith);
            long = whole_long;
          }
            where
              words : take (length (manifest_starts max_snapshot_bytes s ++ manifest_entries max_snapshot_bytes s)) part ≡ manifest_starts max_snapshot_bytes s ++ manifest_entries max_snapshot_bytes s
              words = ap (λ (k : ℕ). take k part) (sym (zero-add (length (manifest_starts max_snapshot_bytes s ++ manifest_entries max_snapshot_bytes s)))) ∙ f.front e h

              short : length (manifest_starts max_snapshot_bytes s ++ manifest_entries max_snapshot_bytes s) ≤ length part
              short = omega (arith, ap length words, length-take (length (manifest_starts max_snapshot_bytes s ++ manifest_entries max_snapshot_bytes s)) part)
