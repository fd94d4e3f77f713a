-- What reading and then asking come to: questions 1 to 32.
use Prim.Native.Nat.{ℕ, ◌+◌, ◌≤◌}
use native.Mathlib.Omega.{arith}
use mathlib.Core.Path.{◌≡◌, refl, sym, ap, ◌∙◌, subst}
use mathlib.Core.List.{List, [], ◌∷◌, ◌++◌, map}
use lib.ListN.{length, take, length-append}
use borrow.Author.Tests.{le-leb}
use Rattle.state.specs.Bytes.{AreBytes}
use Rattle.std.specs.Prelude.{Ok, Err}
use Rattle.state.specs.Outcome.{got, refused, heed, said, refusal, Stepped}
use Rattle.state.specs.declared.Question.{Question}
use Rattle.state.specs.declared.Refusal.{Refusal}
use Rattle.state.proofs.Outcome.{heed-no, step-refused, step-yields}
use Rattle.state_wire.specs.Fields.{max_snapshot_bytes}
use Rattle.format.specs.Format.{El}
use Rattle.format.specs.Manifest.{Section, entry, counted, lists, sequence, portability, manifest}
use Rattle.format.specs.Places.{count_at, number_at, starts, section_starts, entry_starts, manifest_starts, manifest_entries, past}
use Rattle.format.specs.Reading.{read_manifest}
use Rattle.format.specs.Values.{value_at, Well}
use Rattle.format.proofs.Places.{end-got, starts-length}
use Rattle.format.proofs.Values.{values_length, spells, well, well-then, well-list}
use Rattle.questions.specs.Sets.{sum}
use Rattle.questions.specs.Portability.{target_bound_classes}
use Rattle.questions.specs.Order.{first_failing}
use Rattle.questions.specs.Answers.{judge}
use Rattle.questions.proofs.Chains.{said-no, said-yes}
use Rattle.questions.proofs.Accepted.{Passed, yields-passed}
use Rattle.questions.proofs.Numbers.{late-failing}
use Rattle.state_layout.specs.Tables.{manifest_of, counts, table_start, room_start, Tabled, Leaves}
use Rattle.state_manifest_codec.specs.Reads.{Reads}
use Rattle.manifest.specs.Judges.{Judges}

abbrev limit : ℕ
limit = max_snapshot_bytes

-- ---- as many words as there are sections and entries
lists-long : (s : List ℕ) (es : List Section) (at : ℕ) → Well limit (sequence (map counted es)) s at
    → length (entry_starts limit es s at) ≡ sum (counts es (value_at (sequence (map counted es)) s at))
unfolding entry_starts counts sum value_at number_at
lists-long s [] at w = refl
lists-long s (e ∷ es) at w =
    let p = well-then limit s (counted e) (sequence (map counted es)) at w in
    let l = well-list limit s e.rule e.key e.rest 4 e.least at p.0 in
    let c : number_at 4 s at ≡ count_at s at = rw (le-leb (at + 4) (length s) l.0) in
    let n : length (value_at (counted e) s at) ≡ number_at 4 s at = values_length (value_at e.key s) (value_at e.rest s) (past e.key s) (past e.rest s) (number_at 4 s at) _ in
    length-append (starts limit (entry e) s (count_at s at) (at + 4)) _
    ∙ rw (starts-length limit (entry e) s (count_at s at) (at + 4), end-got limit (counted e) s at p.0.reads, lists-long s es (past (counted e) s at) p.1, n, c)

module _ (s : List ℕ) (w : Well limit manifest s 0) where
  entries-long : length (manifest_entries limit s) ≡ unfold manifest in sum (counts lists (manifest_of s).1)
  unfolding manifest manifest_entries value_at
  entries-long =
      let p = well-then limit s portability (sequence (map counted lists)) 0 w in
      rw (end-got limit portability s 0 p.0.reads) (lists-long s lists (past portability s 0) p.1)

  words_long : length (manifest_starts limit s ++ manifest_entries limit s) ≡ room_start s
  unfolding manifest manifest_starts section_starts table_start sum counts
  words_long = length-append (manifest_starts limit s) (manifest_entries limit s) ∙ rw entries-long

-- ---- a manifest that was read
module _ {s old new : List ℕ} {n : ℕ} (bytes : AreBytes s) {r : Stepped} (reads : Reads s r old new) (next : r ≡ Ok n) where
  passed : (v : El manifest) × (read_manifest limit s (length old) ≡ got v n) × Passed s (length old) v n
  passed = step-yields (yields-passed s (length old)) reads.is next

  spelled : (past manifest s 0 ≡ length s) × (manifest_of s ≡ passed.0)
  spelled = spells limit s manifest 0 passed.2.reads

  -- what was read is the manifest that the bytes spell
  pub read_is : read_manifest limit s (length old) ≡ got (manifest_of s) n
  read_is = rw spelled.1 passed.1

  -- and the index holds its tables
  pub read-tabled : Tabled s new
  read-tabled =
      let w : Well limit manifest s 0 = well limit s manifest 0 (omega arith) passed.2.reads in
      record {
        bytes = bytes;
        short = passed.2.short;
        well = w;
        whole = spelled.0;
        words = subst (λ (k : ℕ). take k new ≡ manifest_starts limit s ++ manifest_entries limit s) (words_long s w) (reads.starts n next);
        long = rw reads.long passed.2.words;
      }

-- ---- the answer
module _ {s old new : List ℕ} (revision : ℕ) {r : Stepped} (reads : Reads s r old new) where
  -- refused while reading
  pub judge-unread : {d : Refusal ℕ} → r ≡ Err d → Judges s revision r old new
  unfolding judge
  judge-unread {d = d} e =
      let o : read_manifest limit s (length old) ≡ refused d.question.0 d.at = step-refused (read_manifest limit s (length old)) reads.is e in
      record {
        is = e ∙ rw o;
        tabled = λ n i. cc (sym e ∙ i);
        untouched = λ p i. reads.untouched 2 p i (omega arith);
        long = reads.long;
      }

  module _ (bytes : AreBytes s) {n : ℕ} (next : r ≡ Ok n) {last : List ℕ} (leaves : Leaves s new last) where
    judge-is : judge target_bound_classes revision s (length old) ≡ heed (first_failing target_bound_classes revision (manifest_of s)) n (got (manifest_of s) n)
    unfolding judge
    judge-is = rw (read_is bytes reads next)

    -- refused by a question over the whole
    pub judge-no : {d : Question} → Err d ≡ said (first_failing target_bound_classes revision (manifest_of s)) → Judges s revision (Err (record { question = d; at = n })) old last
    judge-no {d = d} asks = record {
      is = rw judge-is (ap (λ (x : ℕ). Err (refusal x n)) (sym no.0) ∙ heed-no (first_failing target_bound_classes revision (manifest_of s)) n _ no.1);
      tabled = λ k i. cc;
      untouched = λ x i. let j : record { question = d; at = n } ≡ refusal 2 x = cc i in let z : d.0 ≡ 2 = ap (λ (y : Refusal ℕ). y.question.0) j in absurd (omega (arith, z, late, no.0));
      long = leaves.long ∙ reads.long;
    }
      where
        no : (first_failing target_bound_classes revision (manifest_of s) ≡ d.0) × (first_failing target_bound_classes revision (manifest_of s) ≡ 0 → ⊥)
        no = said-no (first_failing target_bound_classes revision (manifest_of s)) (sym asks)

        late : 11 ≤ first_failing target_bound_classes revision (manifest_of s)
        late = late-failing target_bound_classes revision (manifest_of s) no.1

    -- accepted
    pub judge-yes : {u : Unit} → Ok u ≡ said (first_failing target_bound_classes revision (manifest_of s)) → Judges s revision (Ok n) old last
    judge-yes asks = record {
      is = rw (judge-is, said-yes (first_failing target_bound_classes revision (manifest_of s)) (sym asks));
      tabled = λ k i. leaves.tabled;
      untouched = λ x i. cc;
      long = leaves.long ∙ reads.long;
    }
