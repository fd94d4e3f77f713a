-- What the reading of a tail tells: a refusal is not one of question 1 or 2; of an accepted tail the three parts were read, questions 33 to 38 said
-- yes, and nothing was left over. And what the acceptance of a snapshot tells.
use Prim.Native.Nat.{ℕ, zero, suc, ◌+◌, ◌≤◌}
use native.Mathlib.Omega.{arith}
use mathlib.Core.Path.{◌≡◌, refl, ap, subst, ◌∙◌}
use mathlib.Core.List.{List}
use lib.ListN.{length}
use lib.Dec.{leb, eqb}
use borrow.Author.Tests.{eqb-true}
use Rattle.state.specs.Outcome.{Outcome, got, refused, heed}
use Rattle.std.specs.Prelude.{IsOk}
use Rattle.state.proofs.Outcome.{Yields, this, nothing, yielded, yields-so, yields-ask, yields-heed, yields-bind}
use Rattle.state_wire.specs.Fields.{max_snapshot_bytes}
use Rattle.format.specs.Format.{El, read}
use Rattle.format.specs.Manifest.{counted, enums, connectors, manifest}
use Rattle.format.specs.Fields.{Entry, enums_of, connectors_of, slots_of}
use Rattle.format.proofs.Refusals.{Late, read-so, refused-so, late-question, late-ask, late-bind, late-read}
use Rattle.format.proofs.Values.{self}
use Rattle.questions.specs.Answers.{judge}
use Rattle.questions.specs.Units.{word_total}
use Rattle.questions.proofs.Numbers.{Of, unless-of, first_of, all_of, of-inside}
use Rattle.questions.proofs.Accepted.{judge-tells, decoded-got}
use Rattle.tail.specs.Tail.{values, words, flags, value_answer, values_answer, read_words, read_flags, read_tail}
use Rattle.tail.specs.Answers.{behind, judge_tail, decode_tail}

-- ---- which questions a tail is asked: none before 3
-- 34 to 36 of a value; 33, and those of each value
value_of : (es : List (Entry enums)) (cs : List (Entry connectors)) (v : Entry values) → Of (33, 36) (value_answer es cs v)
unfolding value_answer
value_of es cs v = first_of _ _ (unless-of _ 34 _ refl, (unless-of _ 35 _ refl, (unless-of _ 36 _ refl, tt)))

values_of : (es : List (Entry enums)) (cs : List (Entry connectors)) (vs : List (Entry values)) → Of (33, 36) (values_answer es cs vs)
unfolding values_answer
values_of es cs vs = first_of _ _ (unless-of _ 33 _ refl, (first_of _ _ (all_of _ _ (value_of es cs) vs), tt))

-- after an answer
late-heed : {A : Type 0} (q p : ℕ) {o : Outcome A} → Of (33, 36) q → Late o → Late (heed q p o)
late-heed zero p h l = l
late-heed (suc q) p h l = let i : 3 ≤ suc q = omega (arith, (of-inside h (λ e. absurd (omega arith))).0) in refused-so i

-- so it is of a tail
late-tail : (m : El manifest) (t : List ℕ) → Late (read_tail m t)
unfolding read_tail read_words read_flags words flags
late-tail m t =
    late-bind (late-read t max_snapshot_bytes (counted values) 0) λ vs p.
    late-heed (values_answer (enums_of m) (connectors_of m) vs) p (values_of (enums_of m) (connectors_of m) vs) (
    late-bind (words-late p) λ ws q.
    late-bind (flags-late q) λ f n. read-so)
  where
    words-late : (at : ℕ) → Late (read_words (word_total (slots_of m)) t at)
    words-late at =
        late-bind (late-read t max_snapshot_bytes words at) λ ws n. late-ask _ 37 _ (omega arith) read-so

    flags-late : (at : ℕ) → Late (read_flags t at)
    flags-late at =
        late-bind (late-read t max_snapshot_bytes flags at) λ f n.
        late-ask _ 38 _ (omega arith) (
        late-ask _ 10 _ (omega arith) read-so)

-- a tail is never refused with 1 or 2
pub tail-late : (m : El manifest) (t : List ℕ) {q p : ℕ} → read_tail m t ≡ refused q p → 3 ≤ q
tail-late m t e = late-question (subst Late e (late-tail m t))

-- ---- what an accepted tail is
-- how many words there are
unfoldable pub word_count : El words → ℕ
unfolding words
word_count ws = length ws

-- flags that are zero
unfoldable pub no_flags : El flags
unfolding flags
no_flags = 0

-- the values, the words and the flags were read one after the other, and every question said yes
pub record TailRead (m : El manifest) (t : List ℕ) (n : ℕ) : Type 0 where
  pub vs : List (Entry values)
  pub p : ℕ
  pub ws : El words
  pub q : ℕ
  pub values-read : read max_snapshot_bytes (counted values) t 0 ≡ got vs p
  pub none : values_answer (enums_of m) (connectors_of m) vs ≡ 0
  pub words-read : read max_snapshot_bytes words t p ≡ got ws q
  pub total : word_count ws ≡ word_total (slots_of m)
  pub flags-read : read max_snapshot_bytes flags t q ≡ got no_flags n
  pub whole : n ≡ length t

-- words that were read are as many as the total
yields-words : (total : ℕ) (t : List ℕ) (at : ℕ) → Yields (λ ws n. (read max_snapshot_bytes words t at ≡ got ws n) × (word_count ws ≡ total)) (read_words total t at)
unfolding read_words words word_count
yields-words total t at =
    yields-bind (self (read max_snapshot_bytes words t at)) λ ws n e.
    yields-ask (eqb (length ws) total) _ _ λ a.
    this (e, eqb-true _ _ a)

-- flags that were read are zero, and end the tail
yields-flags : (t : List ℕ) (at : ℕ) → Yields (λ f n. (read max_snapshot_bytes flags t at ≡ got no_flags n) × (n ≡ length t)) (read_flags t at)
unfolding read_flags flags no_flags
yields-flags t at =
    yields-bind (self (read max_snapshot_bytes flags t at)) λ f n e.
    yields-ask (eqb f 0) _ _ λ a.
    yields-ask (eqb n (length t)) _ _ λ b.
    this (e ∙ ap (λ (x : ℕ). got x n) (eqb-true _ _ a), eqb-true _ _ b)

-- the whole of a tail
yields-tail : (m : El manifest) (t : List ℕ) → Yields (λ m' n. (m' ≡ m) × TailRead m t n) (read_tail m t)
unfolding read_tail
yields-tail m t =
    yields-bind (self (read max_snapshot_bytes (counted values) t 0)) λ vs p a.
    yields-heed (values_answer (enums_of m) (connectors_of m) vs) p λ b.
    yields-bind (yields-words (word_total (slots_of m)) t p) λ ws q c.
    yields-bind (yields-flags t q) λ f n e.
    this (
      refl,
      record {
        vs = vs;
        p = p;
        ws = ws;
        q = q;
        values-read = a;
        none = b;
        words-read = c.0;
        total = c.1;
        flags-read = e.0;
        whole = e.1;
      },
    )

-- an accepted tail is read so, to its end, and leaves the manifest as it was
pub tail-tells : (m : El manifest) (t : List ℕ) {m' : El manifest} {n : ℕ} → read_tail m t ≡ got m' n → (m' ≡ m) × TailRead m t n
tail-tells m t e = yielded (subst (Yields (λ m' n. (m' ≡ m) × TailRead m t n)) e (yields-tail m t))

-- ---- what an accepted snapshot is
-- positions that count on
yields-behind : {P : El manifest → ℕ → Type 0} (n : ℕ) {o : Outcome (El manifest)} → Yields (λ m p. P m (n + p)) o → Yields P (behind n o)
yields-behind n (this h) = this h
yields-behind n nothing = nothing

-- the manifest was accepted, and its tail read to its end; the two together end where both do
pub snapshot-tells : (bound : List (List ℕ)) (revision : ℕ) (s t : List ℕ) (w : ℕ) {m : El manifest} {n : ℕ}
    → judge_tail bound revision s t w ≡ got m n
    → (judge bound revision s w ≡ got m (length s)) × TailRead m t (length t) × (n ≡ length s + length t)
unfolding judge_tail
snapshot-tells bound revision s t w e = yielded (subst (Yields Told) e
    (yields-ask (leb (length s + length t) max_snapshot_bytes) _ _ λ _.
    yields-bind (self (judge bound revision s w)) λ m k j.
    let i : k ≡ length s = (judge-tells bound revision s w j).passed.whole in
    yields-behind k (yields-so (yields-tail m t) λ m' p h. (rw (h.0, ← i) j, rw (← h.1.whole, h.0) h.1, rw (i, h.1.whole)))))
  where
    Told : El manifest → ℕ → Type 0
    Told m n = (judge bound revision s w ≡ got m (length s)) × TailRead m t (length t) × (n ≡ length s + length t)

-- where `decode_tail` accepts, there is a manifest
pub snapshot-got : (bound : List (List ℕ)) (revision : ℕ) (s t : List ℕ) (base : ℕ) (index : List ℕ)
    → IsOk (decode_tail bound s t base revision index)
    → (m : El manifest) × (n : ℕ) × (judge_tail bound revision s t (length index) ≡ got m n)
unfolding decode_tail
snapshot-got bound revision s t base index e = decoded-got base s (judge_tail bound revision s t (length index)) e
