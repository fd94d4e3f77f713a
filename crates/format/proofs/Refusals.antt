-- Which questions reading asks: none before 3.
use Prim.Native.Nat.{ℕ, zero, suc, ◌+◌, ◌*◌, ◌-◌, ◌≤◌}
use native.Mathlib.Omega.{arith}
use mathlib.Core.Bool.{Bool, true, false}
use mathlib.Core.List.{List, []}
use lib.ListN.{length}
use lib.Dec.{ltb, leb, eqb}
use Rattle.state.specs.Bytes.{span}
use Rattle.state.specs.Outcome.{Outcome, got, refused, bind, ask}
use Rattle.utf8.specs.Valid.{valid_up_to}
use Rattle.state_wire.specs.Fields.{read_span, read_number, read_tag, bounded_count, read_count, read_text}
use Rattle.format.specs.Format.{Rule, Fmt, done, number, tag, text, tagged, ◌then◌, list, entries, read, from, kept, after_key, after_entry, after_all}

-- a value, or the refusal of question 3 or a later one
pub data Late {A : Type 0} : Outcome A → Type 0 where
  read-so : {v : A} {n : ℕ} → Late (got v n)
  refused-so : {q p : ℕ} → 3 ≤ q → Late (refused q p)

pub late-question : {A : Type 0} {q p : ℕ} → Late {A = A} (refused q p) → 3 ≤ q
late-question (refused-so h) = h

-- after a question, and after another reading
pub late-ask : {A : Type 0} (b : Bool) (q p : ℕ) {o : Outcome A} → 3 ≤ q → Late o → Late (ask b q p o)
late-ask true q p h l = l
late-ask false q p h l = refused-so h

pub late-bind : {A B : Type 0} {o : Outcome A} {k : A → ℕ → Outcome B} → Late o → ((a : A) (m : ℕ) → Late (k a m)) → Late (bind o k)
late-bind (read-so {v = a} {n = m}) h = h a m
late-bind (refused-so l) h = refused-so l

module _ (s : List ℕ) where
  late-span : (n at : ℕ) → Late (read_span n s at)
  unfolding read_span
  late-span n at = late-ask (leb (at + n) (length s)) 3 at (omega arith) read-so

  late-number : (w at : ℕ) → Late (read_number w s at)
  unfolding read_number
  late-number w at = late-bind (late-span w at) λ bs m. read-so

  late-tag : (k at : ℕ) → Late (read_tag k s at)
  unfolding read_tag
  late-tag k at = late-bind (late-number 1 at) λ t m. late-ask (ltb t k) 6 m (omega arith) read-so

  late-count : (w l at : ℕ) → Late (read_count w l s at)
  unfolding read_count bounded_count
  late-count w l at = late-bind (late-number w at) λ n m. late-ask (leb (n * l) (length s - m)) 7 m (omega arith) read-so

  late-text : (limit at : ℕ) → Late (read_text limit s at)
  unfolding read_text
  late-text limit at =
      late-bind (late-number 4 at) λ n m.
      late-ask (leb n limit) 4 at (omega arith) (
      late-bind (late-span n m) λ bs e.
      late-ask (eqb (valid_up_to bs) n) 5 (m + valid_up_to bs) (omega arith) read-so)

  module _ {K R : Type 0} (u : Rule) (key : List ℕ → ℕ → Outcome K) (rest : List ℕ → ℕ → Outcome R) (lk : (at : ℕ) → Late (key s at)) (lr : (at : ℕ) → Late (rest s at)) where
    late-entries : (n at : ℕ) (ks : List (List ℕ)) → Late (entries u key rest s n at ks)
    late-entries zero at ks = late-ask (after_all u ks) 8 at (omega arith) read-so
    late-entries (suc n) at ks =
        late-bind (lk at) λ k m.
        late-ask (after_key u (span s (from u at) m) ks) 9 m (omega arith) (
        late-bind (lr m) λ r e.
        late-ask (after_entry u (span s (from u at) m) ks) 9 e (omega arith) (
        late-bind (late-entries n e (kept u (span s (from u at) m) ks)) λ vs z. read-so))

  pub late-read : (limit : ℕ) (f : Fmt) (at : ℕ) → Late (read limit f s at)
  unfolding read
  late-read limit done at = read-so
  late-read limit (number w) at = late-number w at
  late-read limit (tag k) at = late-tag k at
  late-read limit text at = late-text limit at
  late-read limit (tagged k f) at = late-bind (late-tag k at) λ t m. late-bind (late-read limit (f t) m) λ v n. read-so
  late-read limit (a then b) at = late-bind (late-read limit a at) λ v m. late-bind (late-read limit b m) λ w n. read-so
  late-read limit (list w l u k r) at =
      late-bind (late-count w l at) λ n m. late-entries u (read limit k) (read limit r) (late-read limit k) (late-read limit r) n m []
