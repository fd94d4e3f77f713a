-- What comparing two keys in lent bytes answers: the left one is read, then the right one, and then they are compared.
use Rattle.std.specs.Prelude.{ℕ, List, Result, Ok, Err}
use Rattle.state.specs.Bytes.{span}
use Rattle.state.specs.Outcome.{Outcome, got, refused, Stepped, refusal}
use Rattle.state_wire.specs.Fields.{max_snapshot_bytes}
use Rattle.std.specs.declared.cmp.Ordering.{Ordering}
use Rattle.order.specs.Lex.{agreeing, compared}
use Rattle.format.specs.Format.{read, encode}
use Rattle.format.specs.Keys.{block_key, connector_key}
use Rattle.order.specs.declared.Compared.{Compared}
use Rattle.state_key_order.specs.declared.KeyRefusal.{KeyRefusal}
use Rattle.state_key_order.specs.declared.KeyRefusal.TheVariants.{Left, Right}
use Rattle.state_key_order.specs.KeyOrder.{block_key_cmp, connector_key_cmp}

-- the order of two keys that were read, with the number of their bytes, in the order compared, that agree before the first difference; or the
-- first refusal, question and position
module _ {K : Type 0} (cmp : K → K → Ordering) (bytes : K → List ℕ) where
  abbrev pub compared_by : Outcome K → Outcome K → Result Compared KeyRefusal
  compared_by (got k m) (got l n) = Ok (record { order = cmp k l; agree = agreeing (bytes k) (bytes l) })
  compared_by (got k m) (refused q p) = Err (Right (refusal q p))
  compared_by (refused q p) r = Err (Left (refusal q p))

unfoldable pub block_keys_compared : (left : List ℕ) (at : ℕ) (right : List ℕ) (from : ℕ) → Result Compared KeyRefusal
block_keys_compared s a t b = compared_by block_key_cmp (encode block_key) (read max_snapshot_bytes block_key s a) (read max_snapshot_bytes block_key t b)

unfoldable pub connector_keys_compared : (left : List ℕ) (at : ℕ) (right : List ℕ) (from : ℕ) → Result Compared KeyRefusal
connector_keys_compared s a t b =
    compared_by connector_key_cmp (encode connector_key) (read max_snapshot_bytes connector_key s a) (read max_snapshot_bytes connector_key t b)

-- the same of bytes that were walked over, from where to where
abbrev pub spans_compared : (left : List ℕ) (at : ℕ) → Stepped → (right : List ℕ) (from : ℕ) → Stepped → Result Compared KeyRefusal
spans_compared s a (Ok e) t b (Ok f) = Ok (compared (span s a e) (span t b f))
spans_compared s a (Ok e) t b (Err d) = Err (Right d)
spans_compared s a (Err d) t b r = Err (Left d)
