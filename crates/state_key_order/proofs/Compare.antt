-- Comparing the bytes that two keys occupy is comparing the keys, for every format whose values compare as they are written.
use Prim.Native.Nat.{ℕ, ◌≤◌}
use mathlib.Core.Path.{◌≡◌, refl}
use mathlib.Core.List.{List, [], ◌∷◌}
use lib.ListN.{length, get_or}
use Rattle.state.specs.Bytes.{AreBytes}
use Rattle.state.specs.Outcome.{Outcome, step_of}
use Rattle.state.proofs.Outcome.{Yields, this, nothing}
use Rattle.state_wire.specs.Fields.{max_snapshot_bytes}
use Rattle.std.specs.declared.cmp.Ordering.{Ordering}
use Rattle.order.specs.Lex.{lex_compare}
use Rattle.format.specs.Format.{Fmt, done, number, text, ◌then◌, El, read, encode, scan}
use Rattle.format.specs.Admits.{Holds}
use Rattle.format.specs.Keys.{block_key, wire_dir, connector_key}
use Rattle.format.proofs.Sound.{Stands, sound-inside, inside-tagged, inside-then}
use Rattle.state_key_order.specs.KeyOrder.{block_key_cmp, connector_key_cmp}
use Rattle.state_key_order.specs.Compare.{compared_by, block_keys_compared, connector_keys_compared, spans_compared}
use Rattle.state_key_order.proofs.KeyOrder.{block-key-order, connector-key-order}

module _ (limit : ℕ) (f : Fmt) (cmp : El f → El f → Ordering)
    (order : (k l : El f) → Holds limit f k → Holds limit f l → cmp k l ≡ lex_compare (encode f k) (encode f l))
    (s : List ℕ) (a : ℕ) (t : List ℕ) (b : ℕ) where
  as_read : {o p : Outcome (El f)} → Yields (λ v m. Stands s a m (encode f v) (Holds limit f v)) o → Yields (λ v m. Stands t b m (encode f v) (Holds limit f v)) p
      → spans_compared s a (step_of o) t b (step_of p) ≡ compared_by cmp (encode f) o p
  as_read (this {v = k} h) (this {v = l} i) = rw (h.part.is, i.part.is, order k l h.holds i.holds)
  as_read (this h) nothing = refl
  as_read nothing (this i) = refl
  as_read nothing nothing = refl

module _ (limit : ℕ) (s : List ℕ) (at : ℕ) where
  block-key-inside : Yields (λ v m. at ≤ length s) (read limit block_key s at)
  unfolding block_key
  block-key-inside = inside-tagged limit s at 2 (λ t. get_or (text ∷ (text then text) ∷ []) t done)

  connector-key-inside : Yields (λ v m. at ≤ length s) (read limit connector_key s at)
  unfolding connector_key
  connector-key-inside = inside-then limit s at block_key (wire_dir then number 4) block-key-inside

module _ (s : List ℕ) (a : ℕ) (t : List ℕ) (b : ℕ) (bs : AreBytes s) (bt : AreBytes t) where
  pub block-keys : spans_compared s a (scan max_snapshot_bytes block_key s a) t b (scan max_snapshot_bytes block_key t b) ≡ block_keys_compared s a t b
  unfolding scan block_keys_compared
  block-keys =
      as_read max_snapshot_bytes block_key block_key_cmp (block-key-order max_snapshot_bytes) s a t b
      (sound-inside max_snapshot_bytes s bs block_key a (block-key-inside max_snapshot_bytes s a))
      (sound-inside max_snapshot_bytes t bt block_key b (block-key-inside max_snapshot_bytes t b))

  pub connector-keys : spans_compared s a (scan max_snapshot_bytes connector_key s a) t b (scan max_snapshot_bytes connector_key t b) ≡ connector_keys_compared s a t b
  unfolding scan connector_keys_compared
  connector-keys =
      as_read max_snapshot_bytes connector_key connector_key_cmp (connector-key-order max_snapshot_bytes) s a t b
      (sound-inside max_snapshot_bytes s bs connector_key a (connector-key-inside max_snapshot_bytes s a))
      (sound-inside max_snapshot_bytes t bt connector_key b (connector-key-inside max_snapshot_bytes t b))
