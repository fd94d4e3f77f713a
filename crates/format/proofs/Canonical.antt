-- A manifest is accepted exactly if its bytes are an admitted value as it is written: a second encoding of a value cannot be accepted.
use Prim.Native.Nat.{ℕ}
use native.Mathlib.Omega.{arith}
use native.Mathlib.Nat.{sub-zero}
use mathlib.Core.Path.{◌≡◌, refl, sym, ap, ◌∙◌, subst}
use mathlib.Core.Bool.{true}
use mathlib.Core.List.{List}
use lib.ListN.{length}
use lib.Seq.{take-length}
use lib.Dec.{eqb}
use borrow.Author.Tests.{eqb-true, eq-eqb}
use Rattle.state.specs.Bytes.{AreBytes, span}
use Rattle.state.specs.Outcome.{got}
use Rattle.state.proofs.Bytes.{Part, part-here}
use Rattle.state.proofs.Outcome.{Yields, this, yielded, yields-ask, yields-bind}
use Rattle.format.specs.Format.{Fmt, El, read, encode}
use Rattle.format.specs.Admits.{Holds}
use Rattle.format.specs.Least.{least, honest}
use Rattle.format.specs.Keys.{block_key, connector_key}
use Rattle.format.specs.Manifest.{value_type, value, members, params, connector_keys, block_head, block_rest, connector_rest, slot_rest, input_rest, portability, manifest}
use Rattle.format.specs.Reading.{read_sections}
use Rattle.format.proofs.Sound.{sound}
use Rattle.format.proofs.Complete.{complete}

span-whole : (s : List ℕ) → span s 0 (length s) ≡ s
span-whole s = rw (sub-zero (length s), take-length s)

-- of any honest format: bytes that are a value as it is written are read as that value, to their end
pub whole-complete : (limit : ℕ) (f : Fmt) → honest f ≡ true → (s : List ℕ) (v : El f) → encode f v ≡ s → Holds limit f v → read limit f s 0 ≡ got v (length s)
whole-complete limit f t s v e h = complete limit s f t 0 (length s) v (subst (Part s 0 (length s)) (span-whole s ∙ sym e) (part-here s 0 (length s) (omega arith) (omega arith))) h

-- no list of the manifest is tested for more bytes than its entries can have
pub manifest-honest : honest manifest ≡ true
unfolding honest least block_key connector_key value_type value members params connector_keys block_head block_rest connector_rest slot_rest input_rest portability manifest
manifest-honest = refl

module _ (limit : ℕ) (s : List ℕ) where
  yields-canonical : AreBytes s → Yields (λ v n. (n ≡ length s) × (encode manifest v ≡ s) × Holds limit manifest v) (read_sections limit s)
  unfolding read_sections
  yields-canonical b = yields-bind (sound limit s b manifest 0 (omega arith)) λ v n p. yields-ask (eqb n (length s)) _ _ λ e.
      let i : n ≡ length s = eqb-true _ _ e in
      this (i, sym p.part.is ∙ ap (span s 0) i ∙ span-whole s, p.holds)

  -- what was read as a manifest's sections is all of the bytes, its value as it is written, and a value that is admitted
  pub canonical : AreBytes s → {v : El manifest} {n : ℕ} → read_sections limit s ≡ got v n → (n ≡ length s) × (encode manifest v ≡ s) × Holds limit manifest v
  canonical b e = yielded (subst (Yields _) e (yields-canonical b))

  -- and every admitted value is read so from what it is written as
  pub manifest-complete : (v : El manifest) → encode manifest v ≡ s → Holds limit manifest v → read_sections limit s ≡ got v (length s)
  unfolding read_sections
  manifest-complete v e h = rw (whole-complete limit manifest manifest-honest s v e h, eq-eqb (length s) (length s) refl)
