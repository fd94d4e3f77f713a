-- The order of block keys and of connector keys, as document 01 words it, is the lexicographic order of their wire bytes.
use Prim.Native.Nat.{ℕ, zero, suc, ◌^◌, ◌<◌}
use native.Mathlib.Omega.{arith}
use mathlib.Core.Path.{◌≡◌, refl, sym, ap, ◌∙◌}
use mathlib.Core.List.{List, [], ◌∷◌, ◌++◌, append_assoc, append-nil}
use lib.ListN.{length}
use Rattle.state.specs.Bytes.{number_of, bytes_of}
use Rattle.state.proofs.Bytes.{bytes-length, bytes-number}
use Rattle.std.specs.declared.cmp.Ordering.{Ordering}
use Rattle.std.specs.declared.cmp.Ordering.TheVariants.{Less, Equal, Greater}
use Rattle.order.specs.Lex.{lex_compare, then_with}
use Rattle.order.proofs.Laws.{lex-append, lex-equal-iff}
use Rattle.format.specs.Format.{text, El, encode}
use Rattle.format.specs.Admits.{Holds}
use Rattle.format.specs.Keys.{block_key, connector_key, key_tag, key_strings, owner, direction, port_index}
use Rattle.state_key_order.specs.KeyOrder.{wire_string_cmp, wire_strings_cmp, block_key_cmp, connector_key_cmp}

then-assoc : (o p q : Ordering) → then_with (then_with o p) q ≡ then_with o (then_with p q)
then-assoc Less p q = refl
then-assoc Equal p q = refl
then-assoc Greater p q = refl

then_equal : (o : Ordering) → then_with o Equal ≡ o
then_equal Less = refl
then_equal Equal = refl
then_equal Greater = refl

-- what comes second matters only where the first finds no difference
then-under : {p q : Ordering} (o : Ordering) → (o ≡ Equal → p ≡ q) → then_with o p ≡ then_with o q
then-under Less h = refl
then-under Equal h = h refl
then-under Greater h = refl

-- two strings as written, with more behind them
string-lex : (a b r t : List ℕ) → length a < 256 ^ 4 → length b < 256 ^ 4
    → lex_compare (encode text a ++ r) (encode text b ++ t) ≡ then_with (wire_string_cmp a b) (lex_compare r t)
unfolding encode
string-lex a b r t h k =
    let l = bytes_of 4 (length a) in
    let m = bytes_of 4 (length b) in
    rw (append_assoc l a r, append_assoc m b t)
    (lex-append l m (a ++ r) (b ++ t) (bytes-length 4 (length a) ∙ sym (bytes-length 4 (length b)))
    ∙ then-under (lex_compare l m) (λ e. lex-append a b r t (same_length ((lex-equal-iff l m).0 e)))
    ∙ sym (then-assoc (lex_compare l m) (lex_compare a b) (lex_compare r t)))
  where
    same_length : bytes_of 4 (length a) ≡ bytes_of 4 (length b) → length a ≡ length b
    same_length e = sym (bytes-number 4 (length a) h) ∙ ap number_of e ∙ bytes-number 4 (length b) k

module _ (limit : ℕ) where
  -- two block keys as written, with more behind them
  block-key-lex : (k l : El block_key) (r t : List ℕ) → Holds limit block_key k → Holds limit block_key l
      → lex_compare (encode block_key k ++ r) (encode block_key l ++ t) ≡ then_with (block_key_cmp k l) (lex_compare r t)
  unfolding block_key encode Holds block_key_cmp key_tag key_strings wire_strings_cmp lex_compare
  block-key-lex (zero, a) (zero, b) r t h i = rw (then_equal (wire_string_cmp a b)) (string-lex a b r t h.2.2 i.2.2)
  block-key-lex (zero, a) (suc zero, b) r t h i = refl
  block-key-lex (suc zero, a) (zero, b) r t h i = refl
  block-key-lex (suc zero, a) (suc zero, b) r t h i =
      let o = wire_string_cmp a.0 b.0 in
      let p = wire_string_cmp a.1 b.1 in
      let x = encode text a.1 in
      let y = encode text b.1 in
      rw (append_assoc (encode text a.0) x r, append_assoc (encode text b.0) y t, then_equal p)
      (string-lex a.0 b.0 (x ++ r) (y ++ t) h.2.0.2 i.2.0.2
      ∙ ap (then_with o) (string-lex a.1 b.1 r t h.2.1.2 i.2.1.2)
      ∙ sym (then-assoc o p (lex_compare r t)))
  block-key-lex (suc (suc n), a) l r t h i = absurd (omega arith)
  block-key-lex (zero, a) (suc (suc n), b) r t h i = absurd (omega arith)
  block-key-lex (suc zero, a) (suc (suc n), b) r t h i = absurd (omega arith)

  -- THE ORDER OF BLOCK KEYS is that of their wire bytes
  pub block-key-order : (k l : El block_key) → Holds limit block_key k → Holds limit block_key l → block_key_cmp k l ≡ lex_compare (encode block_key k) (encode block_key l)
  unfolding lex_compare
  block-key-order k l h i =
      sym (rw (append-nil (encode block_key k), append-nil (encode block_key l)) at (block-key-lex k l [] [] h i) ∙ then_equal (block_key_cmp k l))

  -- THE ORDER OF CONNECTOR KEYS is that of their wire bytes
  pub connector-key-order : (k l : El connector_key) → Holds limit connector_key k → Holds limit connector_key l
      → connector_key_cmp k l ≡ lex_compare (encode connector_key k) (encode connector_key l)
  unfolding connector_key encode Holds connector_key_cmp owner direction port_index
  connector-key-order k l h i =
      let m = bytes_of 4 k.1.1 in
      let n = bytes_of 4 l.1.1 in
      sym (block-key-lex k.0 l.0 (k.1.0 ∷ m) (l.1.0 ∷ n) h.0 i.0
      ∙ ap (then_with (block_key_cmp k.0 l.0)) (lex-append (k.1.0 ∷ []) (l.1.0 ∷ []) m n refl))
