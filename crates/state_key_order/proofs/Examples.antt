-- Document 01, state_key_order.rs: its examples, of any keys that differ so; and a table of readings, with one theorem over all rows.
use Prim.Native.Nat.{ℕ}
use mathlib.Core.Path.{◌≡◌, refl}
use mathlib.Core.List.{List, [], ◌∷◌, map}
use lib.ListN.{length}
use Rattle.std.specs.Prelude.{Ok}
use Rattle.state.specs.Outcome.{Stepped, refuses}
use Rattle.state.specs.Bytes.{number_of, bytes_of}
use Rattle.utf8.specs.Valid.{valid_up_to}
use Rattle.state_wire.specs.Fields.{read_span, read_number, read_tag, read_text, max_snapshot_bytes}
use Rattle.std.specs.declared.cmp.Ordering.TheVariants.{Less, Equal}
use Rattle.order.specs.Lex.{lex_compare}
use Rattle.order.proofs.Laws.{lex-refl}
use Rattle.format.specs.Format.{Fmt, El, read, scan}
use Rattle.format.specs.Keys.{block_key, connector_key, key_tag, key_strings, owner, direction, port_index}
use Rattle.state_key_order.specs.KeyOrder.{wire_strings_cmp, block_key_cmp, connector_key_cmp}

-- "length 256 (00 01 00 00) comes before length 1"
length-256-before-1 : (k l : El block_key) (a b : List ℕ) → key_tag k ≡ key_tag l → key_strings k ≡ a ∷ [] → key_strings l ≡ b ∷ [] → length a ≡ 256 → length b ≡ 1
    → block_key_cmp k l ≡ Less
unfolding block_key_cmp wire_strings_cmp bytes_of lex_compare
length-256-before-1 k l a b t p q h i = rw (t, lex-refl (key_tag l ∷ []), p, q, h, i)

-- the same strings compare equal
strings-refl : (xs : List (List ℕ)) → wire_strings_cmp xs xs ≡ Equal
unfolding wire_strings_cmp
strings-refl [] = refl
strings-refl (x ∷ xs) = rw (lex-refl (bytes_of 4 (length x)), lex-refl x) (strings-refl xs)

-- "port 256 comes before port 1"
port-256-before-1 : (k l : El connector_key) → owner k ≡ owner l → direction k ≡ direction l → port_index k ≡ 256 → port_index l ≡ 1 → connector_key_cmp k l ≡ Less
unfolding connector_key_cmp block_key_cmp bytes_of lex_compare
port-256-before-1 k l o d p q = rw (o, lex-refl (key_tag (owner l) ∷ []), strings-refl (key_strings (owner l)), d, lex-refl (direction l ∷ []), p, q)

-- keys at the start of bytes, and what reading them comes to
abbrev keys : List (Fmt × List ℕ × Stepped)
keys =
    (block_key, [], refuses 3 0)
    ∷ (block_key, 2 ∷ [], refuses 6 1)
    ∷ (block_key, 0 ∷ 1 ∷ 0 ∷ 0 ∷ [], refuses 3 1)
    ∷ (block_key, 0 ∷ 1 ∷ 0 ∷ 0 ∷ 4 ∷ 97 ∷ [], refuses 4 1)  -- length 67,108,865
    ∷ (block_key, 0 ∷ 0 ∷ 0 ∷ 0 ∷ 4 ∷ 97 ∷ [], refuses 3 5)  -- and 67,108,864
    ∷ (block_key, 0 ∷ 2 ∷ 0 ∷ 0 ∷ 0 ∷ 97 ∷ 128 ∷ [], refuses 5 6)
    ∷ (block_key, 0 ∷ 2 ∷ 0 ∷ 0 ∷ 0 ∷ 195 ∷ 164 ∷ 98 ∷ [], Ok 7)
    ∷ (block_key, 1 ∷ 0 ∷ 0 ∷ 0 ∷ 0 ∷ 1 ∷ 0 ∷ 0 ∷ 0 ∷ 98 ∷ [], Ok 10)
    ∷ (connector_key, 0 ∷ 0 ∷ 0 ∷ 0 ∷ 0 ∷ 2 ∷ 0 ∷ 1 ∷ 0 ∷ 0 ∷ [], refuses 6 6)
    ∷ (connector_key, 0 ∷ 0 ∷ 0 ∷ 0 ∷ 0 ∷ 1 ∷ 0 ∷ 1 ∷ 0 ∷ [], refuses 3 6)
    ∷ (connector_key, 0 ∷ 0 ∷ 0 ∷ 0 ∷ 0 ∷ 1 ∷ 0 ∷ 1 ∷ 0 ∷ 0 ∷ [], Ok 10)
    ∷ []

keys-so : map (λ row. scan max_snapshot_bytes row.0 row.1 0) keys ≡ map (λ row. row.2) keys
unfolding scan read read_span read_number read_tag read_text valid_up_to number_of block_key connector_key
keys-so = refl
