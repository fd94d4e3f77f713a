-- Document 01, state_key_order.rs: how block keys and connector keys compare. proofs/KeyOrder.antt shows that it is the order of their wire bytes.
use Rattle.std.specs.Prelude.{ℕ, List, [], ◌∷◌, length}
use Rattle.state.specs.Bytes.{bytes_of}
use Rattle.std.specs.declared.cmp.Ordering.{Ordering}
use Rattle.std.specs.declared.cmp.Ordering.TheVariants.{Less, Equal, Greater}
use Rattle.order.specs.Lex.{lex_compare, then_with}
use Rattle.format.specs.Format.{El}
use Rattle.format.specs.Keys.{block_key, connector_key, key_tag, key_strings, owner, direction, port_index}

-- two bytes
abbrev pub byte_cmp : ℕ → ℕ → Ordering
byte_cmp a b = lex_compare (a ∷ []) (b ∷ [])

-- "strings in wire order: the four length bytes as written, then the text"
abbrev pub wire_string_cmp : List ℕ → List ℕ → Ordering
wire_string_cmp a b = then_with (lex_compare (bytes_of 4 (length a)) (bytes_of 4 (length b))) (lex_compare a b)

-- string by string
unfoldable pub wire_strings_cmp : List (List ℕ) → List (List ℕ) → Ordering
wire_strings_cmp [] [] = Equal
wire_strings_cmp [] (y ∷ ys) = Less
wire_strings_cmp (x ∷ xs) [] = Greater
wire_strings_cmp (x ∷ xs) (y ∷ ys) = then_with (wire_string_cmp x y) (wire_strings_cmp xs ys)

-- "Block keys compare by tag, then by strings in wire order"
unfoldable pub block_key_cmp : El block_key → El block_key → Ordering
block_key_cmp k l = then_with (byte_cmp (key_tag k) (key_tag l)) (wire_strings_cmp (key_strings k) (key_strings l))

-- "Connector keys compare by owner, direction, then the four bytes of the port index"
unfoldable pub connector_key_cmp : El connector_key → El connector_key → Ordering
connector_key_cmp k l =
    then_with (block_key_cmp (owner k) (owner l))
    (then_with (byte_cmp (direction k) (direction l))
    (lex_compare (bytes_of 4 (port_index k)) (bytes_of 4 (port_index l))))
