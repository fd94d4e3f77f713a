-- Block keys and connector keys.
use Rattle.std.specs.Prelude.{ℕ, zero, suc, List, [], ◌∷◌}
use Rattle.format.specs.Format.{Fmt, number, tag, text, ◌then◌, choice, El}

-- state_manifest_codec.rs, `read_block_key`: tag 0, authored, with its name; tag 1, passed through, with the paths in and out.
-- "Block-key tag 2 is always refused"
unfoldable pub block_key : Fmt
block_key = choice (text ∷ (text then text) ∷ [])

-- in, out
abbrev pub wire_dir : Fmt
wire_dir = tag 2

-- `read_connector_key`: owner, direction, port index
unfoldable pub connector_key : Fmt
connector_key = block_key then wire_dir then number 4

unfoldable pub key_tag : El block_key → ℕ
unfolding block_key
key_tag k = k.0

-- the strings of a block key, in wire order
unfoldable pub key_strings : El block_key → List (List ℕ)
unfolding block_key
key_strings (zero, name) = name ∷ []
key_strings (suc zero, paths) = paths.0 ∷ paths.1 ∷ []
key_strings (suc (suc t), none) = []

unfoldable pub owner : El connector_key → El block_key
unfolding connector_key
owner k = k.0

unfoldable pub direction : El connector_key → ℕ
unfolding connector_key
direction k = k.1.0

unfoldable pub port_index : El connector_key → ℕ
unfolding connector_key
port_index k = k.1.1
