-- Questions 11 to 16: enum classes, blocks, ports.
use Rattle.std.specs.Prelude.{ℕ, suc, List, [], ◌∷◌, ◌++◌, map, Bool, true, not, cond, ◌&&◌, length, ltb, leb, eqb}
use Rattle.format.specs.Lists.{same}
use Rattle.format.specs.Format.{El, encode}
use Rattle.format.specs.Keys.{block_key, connector_key, owner, direction, port_index}
use Rattle.format.specs.Manifest.{value, members, params, connector_keys, enums, blocks, connectors, manifest}
use Rattle.format.specs.Fields.{Entry, enums_of, blocks_of, connectors_of, enum_path, members_of, block_key_of, kind, state_revision, state_len, params_of, inputs, outputs, connector_key_of, value_type_of, type_class, value_class, ordinal}
use Rattle.questions.specs.Sets.{all, any, gather, same_set, ◌unless◌, first}

-- ---- keys are compared as they are written, which tells them apart (format, proofs/Complete.antt, `same_bytes`)
unfoldable pub block_names : List (Entry blocks) → List (List ℕ)
block_names bs = map (λ b. encode block_key (block_key_of b)) bs

unfoldable pub connector_names : List (Entry connectors) → List (List ℕ)
connector_names cs = map (λ c. encode connector_key (connector_key_of c)) cs

-- ---- "11. Each class has a member?"
unfoldable pub has_member : Entry enums → Bool
unfolding members
has_member e = ltb 0 (length (members_of e))

-- ---- "12. Block by block: algebraic with revision and length both 0, stateful with neither 0?"
unfoldable pub is_stateful : Entry blocks → Bool
is_stateful b = eqb (kind b) 1

unfoldable pub kind_holds : Entry blocks → Bool
kind_holds b =
    cond (is_stateful b)
    (not (eqb (state_revision b) 0) && not (eqb (state_len b) 0))
    (eqb (state_revision b) 0 && eqb (state_len b) 0)

-- ---- "13. then each enum parameter of a listed class, ordinal in range?" "Ordinal 0, or one above the member count, is refused; ordinals start
-- at 1"
unfoldable pub in_range : ℕ → Entry enums → Bool
unfolding members
in_range n e = ltb 0 n && leb n (length (members_of e))

-- a value that is no enum has no class
unfoldable pub enum_holds : List (Entry enums) → El value → Bool
enum_holds es v = all (λ class. any (λ e. same class (enum_path e) && in_range (ordinal v) e) es) (value_class v)

unfoldable pub params_hold : List (Entry enums) → Entry blocks → Bool
unfolding params
params_hold es b = all (λ p. enum_holds es p.1) (params_of b)

-- ---- "14. then each input and output port owned by this block, of its direction, with its list position as index?"
unfoldable pub port_holds : El block_key → (way place : ℕ) → El connector_key → Bool
port_holds k way i p = same (encode block_key (owner p)) (encode block_key k) && (eqb (direction p) way && eqb (port_index p) i)

-- from place i on
unfoldable pub ports_hold : El block_key → (way i : ℕ) → El connector_keys → Bool
unfolding connector_keys
ports_hold k way i [] = true
ports_hold k way i (p ∷ ps) = port_holds k way i p.0 && ports_hold k way (suc i) ps

-- 12, 13 and 14 of one block
unfoldable pub block_answer : List (Entry enums) → Entry blocks → ℕ
block_answer es b =
    first (
    12 unless (kind_holds b)
    ∷ 13 unless (params_hold es b)
    ∷ 14 unless (ports_hold (block_key_of b) 0 0 (inputs b) && ports_hold (block_key_of b) 1 0 (outputs b))
    ∷ []
    )

-- ---- "15. Ports of all blocks equal section 4's keys?"
unfoldable pub port_names : El connector_keys → List (List ℕ)
unfolding connector_keys
port_names ps = map (λ p. encode connector_key p.0) ps

unfoldable pub block_ports : Entry blocks → List (List ℕ)
block_ports b = port_names (inputs b) ++ port_names (outputs b)

unfoldable pub ports_are : List (Entry blocks) → List (Entry connectors) → Bool
ports_are bs cs = same_set (gather block_ports bs) (connector_names cs)

-- ---- "16. Classes listed equal those named by parameters and connector types?"
unfoldable pub param_classes : Entry blocks → List (List ℕ)
unfolding params
param_classes b = gather (λ p. value_class p.1) (params_of b)

unfoldable pub classes_are : List (Entry enums) → List (Entry blocks) → List (Entry connectors) → Bool
classes_are es bs cs = same_set (map enum_path es) (gather param_classes bs ++ gather (λ c. type_class (value_type_of c)) cs)

-- ---- 11 to 16
unfoldable pub declarations : El manifest → List ℕ
declarations m =
    11 unless (all has_member (enums_of m))
    ∷ first (map (block_answer (enums_of m)) (blocks_of m))
    ∷ 15 unless (ports_are (blocks_of m) (connectors_of m))
    ∷ 16 unless (classes_are (enums_of m) (blocks_of m) (connectors_of m))
    ∷ []
