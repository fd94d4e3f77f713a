-- One manifest with all kinds of entries, its names and numbers all different: it is read, each name of specs/Fields.antt gives what was
-- written there, and each place of specs/Places.antt is where that was written. It passes questions 1 to 10 and is not meant to pass later ones.
use Prim.Native.Nat.{ℕ, zero, suc, ◌/◌, ◌%◌}
use mathlib.Core.Path.{◌≡◌, refl}
use mathlib.Core.List.{List, [], ◌∷◌, ◌++◌, map}
use lib.ListN.{length, replicate}
use Rattle.state.specs.Bytes.{number_of}
use Rattle.state.specs.Outcome.{got, bind}
use Rattle.utf8.specs.Valid.{valid_up_to}
use Rattle.order.specs.Lex.{lex_compare}
use Rattle.state_wire.specs.Fields.{read_span, read_number, read_tag, read_count, bounded_count, read_text, max_snapshot_bytes}
use Rattle.format.specs.Lists.{is_in, all_different}
use Rattle.format.specs.Format.{El, text, read, scan}
use Rattle.format.specs.Keys.{block_key, connector_key, key_tag, key_strings, owner, direction, port_index}
use Rattle.format.specs.Manifest.{value_type, value, members, params, connector_keys, block_head, block_rest, connector_rest, slot_rest, input_rest, portability, enums, blocks, connectors, connections, schedule, connector_order, driver_of, state_slots, external_inputs, boundary_outputs, input_definitions, manifest}
use Rattle.format.specs.Fields.{Entry, portability_of, enums_of, blocks_of, connectors_of, connections_of, schedule_of, connector_order_of, drivers_of, slots_of, external_inputs_of, boundary_outputs_of, input_definitions_of, portability_tag, target, enum_path, members_of, block_key_of, class_path, kind, state_revision, state_len, params_of, inputs, outputs, connector_key_of, path, declaration_order, value_type_of, unit, quantity, source, sink, scheduled, ordered, driven, driver, slot_key, slot_offset, slot_length, external_input, output_name, output_source, input_path, input_type, minimum, maximum, type_tag, value_tag, type_class, value_class, ordinal, given}
use Rattle.format.specs.Places.{starts, section_starts, entry_starts, manifest_starts, section_start, section_end, manifest_entries}
use Rattle.format.specs.Reading.{index_words, read_sections, read_manifest}

-- ---- bytes
-- numbers below 65,536
abbrev u32 : ℕ → List ℕ
u32 n = n % 256 ∷ n / 256 ∷ 0 ∷ 0 ∷ []

abbrev u64 : ℕ → List ℕ
u64 n = u32 n ++ replicate 4 0

-- "n", or "lo", and a letter
abbrev name : ℕ → List ℕ
name k = 110 ∷ k ∷ []

abbrev long : ℕ → List ℕ
long k = 108 ∷ 111 ∷ k ∷ []

abbrev str : List ℕ → List ℕ
str t = u32 (length t) ++ t

-- values: a real by its two highest bytes, an integer by all, a Boolean, a string, an enum
abbrev real : (a b : ℕ) → List ℕ
real a b = 0 ∷ replicate 6 0 ++ a ∷ b ∷ []

abbrev integer : List ℕ → List ℕ
integer n = 1 ∷ n

abbrev bit : ℕ → List ℕ
bit b = 2 ∷ b ∷ []

abbrev string : List ℕ → List ℕ
string t = 3 ∷ str t

abbrev enum : List ℕ → ℕ → List ℕ
enum class n = 4 ∷ str class ++ u32 n

-- what may be left out
abbrev none : List ℕ
none = 0 ∷ []

abbrev some : List ℕ → List ℕ
some v = 1 ∷ v

-- an authored block and one passed through; a connector key of one of them
abbrev x : List ℕ
x = 0 ∷ str (name 72)

abbrev y : List ℕ
y = 1 ∷ str (name 73) ++ str (name 74)

abbrev port : (block : List ℕ) (dir index : ℕ) → List ℕ
port b d i = b ++ d ∷ u32 i

-- ---- the manifest
abbrev section1 : List ℕ
section1 = 1 ∷ str (long 65) ++ str (name 66)

abbrev section2 : List ℕ
section2 =
    u32 2
    ++ str (name 67) ++ u32 2 ++ str (name 70) ++ str (long 69)
    ++ str (name 68) ++ u32 1 ++ str (name 71)

-- class, kind, state revision, state length; parameters; inputs; outputs
abbrev section3 : List ℕ
section3 =
    u32 2
    ++ x ++ str (name 75) ++ 0 ∷ u32 301 ++ u64 302
    ++ u32 5 ++ str (name 77) ++ enum (long 83) 303 ++ str (name 78) ++ real 4 64 ++ str (name 79) ++ integer (254 ∷ replicate 7 255)
    ++ str (name 80) ++ bit 1 ++ str (name 81) ++ string (long 82)
    ++ u32 2 ++ port x 0 304 ++ port x 0 305
    ++ u32 1 ++ port x 1 306
    ++ y ++ str (long 76) ++ 1 ∷ u32 307 ++ u64 308
    ++ u32 0
    ++ u32 1 ++ port y 0 309
    ++ u32 2 ++ port y 1 310 ++ port y 1 311

-- path, declaration order; type; unit; quantity
abbrev section4 : List ℕ
section4 =
    u32 4
    ++ port x 0 312 ++ str (name 84) ++ u32 313 ++ 4 ∷ str (name 85) ++ some (str (name 86)) ++ none
    ++ port x 1 314 ++ str (name 87) ++ u32 315 ++ 0 ∷ none ++ some (str (name 88))
    ++ port y 0 316 ++ str (name 89) ++ u32 317 ++ 3 ∷ some (str (name 90)) ++ some (str (name 91))
    ++ port y 1 318 ++ str (name 92) ++ u32 319 ++ 2 ∷ none ++ none

abbrev section5 : List ℕ
section5 = u32 2 ++ port x 1 320 ++ port y 0 321 ++ port y 1 322 ++ port x 0 323

abbrev section6 : List ℕ
section6 = u32 2 ++ y ++ x

abbrev section7 : List ℕ
section7 = u32 2 ++ port y 0 324 ++ port x 1 325

abbrev section8 : List ℕ
section8 = u32 2 ++ port x 0 326 ++ port y 1 327 ++ port y 0 328 ++ port x 1 329

abbrev section9 : List ℕ
section9 = u32 2 ++ x ++ u64 330 ++ u64 331 ++ y ++ u64 332 ++ u64 333

abbrev section10 : List ℕ
section10 = u32 2 ++ port y 0 334 ++ port x 0 335

abbrev section11 : List ℕ
section11 = u32 2 ++ str (name 95) ++ port y 1 336 ++ str (name 94) ++ port x 1 337

-- type; minimum; maximum
abbrev section12 : List ℕ
section12 =
    u32 4
    ++ str (name 96) ++ 0 ∷ some (real 248 191) ++ some (real 224 63)
    ++ str (name 97) ++ 1 ∷ some (integer (u64 338)) ++ none
    ++ str (name 98) ++ 4 ∷ str (name 99) ++ none ++ some (enum (name 100) 339)
    ++ str (name 101) ++ 2 ∷ none ++ none

abbrev sample : List ℕ
sample =
    section1 ++ section2 ++ section3 ++ section4 ++ section5 ++ section6 ++ section7 ++ section8 ++ section9 ++ section10 ++ section11 ++ section12

-- ---- what each name gives: a number, a text, or texts, of which there may be none
data Field : Type 0 where
  num : ℕ → Field
  txt : List ℕ → Field
  txts : List (List ℕ) → Field

abbrev joined : {A : Type 0} → (A → List Field) → List A → List Field
joined f [] = []
joined f (v ∷ vs) = f v ++ joined f vs

-- and how many there are
abbrev all : {A : Type 0} → (A → List Field) → List A → List Field
all f vs = num (length vs) ∷ joined f vs

abbrev of_block : El block_key → List Field
of_block k = num (key_tag k) ∷ txts (key_strings k) ∷ []

abbrev of_connector : El connector_key → List Field
of_connector k = of_block (owner k) ++ num (direction k) ∷ num (port_index k) ∷ []

abbrev of_connectors : El connector_keys → List Field
unfolding connector_keys
of_connectors ks = all (λ k. of_connector k.0) ks

abbrev of_type : El value_type → List Field
of_type t = num (type_tag t) ∷ txts (type_class t) ∷ []

-- what a value holds besides an enum's class and ordinal
abbrev content : El value → List Field
unfolding value
content (zero, n) = num n ∷ []
content (suc zero, n) = num n ∷ []
content (suc (suc zero), b) = num b ∷ []
content (suc (suc (suc zero)), t) = txt t ∷ []
content (suc (suc (suc (suc t))), v) = []

abbrev of_value : El value → List Field
of_value v = num (value_tag v) ∷ txts (value_class v) ∷ num (ordinal v) ∷ content v

abbrev of_params : El params → List Field
unfolding params
of_params ps = all (λ p. txt p.0 ∷ of_value p.1) ps

abbrev of_members : El members → List Field
unfolding members
of_members ms = txts (map (λ m. m.0) ms) ∷ []

-- of each section the fields of its entries, one row each
abbrev table : El manifest → List (List (List Field))
table m =
    ((num (portability_tag (portability_of m)) ∷ txts (target (portability_of m)) ∷ []) ∷ [])
    ∷ map (λ (e : Entry enums). txt (enum_path e) ∷ of_members (members_of e)) (enums_of m)
    ∷ map (λ (b : Entry blocks).
    of_block (block_key_of b) ++ txt (class_path b) ∷ num (kind b) ∷ num (state_revision b) ∷ num (state_len b)
    ∷ of_params (params_of b) ++ of_connectors (inputs b) ++ of_connectors (outputs b)) (blocks_of m)
    ∷ map (λ (c : Entry connectors).
    of_connector (connector_key_of c) ++ txt (path c) ∷ num (declaration_order c)
    ∷ of_type (value_type_of c) ++ txts (given text (unit c)) ∷ txts (given text (quantity c)) ∷ []) (connectors_of m)
    ∷ map (λ (c : Entry connections). of_connector (source c) ++ of_connector (sink c)) (connections_of m)
    ∷ map (λ (e : Entry schedule). of_block (scheduled e)) (schedule_of m)
    ∷ map (λ (e : Entry connector_order). of_connector (ordered e)) (connector_order_of m)
    ∷ map (λ (d : Entry driver_of). of_connector (driven d) ++ of_connector (driver d)) (drivers_of m)
    ∷ map (λ (e : Entry state_slots). of_block (slot_key e) ++ num (slot_offset e) ∷ num (slot_length e) ∷ []) (slots_of m)
    ∷ map (λ (e : Entry external_inputs). of_connector (external_input e)) (external_inputs_of m)
    ∷ map (λ (e : Entry boundary_outputs). txt (output_name e) ∷ of_connector (output_source e)) (boundary_outputs_of m)
    ∷ map (λ (d : Entry input_definitions).
    txt (input_path d) ∷ of_type (input_type d) ++ all of_value (given value (minimum d)) ++ all of_value (given value (maximum d))) (input_definitions_of m)
    ∷ []

-- ---- what was written
abbrev is_x : List Field
is_x = num 0 ∷ txts (name 72 ∷ []) ∷ []

abbrev is_y : List Field
is_y = num 1 ∷ txts (name 73 ∷ name 74 ∷ []) ∷ []

abbrev is_port : (block : List Field) (dir index : ℕ) → List Field
is_port b d i = b ++ num d ∷ num i ∷ []

abbrev is_type : ℕ → List Field
is_type t = num t ∷ txts [] ∷ []

abbrev is_enum_type : List ℕ → List Field
is_enum_type class = num 4 ∷ txts (class ∷ []) ∷ []

-- a value that is no enum, by its tag
abbrev is_value : ℕ → Field → List Field
is_value t c = num t ∷ txts [] ∷ num 0 ∷ c ∷ []

abbrev is_enum : List ℕ → ℕ → List Field
is_enum class n = num 4 ∷ txts (class ∷ []) ∷ num n ∷ []

abbrev written : List (List (List Field))
written =
    ((num 1 ∷ txts (long 65 ∷ name 66 ∷ []) ∷ []) ∷ [])
    ∷ ((txt (name 67) ∷ txts (name 70 ∷ long 69 ∷ []) ∷ []) ∷ (txt (name 68) ∷ txts (name 71 ∷ []) ∷ []) ∷ [])
    ∷ ((is_x ++ txt (name 75) ∷ num 0 ∷ num 301 ∷ num 302
    ∷ num 5 ∷ txt (name 77) ∷ is_enum (long 83) 303 ++ txt (name 78) ∷ is_value 0 (num 4612811918334230528)
    ++ txt (name 79) ∷ is_value 1 (num 18446744073709551614) ++ txt (name 80) ∷ is_value 2 (num 1) ++ txt (name 81) ∷ is_value 3 (txt (long 82))
    ++ num 2 ∷ is_port is_x 0 304 ++ is_port is_x 0 305 ++ num 1 ∷ is_port is_x 1 306)
    ∷ (is_y ++ txt (long 76) ∷ num 1 ∷ num 307 ∷ num 308 ∷ num 0 ∷ num 1 ∷ is_port is_y 0 309 ++ num 2 ∷ is_port is_y 1 310 ++ is_port is_y 1 311)
    ∷ [])
    ∷ ((is_port is_x 0 312 ++ txt (name 84) ∷ num 313 ∷ is_enum_type (name 85) ++ txts (name 86 ∷ []) ∷ txts [] ∷ [])
    ∷ (is_port is_x 1 314 ++ txt (name 87) ∷ num 315 ∷ is_type 0 ++ txts [] ∷ txts (name 88 ∷ []) ∷ [])
    ∷ (is_port is_y 0 316 ++ txt (name 89) ∷ num 317 ∷ is_type 3 ++ txts (name 90 ∷ []) ∷ txts (name 91 ∷ []) ∷ [])
    ∷ (is_port is_y 1 318 ++ txt (name 92) ∷ num 319 ∷ is_type 2 ++ txts [] ∷ txts [] ∷ []) ∷ [])
    ∷ ((is_port is_x 1 320 ++ is_port is_y 0 321) ∷ (is_port is_y 1 322 ++ is_port is_x 0 323) ∷ [])
    ∷ (is_y ∷ is_x ∷ [])
    ∷ (is_port is_y 0 324 ∷ is_port is_x 1 325 ∷ [])
    ∷ ((is_port is_x 0 326 ++ is_port is_y 1 327) ∷ (is_port is_y 0 328 ++ is_port is_x 1 329) ∷ [])
    ∷ ((is_x ++ num 330 ∷ num 331 ∷ []) ∷ (is_y ++ num 332 ∷ num 333 ∷ []) ∷ [])
    ∷ (is_port is_y 0 334 ∷ is_port is_x 0 335 ∷ [])
    ∷ ((txt (name 95) ∷ is_port is_y 1 336) ∷ (txt (name 94) ∷ is_port is_x 1 337) ∷ [])
    ∷ ((txt (name 96) ∷ is_type 0 ++ num 1 ∷ is_value 0 (num 13832806255468478464) ++ num 1 ∷ is_value 0 (num 4602678819172646912))
    ∷ (txt (name 97) ∷ is_type 1 ++ num 1 ∷ is_value 1 (num 338) ++ num 0 ∷ [])
    ∷ (txt (name 98) ∷ is_enum_type (name 99) ++ num 0 ∷ num 1 ∷ is_enum (name 100) 339)
    ∷ (txt (name 101) ∷ is_type 2 ++ num 0 ∷ num 0 ∷ []) ∷ [])
    ∷ []

-- it is read, to its end, and the names give what was written
fields-given : bind (read_manifest max_snapshot_bytes sample (index_words (length sample))) (λ m n. got (table m) n) ≡ got written 856
unfolding read_manifest read_sections read read_span read_number read_tag read_count bounded_count read_text valid_up_to number_of block_key connector_key value_type value members params connector_keys block_head block_rest connector_rest slot_rest input_rest portability manifest is_in all_different lex_compare key_tag key_strings owner direction port_index portability_of enums_of blocks_of connectors_of connections_of schedule_of connector_order_of drivers_of slots_of external_inputs_of boundary_outputs_of input_definitions_of portability_tag target enum_path members_of block_key_of class_path kind state_revision state_len params_of inputs outputs connector_key_of path declaration_order value_type_of unit quantity source sink scheduled ordered driven driver slot_key slot_offset slot_length external_input output_name output_source input_path input_type minimum maximum type_tag value_tag type_class value_class ordinal given
fields-given = refl

-- ---- places
abbrev limit : ℕ
limit = max_snapshot_bytes

sections-start : manifest_starts limit sample ≡ 0 ∷ 14 ∷ 57 ∷ 304 ∷ 450 ∷ 514 ∷ 538 ∷ 572 ∷ 636 ∷ 692 ∷ 726 ∷ 772 ∷ []
unfolding read scan read_span read_number read_tag read_count bounded_count read_text valid_up_to number_of block_key connector_key value_type value members params connector_keys block_head block_rest connector_rest slot_rest input_rest portability is_in all_different lex_compare section_starts manifest_starts
sections-start = refl

-- sections 1 to 12 from where each starts to where it ends
each-section : map {B = ℕ × ℕ} (λ k. (section_start limit k sample, section_end limit k sample)) (1 ∷ 2 ∷ 3 ∷ 4 ∷ 5 ∷ 6 ∷ 7 ∷ 8 ∷ 9 ∷ 10 ∷ 11 ∷ 12 ∷ [])
    ≡ (0, 14) ∷ (14, 57) ∷ (57, 304) ∷ (304, 450) ∷ (450, 514) ∷ (514, 538) ∷ (538, 572) ∷ (572, 636) ∷ (636, 692) ∷ (692, 726) ∷ (726, 772) ∷ (772, 856) ∷ []
unfolding section_start
each-section = rw sections-start

-- two entries of each section, four of sections 4 and 12
entries-start : manifest_entries limit sample
    ≡ 18 ∷ 41 ∷ 61 ∷ 205 ∷ 308 ∷ 345 ∷ 376 ∷ 419 ∷ 454 ∷ 484 ∷ 518 ∷ 531 ∷ 542 ∷ 560 ∷ 576 ∷ 606 ∷ 640 ∷ 663 ∷ 696 ∷ 714 ∷ 730 ∷ 754 ∷ 776 ∷ 803 ∷ 821 ∷ 847 ∷ []
unfolding read scan read_span read_number read_tag read_count bounded_count read_text valid_up_to number_of block_key connector_key value_type value members params connector_keys block_head block_rest connector_rest slot_rest input_rest portability is_in all_different lex_compare starts entry_starts manifest_entries
entries-start = refl
