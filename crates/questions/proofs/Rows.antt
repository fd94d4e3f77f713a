-- Document 01, "Entries checked", and the manifests of Cases.antt: a table, with one theorem over all rows. The answers are those of the Rust.
use Prim.Native.Nat.{ℕ, ◌-◌, ◌^◌}
use mathlib.Core.Path.{◌≡◌, refl}
use mathlib.Core.List.{List, [], ◌∷◌, ◌++◌}
use lib.ListN.{length, replicate}
use Rattle.state.specs.Bytes.{number_of, bytes_of}
use Rattle.std.specs.Prelude.{Result, Ok}
use Rattle.state.specs.Outcome.{refuses}
use Rattle.state.specs.declared.Refusal.{Refusal}
use Rattle.state.specs.declared.Units.{Units}
use Rattle.utf8.specs.Valid.{valid_up_to}
use Rattle.order.specs.Lex.{lex_compare}
use Rattle.state_wire.specs.Fields.{read_span, read_number, read_tag, read_count, bounded_count, read_text}
use Rattle.format.specs.Lists.{is_in, all_different}
use Rattle.format.specs.Format.{read, encode}
use Rattle.format.specs.Admits.{All}
use Rattle.format.specs.Keys.{block_key, connector_key, owner, direction, port_index}
use Rattle.format.specs.Manifest.{value_type, value, members, params, connector_keys, block_head, block_rest, connector_rest, slot_rest, input_rest, portability, manifest}
use Rattle.format.specs.Fields.{portability_of, enums_of, blocks_of, connectors_of, connections_of, schedule_of, connector_order_of, drivers_of, slots_of, external_inputs_of, boundary_outputs_of, input_definitions_of, portability_tag, target, enum_path, members_of, block_key_of, class_path, kind, state_revision, state_len, params_of, inputs, outputs, connector_key_of, path, value_type_of, source, sink, scheduled, ordered, driven, driver, slot_key, slot_offset, slot_length, external_input, output_name, output_source, input_path, input_type, minimum, maximum, type_tag, value_tag, type_class, value_class, ordinal, given}
use Rattle.format.specs.Reading.{index_words, read_sections, read_manifest}
use Rattle.format.proofs.Lists.{alike-each, told_each}
use Rattle.questions.specs.Sets.{all, any, keep, gather, all_in, same_set, each_once, count_different, ◌unless◌, first}
use Rattle.questions.specs.Declarations.{block_names, connector_names, has_member, is_stateful, kind_holds, in_range, enum_holds, params_hold, port_holds, ports_hold, block_answer, port_names, block_ports, ports_are, param_classes, classes_are, declarations}
use Rattle.questions.specs.References.{is_known, is_directed, joins, schedule_holds, order_holds, drives, drivers_hold, references, external_names, externals_hold, outputs_hold, boundaries}
use Rattle.questions.specs.Slots.{slot_name, slot_keys_are, length_is, end_fits, slot_answer, words, insert, by_offset, join_from, slots}
use Rattle.questions.specs.Inputs.{externals, same_type, has_type, one_type, count_is, is_defined, bound_holds, bound_answer, definition_answer, input_answers, input_definitions_hold}
use Rattle.questions.specs.Portability.{ascii, target_bound_classes, some_bound, tag_holds, target_holds, portability_holds}
use Rattle.questions.specs.Order.{answers, first_failing}
use Rattle.questions.specs.Answers.{judge, decode_manifest}
use Rattle.questions.specs.Units.{word_total, units_of, units_answer}
use Rattle.questions.proofs.Cases.{Answered, accepts, answered, same_answer, same-answer, zeros, digits, pairs, hex, Row, row_at, row, accepted, accepted_rows, declaration_rows, reference_rows, slot_rows, boundary_rows, input_rows, portability_rows, bound_rows}

-- ---- "Entries checked"
-- "P: portable, one authored block with empty key and class, stateful, revision 1, length 1, no lists, scheduled, slot at 0: 105 bytes"
abbrev entry_rows : List Row
entry_rows =
    row [] (refuses 3 0)
    ∷ row (2 ∷ []) (refuses 6 1)
    ∷ row (zeros 44) (refuses 3 41)
    ∷ row (zeros 45) accepts
    ∷ row (zeros 46) (refuses 10 45)
    ∷ row (0 ∷ 1 ∷ zeros 10) (refuses 7 5)
    ∷ row (0 ∷ 1 ∷ zeros 11) (refuses 3 13)
    ∷ row (0 ∷ 1 ∷ zeros 51) (refuses 11 53)
    ∷ row (1 ∷ zeros 52) (refuses 31 53)
    ∷ row_at 0 1 (1 ∷ zeros 52) (refuses 32 53)
    -- P, then its slot at 1, then its kind 0
    ∷ accepted "00 . 0100000000..01010000000100000000000000... . . 0100000000. . . 0100000000...0100000000000000 . . ."
    ∷ row (hex "00 . 0100000000..01010000000100000000000000... . . 0100000000. . . 0100000000.01000000000000000100000000000000 . . .") (refuses 24 105)
    ∷ row (hex "00 . 0100000000..00010000000100000000000000... . . 0100000000. . . 0100000000...0100000000000000 . . .") (refuses 12 105)
    -- index words
    ∷ record { bytes = zeros 45; base = 0; revision = 2; index = 37; answer = refuses 2 0 }
    ∷ record { bytes = zeros 45; base = 0; revision = 2; index = 38; answer = accepts }
    ∷ record { bytes = zeros 45; base = 9; revision = 2; index = 37; answer = refuses 2 0 }
    -- "Offsets are base plus position and stop at 2^64 − 1"
    ∷ row_at 7 2 (zeros 44) (refuses 3 48)
    ∷ row_at (2 ^ 64 - 1) 2 (zeros 44) (refuses 3 (2 ^ 64 - 1))
    ∷ row_at (2 ^ 64 - 10) 2 (1 ∷ zeros 52) (refuses 31 (2 ^ 64 - 1))
    ∷ []

-- ---- all of them
abbrev rows : List Row
rows = entry_rows ++ accepted_rows ++ declaration_rows ++ reference_rows ++ slot_rows ++ boundary_rows ++ input_rows ++ portability_rows ++ bound_rows

-- ---- words and units: "P .. Accepted, 1 word, 4 units"; 39 above 2^64 − 1
record Figure : Type 0 where
  bytes : List ℕ
  figure : Result Units (Refusal ℕ)

abbrev costs : (words units : ℕ) → Result Units (Refusal ℕ)
costs w u = Ok (record { words = w; units = u })

abbrev connected : List ℕ
connected = hex "00 . 0100000000..00....0100000000.00.0100000000.01. 0200000000.00...00000000.01...000000 0100000000.01.00.00. 0100000000. 0200000000.00.00.01. 0200000000.00.00.00.00.01.00.01. . . . ."

abbrev figures : List Figure
figures =
    record { bytes = zeros 45; figure = costs 0 0 }
    ∷ record { bytes = hex "00 . 0100000000..01010000000100000000000000... . . 0100000000. . . 0100000000...0100000000000000 . . ."; figure = costs 1 4 }
    -- P with 2^62 − 1 words, with 2^62 words, and cut short
    ∷ record { bytes = hex "00 . 0100000000..0101000000ffffffffffffff3f... . . 0100000000. . . 0100000000...ffffffffffffff3f . . ."; figure = costs (2 ^ 62 - 1) (2 ^ 64 - 4) }
    ∷ record { bytes = hex "00 . 0100000000..01010000000000000000000040... . . 0100000000. . . 0100000000...0000000000000040 . . ."; figure = refuses 39 0 }
    ∷ record { bytes = zeros 44; figure = refuses 3 41 }
    -- an output connected to an input: two connectors
    ∷ record { bytes = connected; figure = costs 0 2 }
    ∷ []

-- what a call for units answers
abbrev figure_of : Figure → Result Units (Refusal ℕ)
figure_of f = units_answer 0 (judge target_bound_classes 2 f.bytes (index_words (length f.bytes)))

-- what a call answers
abbrev answer_to : Row → Answered
answer_to r = answered (decode_manifest target_bound_classes r.bytes r.base r.revision (replicate r.index 0))

-- to unfold this is to unfold all that an answer is computed by
unfoldable pub opened : Unit {0}
unfolding units_answer units_of word_total hex pairs digits decode_manifest judge first_failing answers declarations references slots boundaries input_definitions_hold portability_holds all any keep gather all_in same_set each_once count_different ◌unless◌ first block_names connector_names has_member is_stateful kind_holds in_range enum_holds params_hold port_holds ports_hold block_answer port_names block_ports ports_are param_classes classes_are is_known is_directed joins schedule_holds order_holds drives drivers_hold external_names externals_hold outputs_hold slot_name slot_keys_are length_is end_fits slot_answer words insert by_offset join_from externals same_type has_type one_type count_is is_defined bound_holds bound_answer definition_answer input_answers ascii target_bound_classes some_bound tag_holds target_holds portability_of enums_of blocks_of connectors_of connections_of schedule_of connector_order_of drivers_of slots_of external_inputs_of boundary_outputs_of input_definitions_of portability_tag target enum_path members_of block_key_of class_path kind state_revision state_len params_of inputs outputs connector_key_of path value_type_of source sink scheduled ordered driven driver slot_key slot_offset slot_length external_input output_name output_source input_path input_type minimum maximum type_tag value_tag type_class value_class ordinal given owner direction port_index read_manifest read_sections read encode read_span read_number read_tag read_count bounded_count read_text valid_up_to number_of bytes_of block_key connector_key value_type value members params connector_keys block_head block_rest connector_rest slot_rest input_rest portability manifest is_in all_different lex_compare
opened = tt

-- each row is answered as it says
rows-hold : All (λ (r : Row). answer_to r ≡ r.answer) rows × All (λ (f : Figure). figure_of f ≡ f.figure) figures
unfolding opened
rows-hold = (told_each same_answer same-answer answer_to (λ (r : Row). r.answer) rows refl, alike-each figure_of (λ (f : Figure). f.figure) figures refl)
