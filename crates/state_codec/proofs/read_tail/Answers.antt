use native.Mathlib.Omega.{arith}
use mathlib.Core.Path.{◌≡◌, sym, ◌∙◌}
use Rattle.std.proofs.Common.{rules}
use Rattle.questions.proofs.Chains.{located, located-no, located-yes}
use Rattle.state.proofs.Outcome.{passed_on}
use Rattle.state_codec.proofs.Reading.{starts-long, slots-fit, values-stop, values-well, values-no, words-stop, words_right}
use Rattle.state_codec.proofs.read_tail.Goals as goal

pub returns-in_default : goal.returns-in_default
returns-in_default c = values-stop c.requires.asked _ c.read_values-values.ensures c.in_default.is

pub validate_values-requires : goal.validate_values-requires
validate_values-requires c =
    record { asked = c.requires.asked; well = values-well c.requires.asked _ c.read_values-values.ensures c.in-Ok.is }

pub returns-in_err-map_err : goal.returns-in_err-map_err
returns-in_err-map_err c =
    let e : c.map_err.result ≡ located c.in-Ok.p c.validate_values.result = search rules in
    let n = located-no _ _ e c.in_err-map_err.was in
    rw (passed_on c.from_residual.ensures.1, n.2) (values-no c.requires.asked _ c.read_values-values.ensures c.in-Ok.is (sym n.1 ∙ c.validate_values.ensures))

pub section_start-slots-requires : goal.section_start-slots-requires
section_start-slots-requires c = (omega arith, omega (arith, starts-long c.requires.asked))

pub state_words-requires : goal.state_words-requires
state_words-requires c = slots-fit c.requires.asked c.section_start-slots.ensures

pub returns-in_default-words : goal.returns-in_default-words
returns-in_default-words c =
    let e : c.map_err.result ≡ located c.in-Ok.p c.validate_values.result = search rules in
    words-stop c.requires.asked _ c.read_values-values.ensures c.in-Ok.is (sym (located-yes _ _ e c.in_ok-map_err.was) ∙ c.validate_values.ensures) c.section_start-slots.ensures c.state_words.ensures c.read_words-words.ensures c.in_default-words.is

pub returns : goal.returns
returns c =
    let e : c.map_err.result ≡ located c.in-Ok.p c.validate_values.result = search rules in
    words_right c.requires.asked _ c.read_values-values.ensures c.in-Ok.is (sym (located-yes _ _ e c.in_ok-map_err.was) ∙ c.validate_values.ensures) c.section_start-slots.ensures c.state_words.ensures c.read_words-words.ensures c.in-Ok-words.is c.read_flags.ensures
