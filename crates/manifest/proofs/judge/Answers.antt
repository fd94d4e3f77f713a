use mathlib.Core.Path.{◌≡◌, sym, ◌∙◌}
use Rattle.std.proofs.Common.{rules}
use Rattle.state.proofs.Outcome.{passed_on}
use Rattle.questions.proofs.Chains.{located, located-no, located-yes}
use Rattle.manifest.proofs.Judging.{read-tabled, judge-unread, judge-no, judge-yes}
use Rattle.manifest.proofs.judge.Goals as goal

pub returns-in_default : goal.returns-in_default
returns-in_default c = judge-unread _ c.read_manifest-read.ensures c.in_default.is

pub validate_manifest-requires : goal.validate_manifest-requires
validate_manifest-requires c = read-tabled (λ i. (c.type_inv.s i).fits) c.read_manifest-read.ensures c.in-Ok.is

pub returns-in_err-map_err : goal.returns-in_err-map_err
returns-in_err-map_err c =
    let e : c.map_err.result ≡ located c.in-Ok.end c.validate_manifest.result = search rules in
    let n = located-no _ _ e c.in_err-map_err.was in
    rw (passed_on c.from_residual.ensures.1, n.2) (judge-no _ c.read_manifest-read.ensures (λ i. (c.type_inv.s i).fits) c.in-Ok.is c.validate_manifest.ensures.leaves (sym n.1 ∙ c.validate_manifest.ensures.value))

pub returns : goal.returns
returns c =
    let e : c.map_err.result ≡ located c.in-Ok.end c.validate_manifest.result = search rules in
    judge-yes _ c.read_manifest-read.ensures (λ i. (c.type_inv.s i).fits) c.in-Ok.is c.validate_manifest.ensures.leaves (sym (located-yes _ _ e c.in_ok-map_err.was) ∙ c.validate_manifest.ensures.value)
