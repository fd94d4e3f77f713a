use native.Mathlib.Omega.{arith}
use Rattle.std.proofs.Common.{rules}
use Rattle.std.specs.Result.{result_from_control_flow, IsErr, IsErrAnd}
use mathlib.Core.Path.{◌≡◌, refl}
use Rattle.format.specs.Format.{free, done}
use Rattle.format.specs.Keys.{connector_key}
use Rattle.format.specs.Manifest.{connector_keys}
use Rattle.format.proofs.Entries.{going_start}
use Rattle.state_wire.specs.Fields.{max_snapshot_bytes}
use Rattle.state_sections.proofs.Filling.{going-left}
use Rattle.state_sections.proofs.Keys.{keys-read}
use Rattle.state.proofs.Outcome.{passed_on}
use Rattle.state_sections.proofs.lists.read_connector_keys.Goals as goal

pub returns : goal.returns
unfolding connector_keys
returns c =
    let t = c.try_fold.ensures.ran in
    keys-read _ (λ v b. v ≡ result_from_control_flow b) (λ e r. IsErr r × IsErrAnd r (λ d. d ≡ e.0)) max_snapshot_bytes connector_key c.args.s.now (record { 0 = c.args.s }) (λ f f' p x v h l. search rules) (λ v n b. b) (λ v r e b q. (e.0, b, passed_on q.1))
    t.0 _ t.4.0 c.try_fold.new.self _ t.2 _ t.3 _ t.1 refl (going-left (going_start _ _ _ 4 10 free connector_key done c.read_count-count.ensures c.in-Ok.is) (omega arith)) t.4.1 t.4.2 t.5 t.6
