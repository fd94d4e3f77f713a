use mathlib.Core.Path.{◌∙◌}
use Rattle.std.proofs.Common.{rules}
use Rattle.std.proofs.lemmas.Iterator.{YieldsList-from_slice}
use Rattle.format.specs.Manifest.{connectors}
use Rattle.state_layout.specs.Keys.{keys_of}
use Rattle.state_references.proofs.Telling.{walked}
use Rattle.state_references.proofs.Answered.{names-known}
use Rattle.state_references.proofs.entries_hold.Goals as goal

pub returns : goal.returns
returns g c =
    c.is_some.ensures
    ∙ walked (g.test c.args.m.s.now (keys_of connectors c.args.m.s.now c.keys-known.result.words.now)) _ _ _ _ c.try_fold.ensures.ran (YieldsList-from_slice _ c.iter.ensures.rest) (λ a x o q k. search rules)
    ∙ rw (c.keys-known.ensures.1, c.table.ensures, names-known c.args.m.laid)
