use native.Mathlib.Omega.{arith}
use Rattle.state_manifest_codec.proofs.Whole.{too_long, too_few, sections-stop, all_read, left_over}
use Rattle.state_manifest_codec.proofs.read_manifest.Goals as goal

pub returns-then-s-gt-MAX_SNAPSHOT_BYTES : goal.returns-then-s-gt-MAX_SNAPSHOT_BYTES
returns-then-s-gt-MAX_SNAPSHOT_BYTES c = rw c.at.ensures (too_long _ _ c.if-s-gt-MAX_SNAPSHOT_BYTES.true)

pub returns-then-index-words : goal.returns-then-index-words
returns-then-index-words c = rw c.at-then-index-words.ensures (too_few _ _ c.if-s-gt-MAX_SNAPSHOT_BYTES.false c.if-index-words.true)

pub returns-in_default : goal.returns-in_default
returns-in_default c = sections-stop _ _ c.if-s-gt-MAX_SNAPSHOT_BYTES.false c.if-index-words.false c.read_sections-sections.ensures c.in_default.is

pub returns-then-end-s : goal.returns-then-end-s
returns-then-end-s c = all_read _ _ c.if-s-gt-MAX_SNAPSHOT_BYTES.false c.if-index-words.false c.read_sections-sections.ensures c.in-Ok.is (omega arith)

pub returns-else-end-s : goal.returns-else-end-s
returns-else-end-s c = rw c.at-else-end-s.ensures (left_over _ _ c.if-s-gt-MAX_SNAPSHOT_BYTES.false c.if-index-words.false c.read_sections-sections.ensures c.in-Ok.is (λ h. omega arith))
