-- What of a section's format its loop needs to know: `Layout`.
use Rattle.format.specs.Format.{Rule, free, distinct, early, late, from}
use Rattle.format.specs.Manifest.{Section}
use Rattle.state_sections.specs.declared.layouts.Asked.{Asked}
use Rattle.state_sections.specs.declared.layouts.Asked.TheVariants.{Never, AfterKey, AfterEntry}
use Rattle.state_sections.specs.declared.layouts.Layout.{Layout}

abbrev pub asked_by : Rule → Asked
asked_by free = Never
asked_by (distinct r) = Never
asked_by (early r) = AfterKey
asked_by (late r) = AfterEntry

abbrev pub layout_of : Section → Layout
layout_of e = record { least = e.least; skip = from e.rule 0; asked = asked_by e.rule }
