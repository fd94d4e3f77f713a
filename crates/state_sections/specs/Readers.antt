-- What the readers that are passed to others promise.
use Rattle.std.specs.Prelude.{ℕ, ◌≡◌, List}
use denote.Ref.{MutBor}
use Rattle.state.specs.Outcome.{Stepped}
use Rattle.state_wire.specs.Fields.{max_snapshot_bytes}
use Rattle.format.specs.Format.{Fmt, scan}
use Rattle.state_sections.specs.Tables.{Space}

-- each answer is that of reading a format
abbrev pub ReadsAs : (answers : ℕ → Stepped → Type 0) → Fmt → List ℕ → Type 0
ReadsAs answers f s = (at : ℕ) (r : Stepped) → answers at r → r ≡ scan max_snapshot_bytes f s at

-- the same of readers that write into words for what is left
abbrev pub RestAs : (answers : ℕ → MutBor (List ℕ) → Stepped → MutBor (List ℕ) → Type 0) → Fmt → List ℕ → Type 0
RestAs answers f s = (at : ℕ) (words words' : MutBor (List ℕ)) (r : Stepped) → answers at words r words' → Space s words.now at → r ≡ scan max_snapshot_bytes f s at
