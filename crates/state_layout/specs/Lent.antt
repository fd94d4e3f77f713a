-- What a table that is lent lists, where a contract speaks of `Keys`.
use Rattle.std.specs.Prelude.{ℕ, List}
use Rattle.format.specs.Manifest.{Section, enums}
use Rattle.format.specs.Fields.{Entry}
use Rattle.state_layout.specs.declared.keys.Keys.{Keys}
use Rattle.state_layout.specs.Keys.{keys_of, classes_of}

-- its entries' keys, of a section's layout
abbrev pub keys_in : Section → {n : ℕ} → Keys n → List (List ℕ)
keys_in e k = keys_of e k.s.now k.words.now

-- its enum classes
abbrev pub classes_in : {n : ℕ} → Keys n → List (Entry enums)
classes_in k = classes_of k.s.now k.words.now
