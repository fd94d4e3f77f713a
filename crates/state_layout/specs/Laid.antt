-- Whether words begin with the tables of a manifest is one fact however it was shown, as a struct that keeps it in a ghost field needs: all that
-- `Laid` compares is coded by lists of numbers.
use Rattle.std.specs.Prelude.{ℕ, List}
use Rattle.std.specs.Coded.{Coded, codes, code_by, coded_ℕ, coded_list, coded×, coded⊎}
use Rattle.state.specs.Outcome.{Outcome, got, refused}
use Rattle.format.specs.Format.{Fmt, El, done, number, tag, text, tagged, ◌then◌, list}
use Rattle.format.specs.Manifest.{manifest}
use Rattle.state_layout.specs.Tables.{Laid}
use base.Stored.{coded_unit}
use denote.Struct.Codes.{also_coded}
use mathlib.Core.Path.{refl, ◌≡◌}
use mathlib.Core.Logic.{inl, inr, ◌⊎◌}

-- the values of a format
el_coded : (f : Fmt) → Coded (El f)
el_coded done = coded_unit
el_coded (number w) = coded_ℕ
el_coded (tag k) = coded_ℕ
el_coded text = coded_list coded_ℕ
el_coded (tagged k f) = also_coded coded_ℕ (λ t. el_coded (f t))
el_coded (a then b) = coded× (el_coded a) (el_coded b)
el_coded (list w l u k r) = coded_list (coded× (el_coded k) (el_coded r))

-- what reading comes to: a value or a question, and a position beside either
module _ {A : Type 0} where
  abbrev apart : Outcome A → (A × ℕ) ⊎ (ℕ × ℕ)
  apart (got a n) = inl (a, n)
  apart (refused q n) = inr (q, n)

  abbrev whole_of : (A × ℕ) ⊎ (ℕ × ℕ) → Outcome A
  whole_of (inl p) = got p.0 p.1
  whole_of (inr p) = refused p.0 p.1

  back : (o : Outcome A) → whole_of (apart o) ≡ o
  back (got a n) = refl
  back (refused q n) = refl

  outcome_coded : Coded A → Coded (Outcome A)
  outcome_coded c = code_by ((A × ℕ) ⊎ (ℕ × ℕ)) (coded⊎ (coded× c coded_ℕ) (coded× coded_ℕ coded_ℕ)) apart whole_of back

manifest_coded : Coded (Outcome (El manifest))
manifest_coded = outcome_coded (el_coded manifest)

pub Laid-prop : (s words : List ℕ) → IsProp (Laid s words)
Laid-prop s words = Prim.hlevel (codes, manifest_coded)
