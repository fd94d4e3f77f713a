-- What a reading answers: a format's reading as an equation, step by step.
use Prim.Native.Nat.{ℕ, ◌-◌, ◌≤◌, ◌<◌}
use native.Mathlib.Omega.{arith}
use mathlib.Core.Path.{◌≡◌, refl, sym}
use mathlib.Core.List.{List, []}
use Rattle.std.specs.Prelude.{Ok, Err}
use Rattle.state.specs.Outcome.{Outcome, got, refused, bind, step_of, field_of, step_of_field, Stepped, NumberRead}
use Rattle.state.proofs.Outcome.{step_keeps, step-of-field}
use Rattle.state.specs.Bytes.{number_of}
use Rattle.state_wire.specs.Fields.{read_span, read_number, read_tag, bounded_count, read_count, read_text}
use Rattle.state_wire.proofs.Fields.{tag_below}
use Rattle.format.specs.Format.{Rule, Fmt, done, number, tag, text, tagged, list, read, scan, scan_entries}
use Rattle.format.proofs.Steps.{scan-then}

-- what follows a number that was read
abbrev pub chosen : NumberRead → (ℕ → ℕ → Stepped) → Stepped
chosen (Ok f) k = k f.0 f.1
chosen (Err e) k = Err e

pub step-chosen : {A : Type 0} (o : Outcome ℕ) (f : ℕ → ℕ → Outcome A) (k : ℕ → ℕ → Stepped) → ((t m : ℕ) → step_of (f t m) ≡ k t m) → step_of (bind o f) ≡ chosen (field_of o) k
step-chosen (got t m) f k h = h t m
step-chosen (refused q p) f k h = refl

-- the same where a number follows
abbrev pub numbered_on : NumberRead → (ℕ → ℕ → NumberRead) → NumberRead
numbered_on (Ok f) k = k f.0 f.1
numbered_on (Err e) k = Err e

field-on : (o : Outcome ℕ) (f : ℕ → ℕ → Outcome ℕ) → field_of (bind o f) ≡ numbered_on (field_of o) (λ t m. field_of (f t m))
field-on (got t m) f = refl
field-on (refused q p) f = refl

pub count_is : (w l : ℕ) (s : List ℕ) (at : ℕ) → field_of (read_count w l s at) ≡ numbered_on (field_of (read_number w s at)) (λ n m. field_of (bounded_count l s n m))
unfolding read_count
count_is w l s at = field-on (read_number w s at) (bounded_count l s)

module _ (limit : ℕ) (s : List ℕ) (at : ℕ) where
  pub done_is : scan limit done s at ≡ Ok at
  unfolding scan read
  done_is = refl

  pub number_is : (w : ℕ) → scan limit (number w) s at ≡ step_of (read_span w s at)
  unfolding scan read read_number
  number_is w = step_keeps (read_span w s at) number_of

  pub tag_is : (k : ℕ) → scan limit (tag k) s at ≡ step_of_field (field_of (read_tag k s at))
  unfolding scan read
  tag_is k = sym (step-of-field (read_tag k s at))

  pub text_is : scan limit text s at ≡ step_of (read_text limit s at)
  unfolding scan read
  text_is = refl

  pub tagged_is : (k : ℕ) (f : ℕ → Fmt) → scan limit (tagged k f) s at ≡ chosen (field_of (read_tag k s at)) (λ t m. scan limit (f t) s m)
  unfolding scan read
  tagged_is k f = step-chosen (read_tag k s at) _ (λ t m. scan limit (f t) s m) (λ t m. step_keeps (read limit (f t) s m) (λ v. (t, v)))

  pub list_is : (w l : ℕ) (u : Rule) (k r : Fmt) → scan limit (list w l u k r) s at ≡ chosen (field_of (read_count w l s at)) (λ n m. scan_entries limit u k r s n m [])
  unfolding scan scan_entries read
  list_is w l u k r = step-chosen (read_count w l s at) _ (λ n m. scan_entries limit u k r s n m []) (λ n m. refl)

-- the tag that was read, 0 where none was
abbrev pub tag_of : NumberRead → ℕ
tag_of (Ok f) = f.0
tag_of (Err e) = 0

-- it is one of those known
pub tag-known : (k : ℕ) (s : List ℕ) (at : ℕ) → (field_of (read_tag k s at) ≡ field_of (read_tag k s at)) × (tag_of (field_of (read_tag k s at)) ≤ k - 1)
tag-known k s at = (refl, go (field_of (read_tag k s at)) refl)
  where
    go : (f : NumberRead) → field_of (read_tag k s at) ≡ f → tag_of f ≤ k - 1
    go (Ok f) e = let b : f.0 < k = tag_below k s at refl e in omega arith
    go (Err d) e = omega arith

pub ruleset reads = (scan-then, done_is, number_is, tag_is, text_is, tagged_is, tag-known, count_is, list_is)
