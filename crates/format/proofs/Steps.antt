-- What the code that walks over the bytes cites: a format's reading with the value forgotten, from what its callees answered.
use Prim.Native.Nat.{ℕ}
use mathlib.Core.Path.{◌≡◌, refl, sym, ap, ◌∙◌}
use mathlib.Core.List.{List}
use Rattle.state.specs.declared.Refusal.{Refusal}
use Rattle.std.specs.Prelude.{Err, Ok}
use Rattle.state.specs.Outcome.{got, step_of, field_of, step_of_field, Stepped, NumberRead}
use Rattle.state.proofs.Outcome.{value-got, value-refused, onward, step-bind, step_keeps, step-of-field}
use Rattle.state_wire.proofs.Fields.{tag_below}
use native.Mathlib.Omega.{arith}
use Rattle.state_wire.specs.Fields.{read_span, read_number, read_tag, read_text}
use Rattle.state.specs.Bytes.{number_of}
use Rattle.format.specs.Format.{Fmt, done, number, tag, text, tagged, ◌then◌, read, scan}

module _ (limit : ℕ) (s : List ℕ) (at : ℕ) where
  pub scan-then : (a b : Fmt) → scan limit (a then b) s at ≡ onward (scan limit a s at) (λ m. scan limit b s m)
  unfolding scan read
  scan-then a b = step-bind (read limit a s at) (λ m. step_of (read limit b s m)) _ (λ v m. step_keeps (read limit b s m) (λ w. (v, w)))

  pub scan-tagged : (k : ℕ) (f : ℕ → Fmt) (t m : ℕ) → read_tag k s at ≡ got t m → scan limit (tagged k f) s at ≡ scan limit (f t) s m
  unfolding scan read
  scan-tagged k f t m e = rw e (step_keeps (read limit (f t) s m) (λ v. (t, v)))

-- ---- one format after another
module _ (limit : ℕ) (s : List ℕ) (at : ℕ) where
  pub then-on : (a b : Fmt) {x r : Stepped} {m : ℕ} → x ≡ scan limit a s at → x ≡ Ok m → r ≡ scan limit b s m → r ≡ scan limit (a then b) s at
  then-on a b e h i = i ∙ sym (rw (scan-then limit s at a b, ← e, h))

  pub then-stop : (a b : Fmt) {r : Stepped} {d : Refusal ℕ} → r ≡ scan limit a s at → r ≡ Err d → r ≡ scan limit (a then b) s at
  then-stop a b e h = h ∙ sym (rw (scan-then limit s at a b, ← e, h))

  -- ---- a tag, and what it chooses
  pub tagged-on : (k : ℕ) (f : ℕ → Fmt) {g : NumberRead} {r : Stepped} {t m : ℕ} (c : ℕ) → g ≡ field_of (read_tag k s at) → g ≡ Ok (t, m) → t ≡ c → r ≡ scan limit (f c) s m → r ≡ scan limit (tagged k f) s at
  tagged-on k f {m = m} c e h q i = i ∙ sym (scan-tagged limit s at k f c m (value-got (read_tag k s at) e (h ∙ ap (λ x. Ok (x, m)) q)))

  pub tagged-stop : (k : ℕ) (f : ℕ → Fmt) {g : NumberRead} {r : Stepped} {d : Refusal ℕ} → g ≡ field_of (read_tag k s at) → g ≡ Err d → r ≡ step_of_field g → r ≡ scan limit (tagged k f) s at
  unfolding scan read
  tagged-stop k f e h i = i ∙ ap step_of_field h ∙ rw (value-refused (read_tag k s at) e h)

  -- the second of two
  pub tagged-second : (f : ℕ → Fmt) {g : NumberRead} {r : Stepped} {t m : ℕ} → g ≡ field_of (read_tag 2 s at) → g ≡ Ok (t, m) → (t ≡ 0 → ⊥) → r ≡ scan limit (f 1) s m → r ≡ scan limit (tagged 2 f) s at
  tagged-second f {t = t} e h n i = let b = tag_below 2 s at e h in let one : t ≡ 1 = omega (arith, n) in tagged-on 2 f 1 e h one i

  -- ---- fields passed over
  pub done-step : Ok at ≡ scan limit done s at
  unfolding scan read
  done-step = refl

  -- a number, by its bytes alone
  pub taken_step : (w : ℕ) {r : Stepped} → r ≡ step_of (read_span w s at) → r ≡ scan limit (number w) s at
  unfolding scan read read_number
  taken_step w e = e ∙ sym (step_keeps (read_span w s at) number_of)

  pub number_step : (w : ℕ) {g : NumberRead} {r : Stepped} → g ≡ field_of (read_number w s at) → r ≡ step_of_field g → r ≡ scan limit (number w) s at
  unfolding scan read
  number_step w e i = i ∙ ap step_of_field e ∙ step-of-field (read_number w s at)

  pub tag-step : (k : ℕ) {g : NumberRead} {r : Stepped} → g ≡ field_of (read_tag k s at) → r ≡ step_of_field g → r ≡ scan limit (tag k) s at
  unfolding scan read
  tag-step k e i = i ∙ ap step_of_field e ∙ step-of-field (read_tag k s at)

  pub text-step : {r : Stepped} → r ≡ step_of (read_text limit s at) → r ≡ scan limit text s at
  unfolding scan read
  text-step e = e

pub ruleset steps = (then-on, then-stop, tagged-on, tagged-stop, tagged-second, done-step, taken_step, number_step, tag-step, text-step)
