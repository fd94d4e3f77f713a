-- Where a reading ends, whatever the bytes are: the least bytes of its format after its start or later, and within the list.
use Prim.Native.Nat.{ℕ, zero, suc, ◌+◌, ◌*◌, ◌-◌, ◌≤◌, ◌<◌, min}
use native.Mathlib.Omega.{arith}
use native.Mathlib.Nat.{mul-le-mul_right, mul-suc, min-le_left, min-le_right, le_trans}
use native.Mathlib.Decide.{ℕ_discrete}
use mathlib.Core.Path.{◌≡◌, refl, sym, ap, ◌∙◌, subst}
use mathlib.Core.List.{List, []}
use lib.ListN.{length}
use lib.Dec.{ltb, leb}
use borrow.Author.Tests.{ltb-true}
use Rattle.std.specs.Prelude.{Ok}
use Rattle.state.specs.Bytes.{span, number_of}
use Rattle.state.specs.Outcome.{Outcome, got, bind, Stepped}
use Rattle.state.proofs.Outcome.{Yields, this, yielded, yields-so, yields-ask, yields-bind, step-yields}
use Rattle.state_wire.specs.Fields.{read_tag, bounded_count, read_count}
use Rattle.state_wire.proofs.Fields.{yields-number, yields-text}
use Rattle.format.specs.Format.{Rule, Fmt, done, number, tag, text, tagged, ◌then◌, list, El, entries, read, scan, kept, after_key, after_entry, after_all, from}
use Rattle.format.specs.Least.{fewest, least}

-- the fewest is at most each of them
pub fewest-le : (f : ℕ → ℕ) (k t : ℕ) → t < k → fewest f k ≤ f t
fewest-le f zero t h = absurd (omega arith)
fewest-le f (suc zero) t h = let e : 0 ≡ t = omega arith in subst (λ (x : ℕ). f 0 ≤ f x) e (omega arith)
fewest-le f (suc (suc k)) t h = go (ℕ_discrete t (suc k)) (λ h'. fewest-le f (suc k) t h')
  where
    go : Dec (t ≡ suc k) → (t < suc k → fewest f (suc k) ≤ f t) → min (f (suc k)) (fewest f (suc k)) ≤ f t
    go (yes e) r = subst (λ (x : ℕ). min (f (suc k)) (fewest f (suc k)) ≤ f x) (sym e) (min-le_left _ _)
    go (no n) r = le_trans (min-le_right _ _) (r (omega (arith, n)))

module _ (s : List ℕ) where
  -- n bytes after at or later, within s
  abbrev Ahead : {A : Type 0} → (at n : ℕ) → A → ℕ → Type 0
  Ahead at n v m = (at + n ≤ m) × (m ≤ length s)

  yields-tag : (k at : ℕ) → Yields (λ t m. (t < k) × (at + 1 ≤ m) × (m ≤ length s)) (read_tag k s at)
  unfolding read_tag
  yields-tag k at = yields-bind (yields-number 1 s at) λ t m p. yields-ask (ltb t k) _ _ λ e. this (ltb-true _ _ e, omega arith, p.1)

  pub yields-count : (w l at : ℕ) → Yields (λ n m. (n ≡ number_of (span s at (at + w))) × (m ≡ at + w) × (m ≤ length s)) (read_count w l s at)
  unfolding read_count bounded_count
  yields-count w l at = yields-bind (yields-number w s at) λ n m p. yields-ask (leb (n * l) (length s - m)) _ _ λ e.
      this (p.2 ∙ ap (λ (x : ℕ). number_of (span s at x)) p.0, p.0, p.1)

  module _ {K R : Type 0} (u : Rule) (key : List ℕ → ℕ → Outcome K) (rest : List ℕ → ℕ → Outcome R) (a b : ℕ)
      (ak : (at : ℕ) → at ≤ length s → Yields (Ahead at a) (key s at)) (ar : (at : ℕ) → at ≤ length s → Yields (Ahead at b) (rest s at)) where
    yields-entries : (n at : ℕ) → at ≤ length s → (ks : List (List ℕ)) → Yields (λ vs z. (length vs ≡ n) × (at + (a + b) * n ≤ z) × (z ≤ length s)) (entries u key rest s n at ks)
    yields-entries zero at h ks = yields-ask (after_all u ks) _ _ λ e. this (refl, omega arith, h)
    yields-entries (suc n) at h ks =
        yields-bind (ak at h) λ k m pk.
        yields-ask (after_key u (span s (from u at) m) ks) _ _ λ e1.
        yields-bind (ar m pk.1) λ r e pr.
        yields-ask (after_entry u (span s (from u at) m) ks) _ _ λ e2.
        yields-bind (yields-entries n e pr.1 (kept u (span s (from u at) m) ks)) λ vs z p.
        this (ap suc p.0, rw (mul-suc (a + b) n) (omega arith), p.2)

    yields-list : (w l at : ℕ) → Yields (λ vs z. (length vs ≡ number_of (span s at (at + w))) × (at + w + (a + b) * length vs ≤ z) × (z ≤ length s)) (bind (read_count w l s at) (λ n m. entries u key rest s n m []))
    yields-list w l at =
        yields-bind (yields-count w l at) λ n m p.
        yields-so (yields-entries n m p.2 []) λ vs z q. (q.0 ∙ p.0, rw (q.0, ← p.1) q.1, q.2)

module _ (limit : ℕ) (s : List ℕ) where
  -- what was read ends at or after its start plus the least bytes of its format, and within the list
  pub ahead : (f : Fmt) (at : ℕ) → at ≤ length s → Yields (λ v m. (at + least f ≤ m) × (m ≤ length s)) (read limit f s at)
  unfolding read least
  ahead done at h = this {n = at} (omega arith, h)
  ahead (number w) at h = yields-so (yields-number w s at) λ v m p. (omega arith, p.1)
  ahead (tag k) at h = yields-so (yields-tag s k at) λ t m p. (p.1, p.2)
  ahead text at h = yields-so (yields-text limit s at) λ v m p. (p.0, p.1)
  ahead (tagged k f) at h =
      yields-bind (yields-tag s k at) λ t m p.
      yields-bind (ahead (f t) m p.2) λ v n q.
      this (omega (arith, fewest-le (λ t. least (f t)) k t p.0), q.1)
  ahead (a then b) at h =
      yields-bind (ahead a at h) λ v m p. yields-bind (ahead b m p.1) λ w n q. this (omega arith, q.1)
  ahead (list w l u k r) at h =
      yields-so (yields-list s u (read limit k) (read limit r) (least k) (least r) (ahead k) (ahead r) w l at) λ vs z q. (omega arith, q.2)

  -- the same of code that walks over the bytes
  pub next-within : (f : Fmt) (at : ℕ) {r : Stepped} {n : ℕ} → at ≤ length s → r ≡ scan limit f s at → r ≡ Ok n → (at + least f ≤ n) × (n ≤ length s)
  unfolding scan
  next-within f at h e i = (step-yields (ahead f at h) e i).2

  module _ (w l : ℕ) (u : Rule) (k r : Fmt) (at : ℕ) {vs : List (El k × El r)} {n : ℕ} (e : read limit (list w l u k r) s at ≡ got vs n) where
    list-ends : (length vs ≡ number_of (span s at (at + w))) × (at + w + (least k + least r) * length vs ≤ n) × (n ≤ length s)
    unfolding read
    list-ends = yielded (subst (Yields _) e (yields-list s u (read limit k) (read limit r) (least k) (least r) (ahead k) (ahead r) w l at))

    -- the entries of a list that was read take their least bytes each
    pub list-takes : (c : ℕ) → c ≤ least k + least r → at + w + c * length vs ≤ n
    list-takes c h = omega (arith, list-ends.1, mul-le-mul_right (length vs) h)

    -- and are as many as its count says
    pub list_counts : length vs ≡ number_of (span s at (at + w))
    list_counts = list-ends.0
