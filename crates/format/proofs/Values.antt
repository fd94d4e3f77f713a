-- What `past` and `value_at` are where bytes were read.
use Prim.Native.Nat.{ℕ, zero, suc, ◌+◌, ◌<◌, ◌≤◌, min}
use native.Mathlib.Omega.{arith}
use native.Mathlib.Nat.{min-eq_left}
use mathlib.Core.Path.{◌≡◌, refl, sym, ap, ◌∙◌, subst}
use mathlib.Core.List.{List, []}
use lib.ListN.{length, get_or}
use lib.Dec.{ltb, leb, eqb}
use borrow.Author.Tests.{ltb-true, le-leb}
use Rattle.state.specs.Bytes.{AreBytes, span, number_of}
use Rattle.state.specs.Outcome.{Outcome, got, refused}
use Rattle.state.proofs.Bytes.{number-one}
use Rattle.state.proofs.Outcome.{Yields, this, nothing, yielded, yields-so, yields-ask, yields-bind}
use Rattle.utf8.specs.Valid.{valid_up_to}
use Rattle.state_wire.specs.Fields.{read_tag, read_text}
use Rattle.state_wire.proofs.Fields.{yields-number, yields-span}
use Rattle.format.specs.Format.{Rule, Fmt, done, number, tag, text, tagged, ◌then◌, list, El, entries, read, encode, kept, after_key, after_entry, after_all, from}
use Rattle.format.specs.Admits.{shown}
use Rattle.format.specs.Manifest.{Section}
use Rattle.format.specs.Places.{count_at, number_at, skip, past, key_at}
use Rattle.format.specs.Values.{values_at, value_at, Well, WellEach}
use Rattle.format.proofs.Sound.{part-shown, read-sound}
use Rattle.format.proofs.Bounds.{yields-count, ahead}

-- so many values are so many
pub values_length : {K R : Type 0} (key : ℕ → K) (rest : ℕ → R) (key_end rest_end : ℕ → ℕ) (n at : ℕ) → length (values_at key rest key_end rest_end n at) ≡ n
values_length key rest key_end rest_end zero at = refl
values_length key rest key_end rest_end (suc n) at = ap suc (values_length key rest key_end rest_end n (rest_end (key_end at)))

pub self : {A : Type 0} (o : Outcome A) → Yields (λ v n. o ≡ got v n) o
self (got v n) = this refl
self (refused q p) = nothing

module _ (limit : ℕ) (s : List ℕ) where
  tag-got : (k at : ℕ) → Yields (λ t m. (min (at + 1) (length s) ≡ m) × (get_or s at 0 ≡ t)) (read_tag k s at)
  unfolding read_tag
  tag-got k at = yields-bind (yields-number 1 s at) λ t m p. yields-ask (ltb t k) _ _ λ e.
      let h : at + 1 ≤ length s = rw (← p.0) p.1 in
      this (min-eq_left h ∙ sym p.0, number-one s at h ∙ ap (λ (x : ℕ). number_of (span s at x)) (sym p.0) ∙ sym p.2)

  text-got : (at : ℕ) → Yields (λ v m. (min (at + 4 + count_at s at) (length s) ≡ m) × (span s (at + 4) m ≡ v)) (read_text limit s at)
  unfolding read_text
  text-got at = yields-bind (yields-number 4 s at) λ n start p.
      yields-ask (leb n limit) _ _ λ e1.
      yields-bind (yields-span n s start) λ bs m q.
      yields-ask (eqb (valid_up_to bs) n) _ _ λ e2.
      let c : count_at s at ≡ n = sym (p.2 ∙ ap (λ (x : ℕ). number_of (span s at x)) p.0) in
      let e : at + 4 + count_at s at ≡ m = omega (arith, c, p.0, q.0) in
      this (ap (λ (x : ℕ). min x (length s)) e ∙ min-eq_left q.1, ap (λ (x : ℕ). span s x m) (sym p.0) ∙ sym q.2)

  module _ (u : Rule) (k r : Fmt)
      (key : (at : ℕ) → Yields (λ v m. (past k s at ≡ m) × (value_at k s at ≡ v)) (read limit k s at))
      (rest : (at : ℕ) → Yields (λ v m. (past r s at ≡ m) × (value_at r s at ≡ v)) (read limit r s at)) where
    values-got : (n at : ℕ) (ks : List (List ℕ)) → Yields (λ vs z. (skip (past k s) (past r s) n at ≡ z) × (values_at (value_at k s) (value_at r s) (past k s) (past r s) n at ≡ vs)) (entries u (read limit k) (read limit r) s n at ks)
    values-got zero at ks = yields-ask (after_all u ks) _ _ λ _. this (refl, refl)
    values-got (suc n) at ks =
        yields-bind (key at) λ kv m p.
        yields-ask (after_key u (span s (from u at) m) ks) _ _ λ _.
        yields-bind (rest m) λ rv z q.
        yields-ask (after_entry u (span s (from u at) m) ks) _ _ λ _.
        yields-bind (values-got n z (kept u (span s (from u at) m) ks)) λ vs y t.
        this (rw (p.0, q.0) t.0, rw (p.0, p.1, q.0, q.1, t.1))

  -- where a value was read, `past` is where it ends and `value_at` the value
  pub value-got : (f : Fmt) (at : ℕ) → Yields (λ v m. (past f s at ≡ m) × (value_at f s at ≡ v)) (read limit f s at)
  unfolding read past value_at number_at
  value-got done at = this (refl, refl)
  value-got (number w) at = yields-so (yields-number w s at) λ v m p.
      let h : at + w ≤ length s = rw (← p.0) p.1 in
      (min-eq_left h ∙ sym p.0, rw (le-leb (at + w) (length s) h) (ap (λ (x : ℕ). number_of (span s at x)) (sym p.0) ∙ sym p.2))
  value-got (tag k) at = tag-got k at
  value-got text at = yields-so (text-got at) λ v m p. (p.0, ap (span s (at + 4)) p.0 ∙ p.1)
  value-got (tagged k f) at =
      yields-bind (tag-got k at) λ t m p.
      yields-bind (value-got (f t) m) λ v n q.
      this (rw (p.1, p.0) q.0, rw (p.1, p.0, q.1))
  value-got (a then b) at =
      yields-bind (value-got a at) λ v m p.
      yields-bind (value-got b m) λ w n q.
      this (rw p.0 q.0, rw (p.0, p.1, q.1))
  value-got (list w l u k r) at =
      yields-bind (yields-count s w l at) λ n m p.
      yields-so (values-got u k r (value-got k) (value-got r) n m []) λ vs z q.
      let h : at + w ≤ length s = rw (← p.1) p.2 in
      let e : min (at + w) (length s) ≡ m = min-eq_left h ∙ sym p.1 in
      rw (le-leb (at + w) (length s) h, ← p.0, e) q

  -- ---- what was read
  -- bytes that were read spell what they were read as, to its end
  pub spells : (f : Fmt) (at : ℕ) {v : El f} {n : ℕ} → read limit f s at ≡ got v n → (past f s at ≡ n) × (value_at f s at ≡ v)
  spells f at e = yielded (subst (Yields (λ v m. (past f s at ≡ m) × (value_at f s at ≡ v))) e (value-got f at))

  pub well : (f : Fmt) (at : ℕ) {v : El f} {n : ℕ} → at ≤ length s → read limit f s at ≡ got v n → Well limit f s at
  well f at h e =
      let p = spells f at e in
      record { here = h; reads = rw (p.0, p.1) e }

  -- it ends within the bytes
  pub well-past : (f : Fmt) (at : ℕ) → Well limit f s at → past f s at ≤ length s
  well-past f at h = (yielded (subst (Yields _) h.reads (ahead limit s f at h.here))).1

  pub well-then : (a b : Fmt) (at : ℕ) → Well limit (a then b) s at → Well limit a s at × Well limit b s (past a s at)
  unfolding read
  well-then a b at h = yielded (subst (Yields (λ _ _. Well limit a s at × Well limit b s (past a s at))) h.reads
      (yields-bind (self (read limit a s at)) λ v m ev.
      yields-bind (self (read limit b s m)) λ w n ew.
      let p = spells a at ev in
      let first : Well limit a s at = well a at h.here ev in
      let e : read limit b s (past a s at) ≡ got w n = rw p.0 ew in
      this (first, well b (past a s at) (well-past a at first) e)))

  -- a tag that is known, and then what it chooses
  pub well-tagged : (k : ℕ) (f : ℕ → Fmt) (at : ℕ) → Well limit (tagged k f) s at → (get_or s at 0 < k) × (at < length s) × Well limit (f (get_or s at 0)) s (at + 1)
  unfolding read read_tag
  well-tagged k f at h = yielded (subst (Yields (λ _ _. (get_or s at 0 < k) × (at < length s) × Well limit (f (get_or s at 0)) s (at + 1))) h.reads
      (yields-bind (tag-known k at) λ t m p.
      yields-bind (self (read limit (f t) s m)) λ v n ev.
      let l : at + 1 ≤ length s = rw (← p.0) p.3 in
      this (rw p.1 p.2, omega arith, rw (p.1, ← p.0) (well (f t) m p.3 ev))))
    where
      tag-known : (k at : ℕ) → Yields (λ t m. (m ≡ at + 1) × (get_or s at 0 ≡ t) × (t < k) × (m ≤ length s)) (read_tag k s at)
      tag-known k at = yields-bind (yields-number 1 s at) λ t m p. yields-ask (ltb t k) _ _ λ e.
          let h : at + 1 ≤ length s = rw (← p.0) p.1 in
          this (p.0, number-one s at h ∙ ap (λ (x : ℕ). number_of (span s at x)) (sym p.0) ∙ sym p.2, ltb-true t k e, p.1)

  module _ (u : Rule) (k r : Fmt) where
    each-got : (n at : ℕ) → at ≤ length s → (ks : List (List ℕ)) → Yields (λ _ _. WellEach limit (k then r) s n at) (entries u (read limit k) (read limit r) s n at ks)
    unfolding read
    each-got zero at h ks = yields-ask (after_all u ks) _ _ λ _. this tt
    each-got (suc n) at h ks =
        yields-bind (self (read limit k s at)) λ kv m ek.
        yields-ask (after_key u (span s (from u at) m) ks) _ _ λ _.
        yields-bind (self (read limit r s m)) λ rv z er.
        yields-ask (after_entry u (span s (from u at) m) ks) _ _ λ _.
        let e : read limit (k then r) s at ≡ got (kv, rv) z = rw (ek, er) in
        let here : Well limit (k then r) s at = well (k then r) at h e in
        let p = spells (k then r) at e in
        yields-bind (each-got n z (rw (← p.0) (well-past (k then r) at here)) (kept u (span s (from u at) m) ks)) λ vs y t.
        this (here, rw p.0 t)

    -- the entries of a list
    pub well-list : (w l at : ℕ) → Well limit (list w l u k r) s at → (at + w ≤ length s) × WellEach limit (k then r) s (number_at w s at) (at + w)
    unfolding read number_at
    well-list w l at h = yielded (subst (Yields (λ _ _. (at + w ≤ length s) × WellEach limit (k then r) s (number_at w s at) (at + w))) h.reads
        (yields-bind (yields-count s w l at) λ n m p.
        yields-so (each-got n m p.2 []) λ vs z q.
        let f : at + w ≤ length s = rw (← p.1) p.2 in
        (f, rw (le-leb (at + w) (length s) f, ← p.0, ← p.1) q)))

  -- what was read stands there as it is written
  pub written : AreBytes s → (f : Fmt) (at : ℕ) → Well limit f s at → encode f (value_at f s at) ≡ span s at (past f s at)
  written b f at h = sym (read-sound limit s b f at (value_at f s at) (past f s at) h.here h.reads).part.is

  -- and so do the ranked bytes of a key
  pub key-written : AreBytes s → (e : Section) (at : ℕ) → Well limit e.key s at → key_at e s at ≡ shown e.rule (encode e.key (value_at e.key s at))
  unfolding key_at
  key-written b e at h = part-shown e.rule (read-sound limit s b e.key at (value_at e.key s at) (past e.key s at) h.here h.reads).part
