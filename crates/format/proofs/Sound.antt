-- What is read stands in the bytes as it is written, and the format admits it.
use Prim.Native.Nat.{ℕ, zero, suc, ◌*◌, ◌-◌, ◌^◌, ◌≤◌, ◌<◌}
use native.Mathlib.Omega.{arith}
use native.Mathlib.Decide.{dec_le}
use mathlib.Core.Path.{◌≡◌, refl, sym, ap, ◌∙◌, subst}
use mathlib.Core.Bool.{true, ◌&&◌}
use mathlib.Core.List.{List, [], ◌∷◌, ◌++◌, map}
use lib.ListN.{length, drop}
use lib.Dec.{ltb, leb, eqb}
use borrow.Author.Tests.{leb-true, ltb-true, eqb-true}
use Rattle.state.specs.Bytes.{AreBytes, span, bytes_of}
use Rattle.state.specs.Outcome.{Outcome, got}
use Rattle.state.proofs.Bytes.{Part, span-length, span-drop, part-here, part-nil, part_join, bytes-span, number-bytes, number-below}
use Rattle.state.proofs.Outcome.{Yields, this, always, yielded, yields-so, yields-ask, yields-bind}
use Rattle.utf8.specs.Valid.{valid_up_to}
use Rattle.state_wire.specs.Fields.{read_number, read_tag, bounded_count, read_count, read_text}
use Rattle.state_wire.proofs.Fields.{yields-number, yields-span}
use Rattle.format.specs.Format.{wire, plain, Rule, free, distinct, early, late, Fmt, done, number, tag, text, tagged, ◌then◌, list, El, entries, read, each, encode, kept, after_key, after_entry, after_all, from}
use Rattle.format.specs.Admits.{shown, in_order, All, Holds}

-- the ranked bytes of a key that stands in the list are those of the key
pub part-shown : {s : List ℕ} {a b : ℕ} {x : List ℕ} (u : Rule) → Part s a b x → span s (from u a) b ≡ shown u x
part-shown free p = p.is
part-shown (distinct wire) p = p.is
part-shown (early wire) p = p.is
part-shown (late wire) p = p.is
part-shown {s} {a} {b} (distinct plain) p = span-drop s 4 a b ∙ ap (drop 4) p.is
part-shown {s} {a} {b} (early plain) p = span-drop s 4 a b ∙ ap (drop 4) p.is
part-shown {s} {a} {b} (late plain) p = span-drop s 4 a b ∙ ap (drop 4) p.is

-- x stands there, and H holds
pub record Stands (s : List ℕ) (a b : ℕ) (x : List ℕ) (H : Type 0) : Type 0 where
  pub part : Part s a b x
  pub holds : H

module _ (limit : ℕ) (s : List ℕ) (bytes : AreBytes s) where
  abbrev IsNumber : ℕ → ℕ → ℕ → ℕ → Type 0
  IsNumber w at n m = Stands s at m (bytes_of w n) (n < 256 ^ w)

  sound-number : (w at : ℕ) → Yields (IsNumber w at) (read_number w s at)
  sound-number w at = yields-so (yields-number w s at) λ n m p.
      let l : length (span s at m) ≡ w = span-length s at m (omega arith) p.1 ∙ omega arith in
      let b = bytes-span s at m bytes in
      record {
        part = subst (λ (x : List ℕ). Part s at m x) (sym (rw (p.2, ← l) (number-bytes (span s at m) b))) (part-here s at m (omega arith) p.1);
        holds = rw (p.2, ← l) (number-below (span s at m) b);
      }

  sound-tag : (k at : ℕ) → Yields (λ t m. Stands s at m (t ∷ []) ((t < k) × (t < 256))) (read_tag k s at)
  unfolding read_tag bytes_of
  sound-tag k at = yields-bind (sound-number 1 at) λ t m p. yields-ask (ltb t k) _ _ λ e.
      let h : t < 256 = p.holds in
      this (record { part = subst (λ (x : ℕ). Part s at m (x ∷ [])) (omega arith) p.part; holds = (ltb-true _ _ e, h) })

  sound-count : (w l at : ℕ) → Yields (IsNumber w at) (read_count w l s at)
  unfolding read_count bounded_count
  sound-count w l at = yields-bind (sound-number w at) λ n m p. yields-ask (leb (n * l) (length s - m)) _ _ λ e. this p

  sound-text : (at : ℕ) → Yields (λ v m. Stands s at m (encode text v) (Holds limit text v)) (read_text limit s at)
  unfolding encode Holds read_text
  sound-text at = yields-bind (sound-number 4 at) λ n start p.
      yields-ask (leb n limit) _ _ λ e1.
      yields-bind (yields-span n s start) λ bs m q.
      yields-ask (eqb (valid_up_to bs) n) _ _ λ e2.
      let b = part-here s start m (omega arith) q.1 in
      let ln : length bs ≡ n = ap length q.2 ∙ span-length s start m (omega arith) q.1 ∙ omega arith in
      this (record {
        part = part_join s (subst (λ (k : ℕ). Part s at start (bytes_of 4 k)) (sym ln) p.part) (subst (λ (x : List ℕ). Part s start m x) (sym q.2) b);
        holds = (subst AreBytes (sym q.2) (bytes-span s start m bytes), rw ln (leb-true _ _ e1), rw ln p.holds, eqb-true _ _ e2 ∙ sym ln);
      })

  module _ {K R : Type 0} (u : Rule) (key : List ℕ → ℕ → Outcome K) (rest : List ℕ → ℕ → Outcome R)
      (ek : K → List ℕ) (er : R → List ℕ) (HK : K → Type 0) (HR : R → Type 0)
      (sk : (at : ℕ) → at ≤ length s → Yields (λ v m. Stands s at m (ek v) (HK v)) (key s at))
      (sr : (at : ℕ) → at ≤ length s → Yields (λ v m. Stands s at m (er v) (HR v)) (rest s at)) where
    abbrev AreEntries : ℕ → ℕ → List (List ℕ) → List (K × R) → ℕ → Type 0
    AreEntries n at ks vs z = Stands s at z (each (λ e. ek e.0 ++ er e.1) vs)
        ((length vs ≡ n) × All (λ e. HK e.0 × HR e.1) vs × (in_order u (map (λ e. shown u (ek e.0)) vs) ks ≡ true))

    sound-entries : (n at : ℕ) → at ≤ length s → (ks : List (List ℕ)) → Yields (AreEntries n at ks) (entries u key rest s n at ks)
    unfolding in_order
    sound-entries zero at h ks = yields-ask (after_all u ks) _ _ λ e. this (record { part = part-nil s at h; holds = (refl, tt, e) })
    sound-entries (suc n) at h ks =
        yields-bind (sk at h) λ k m pk.
        yields-ask (after_key u (span s (from u at) m) ks) _ _ λ e1.
        yields-bind (sr m pk.part.within) λ r e pr.
        yields-ask (after_entry u (span s (from u at) m) ks) _ _ λ e2.
        yields-bind (sound-entries n e pr.part.within (kept u (span s (from u at) m) ks)) λ vs z p.
        this (record {
          part = part_join s (part_join s pk.part pr.part) p.part;
          holds = (
            ap suc p.holds.0,
            ((pk.holds, pr.holds), p.holds.1),
            subst (λ (x : List ℕ). (after_key u x ks && (after_entry u x ks && in_order u (map (λ e. shown u (ek e.0)) vs) (kept u x ks))) ≡ true) (part-shown u pk.part)
                (rw (e1, e2) p.holds.2),
          );
        })

  pub sound : (f : Fmt) (at : ℕ) → at ≤ length s → Yields (λ v m. Stands s at m (encode f v) (Holds limit f v)) (read limit f s at)
  unfolding read encode Holds
  sound done at h = this (record { part = part-nil s at h; holds = tt })
  sound (number w) at h = sound-number w at
  sound (tag k) at h = sound-tag k at
  sound text at h = sound-text at
  sound (tagged k f) at h =
      yields-bind (sound-tag k at) λ t m p.
      yields-bind (sound (f t) m p.part.within) λ v n q.
      this (record { part = part_join s p.part q.part; holds = (p.holds.0, p.holds.1, q.holds) })
  sound (a then b) at h =
      yields-bind (sound a at h) λ v m p.
      yields-bind (sound b m p.part.within) λ w n q.
      this (record { part = part_join s p.part q.part; holds = (p.holds, q.holds) })
  sound (list w l u k r) at h =
      yields-bind (sound-count w l at) λ n m p.
      yields-so (sound-entries u (read limit k) (read limit r) (encode k) (encode r) (Holds limit k) (Holds limit r) (sound k) (sound r) n m p.part.within []) λ vs z q.
      record {
        part = part_join s (subst (λ (x : ℕ). Part s at m (bytes_of w x)) (sym q.holds.0) p.part) q.part;
        holds = (subst (λ (x : ℕ). x < 256 ^ w) (sym q.holds.0) p.holds, q.holds.1, q.holds.2);
      }

  -- what was read stands in the bytes from at up to n as it is written, and is a value that the format admits
  pub read-sound : (f : Fmt) (at : ℕ) (v : El f) (n : ℕ) → at ≤ length s → read limit f s at ≡ got v n → Stands s at n (encode f v) (Holds limit f v)
  read-sound f at v n h e = yielded (subst (λ (o : Outcome (El f)). Yields (λ v m. Stands s at m (encode f v) (Holds limit f v)) o) e (sound f at h))

  -- of a format that reads no value past the end
  pub sound-inside : (f : Fmt) (at : ℕ) → Yields (λ v m. at ≤ length s) (read limit f s at) → Yields (λ v m. Stands s at m (encode f v) (Holds limit f v)) (read limit f s at)
  sound-inside f at y = go (dec_le at (length s))
    where
      go : Dec (at ≤ length s) → Yields (λ v m. Stands s at m (encode f v) (Holds limit f v)) (read limit f s at)
      go (yes h) = sound f at h
      go (no n) = yields-so y λ v m h. absurd (n h)

-- such as one that begins with a tag
module _ (limit : ℕ) (s : List ℕ) (at : ℕ) where
  pub inside-tagged : (k : ℕ) (f : ℕ → Fmt) → Yields (λ v m. at ≤ length s) (read limit (tagged k f) s at)
  unfolding read read_tag
  inside-tagged k f =
      yields-bind (yields-bind (yields-number 1 s at) λ t m p. yields-ask (ltb t k) _ _ λ e. this p) λ t m p.
      yields-bind {P = λ _ _. Unit} (always (read limit (f t) s m)) λ v n _. this (omega arith)

  pub inside-then : (a b : Fmt) → Yields (λ v m. at ≤ length s) (read limit a s at) → Yields (λ v m. at ≤ length s) (read limit (a then b) s at)
  unfolding read
  inside-then a b y = yields-bind y λ v m h. yields-bind {P = λ _ _. Unit} (always (read limit b s m)) λ w n _. this h
