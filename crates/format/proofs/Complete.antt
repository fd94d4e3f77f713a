-- Bytes that are a value as it is written are read as that value, where the format admits it; so a value has one way to be written.
use Prim.Native.Nat.{ℕ, zero, suc, ◌+◌, ◌*◌, ◌-◌, ◌^◌, ◌%◌, ◌≤◌, ◌<◌}
use native.Mathlib.Omega.{arith}
use native.Mathlib.Nat.{mul-le-mul_left, suc-mul, le_trans, add-zero}
use native.Mathlib.Decide.{ℕ_discrete}
use mathlib.Core.Path.{◌≡◌, sym, ap, ◌∙◌, subst}
use mathlib.Core.Logic.{◌↔◌}
use mathlib.Core.Bool.{Bool, true, ◌&&◌}
use mathlib.Core.List.{List, [], ◌∷◌, ◌++◌, map}
use lib.ListN.{length, drop, length-append}
use lib.Seq.{drop-append_seam}
use lib.Dec.{leb}
use borrow.Author.Tests.{leb-true, le-leb, lt-ltb, eq-eqb}
use Rattle.state.specs.Bytes.{AreBytes, span, bytes_of}
use Rattle.state.specs.Outcome.{Outcome, got}
use Rattle.state.proofs.Bytes.{Part, part-front, part-back, part-first, bytes-length, bytes-number}
use Rattle.std.proofs.lemmas.Bool.{and_parts as both}
use Rattle.state_wire.specs.Fields.{read_span, read_number, read_tag, bounded_count, read_count, read_text}
use Rattle.state_wire.proofs.Fields.{span-got}
use Rattle.format.specs.Format.{Rule, Fmt, done, number, tag, text, tagged, ◌then◌, list, El, entries, read, each, encode, kept, after_key, after_entry}
use Rattle.format.specs.Admits.{shown, in_order, All, Holds}
use Rattle.format.specs.Least.{least, all_below, honest}
use Rattle.format.proofs.Sound.{Stands, part-shown, read-sound}
use Rattle.format.proofs.Bounds.{fewest-le}

pub all-below : (f : ℕ → Bool) (k t : ℕ) → all_below f k ≡ true → t < k → f t ≡ true
all-below f zero t e h = absurd (omega arith)
all-below f (suc k) t e h = go (ℕ_discrete t k) (λ h'. all-below f k t (both (f k) _ e).1 h')
  where
    go : Dec (t ≡ k) → (t < k → f t ≡ true) → f t ≡ true
    go (yes q) r = ap f q ∙ (both (f k) _ e).0
    go (no n) r = r (omega (arith, n))

-- ---- the least bytes of what is written
each-least : {A : Type 0} (f : A → List ℕ) (b : ℕ) (H : A → Type 0) → ((v : A) → H v → b ≤ length (f v)) → (vs : List A) → All H vs → length vs * b ≤ length (each f vs)
each-least f b H h [] p = omega arith
each-least f b H h (v ∷ vs) p =
    let r : length vs * b ≤ length (each f vs) = each-least f b H h vs p.1 in
    rw (suc-mul (length vs) b, length-append (f v) (each f vs)) (omega (arith, h v p.0))

-- an admitted value is written with its format's least bytes or more
least-le : (limit : ℕ) (f : Fmt) (v : El f) → Holds limit f v → least f ≤ length (encode f v)
unfolding least encode Holds
least-le limit done v h = omega arith
least-le limit (number w) v h = omega (arith, bytes-length w v)
least-le limit (tag k) v h = omega arith
least-le limit text v h = rw (length-append (bytes_of 4 (length v)) v) (omega (arith, bytes-length 4 (length v)))
least-le limit (tagged k f) v h = omega (arith, fewest-le (λ t. least (f t)) k v.0 h.0, least-le limit (f v.0) v.1 h.2)
least-le limit (a then b) v h = rw (length-append (encode a v.0) (encode b v.1)) (omega (arith, least-le limit a v.0 h.0, least-le limit b v.1 h.1))
least-le limit (list w l u k r) v h = rw (length-append (bytes_of w (length v)) (each (λ e. encode k e.0 ++ encode r e.1) v)) (omega (arith, bytes-length w (length v)))

module _ (limit : ℕ) (s : List ℕ) where
  complete-span : (at n : ℕ) (x : List ℕ) → Part s at n x → read_span (length x) s at ≡ got x n
  complete-span at n x p = rw (span-got (length x) s at (omega (arith, p.ends, p.within)), ← p.ends, p.is)

  complete-number : (w at n v : ℕ) → Part s at n (bytes_of w v) → v < 256 ^ w → read_number w s at ≡ got v n
  unfolding read_number
  complete-number w at n v p h =
      let e : read_span w s at ≡ got (bytes_of w v) n = ap (λ (k : ℕ). read_span k s at) (sym (bytes-length w v)) ∙ complete-span at n (bytes_of w v) p in
      rw (e, bytes-number w v h)

  complete-count : (w l at n c : ℕ) → Part s at n (bytes_of w c) → c < 256 ^ w → c * l ≤ length s - n → read_count w l s at ≡ got c n
  unfolding read_count bounded_count
  complete-count w l at n c p h i = rw (complete-number w at n c p h, le-leb _ _ i)

  complete-tag : (k at n t : ℕ) → Part s at n (t ∷ []) → t < k → t < 256 → read_tag k s at ≡ got t n
  unfolding read_tag bytes_of
  complete-tag k at n t p h i =
      let m : t ≡ t % 256 = omega arith in
      rw (complete-number 1 at n t (subst (λ (x : ℕ). Part s at n (x ∷ [])) m p) i, lt-ltb t k h)

  complete-text : (at n : ℕ) (v : List ℕ) → Part s at n (encode text v) → Holds limit text v → read_text limit s at ≡ got v n
  unfolding encode Holds read_text
  complete-text at n v p h =
      rw (
        complete-number 4 at _ (length v) (part-front s (bytes_of 4 (length v)) v p) h.2,
        le-leb (length v) limit h.1,
        complete-span _ n v (part-back s (bytes_of 4 (length v)) v p),
        eq-eqb _ _ h.3,
      )

  module _ {K R : Type 0} (u : Rule) (key : List ℕ → ℕ → Outcome K) (rest : List ℕ → ℕ → Outcome R)
      (ek : K → List ℕ) (er : R → List ℕ) (HK : K → Type 0) (HR : R → Type 0)
      (ck : (at n : ℕ) (v : K) → Part s at n (ek v) → HK v → key s at ≡ got v n)
      (cr : (at n : ℕ) (v : R) → Part s at n (er v) → HR v → rest s at ≡ got v n) where
    complete-entries : (vs : List (K × R)) (at z : ℕ) (ks : List (List ℕ)) → Part s at z (each (λ e. ek e.0 ++ er e.1) vs)
        → All (λ e. HK e.0 × HR e.1) vs → in_order u (map (λ e. shown u (ek e.0)) vs) ks ≡ true → entries u key rest s (length vs) at ks ≡ got vs z
    unfolding in_order
    complete-entries [] at z ks p h e = rw (e, p.ends, add-zero at)
    complete-entries (v ∷ vs) at z ks p h e =
        let x : List ℕ = ek v.0 in
        let y : List ℕ = er v.1 in
        let pe = part-front s (x ++ y) (each (λ e. ek e.0 ++ er e.1) vs) p in
        let px = part-front s x y pe in
        let e1 = both (after_key u (shown u x) ks) _ e in
        let e2 = both (after_entry u (shown u x) ks) _ e1.1 in
        rw (
          ck at _ v.0 px h.0.0,
          part-shown u px,
          e1.0,
          cr _ _ v.1 (part-back s x y pe) h.0.1,
          e2.0,
          complete-entries vs _ z (kept u (shown u x) ks) (part-back s (x ++ y) (each (λ e. ek e.0 ++ er e.1) vs) p) h.1 e2.1,
        )

  -- a value that an honest format admits is read wherever it stands as it is written
  pub complete : (f : Fmt) → honest f ≡ true → (at n : ℕ) (v : El f) → Part s at n (encode f v) → Holds limit f v → read limit f s at ≡ got v n
  unfolding read encode Holds honest
  complete done t at n v p h = rw (p.ends, add-zero at)
  complete (number w) t at n v p h = complete-number w at n v p h
  complete (tag k) t at n v p h = complete-tag k at n v p h.0 h.1
  complete text t at n v p h = complete-text at n v p h
  complete (tagged k f) t at n v p h =
      rw (
        complete-tag k at _ v.0 (part-front s (v.0 ∷ []) (encode (f v.0) v.1) p) h.0 h.1,
        complete (f v.0) (all-below (λ t. honest (f t)) k v.0 t h.0) _ n v.1 (part-back s (v.0 ∷ []) (encode (f v.0) v.1) p) h.2,
      )
  complete (a then b) t at n v p h =
      let q = both (honest a) (honest b) t in
      rw (
        complete a q.0 at _ v.0 (part-front s (encode a v.0) (encode b v.1) p) h.0,
        complete b q.1 _ n v.1 (part-back s (encode a v.0) (encode b v.1) p) h.1,
      )
  complete (list w l u k r) t at n v p h =
      let es : List ℕ = each (λ e. encode k e.0 ++ encode r e.1) v in
      let pe : Part s (at + length (bytes_of w (length v))) n es = part-back s (bytes_of w (length v)) es p in
      let q1 = both (leb l (least k + least r)) (honest k && honest r) t in
      let q2 = both (honest k) (honest r) q1.1 in
      let c : length v * l ≤ length es =
      le_trans (mul-le-mul_left (length v) (leb-true _ _ q1.0))
      (each-least (λ e. encode k e.0 ++ encode r e.1) (least k + least r) (λ e. Holds limit k e.0 × Holds limit r e.1)
      (λ e q. rw (length-append (encode k e.0) (encode r e.1)) (omega (arith, least-le limit k e.0 q.0, least-le limit r e.1 q.1))) v h.1) in
      rw (complete-count w l at _ (length v) (part-front s (bytes_of w (length v)) es p) h.0 (omega (arith, c, pe.ends, pe.within)))
      (complete-entries u (read limit k) (read limit r) (encode k) (encode r) (Holds limit k) (Holds limit r) (complete k q2.0) (complete r q2.1) v _ n [] pe h.1 h.2)

module _ (limit : ℕ) (f : Fmt) (t : honest f ≡ true) where
  -- what two admitted values are written as tells them apart, whatever follows
  pub unambiguous : (v w : El f) → Holds limit f v → Holds limit f w → (x y : List ℕ) → encode f v ++ x ≡ encode f w ++ y → (v ≡ w) × (x ≡ y)
  unambiguous v w hv hw x y e =
      (o.0, sym (drop-append_seam (encode f v) x) ∙ ap (drop (length (encode f v))) e ∙ ap (λ (n : ℕ). drop n (encode f w ++ y)) o.1 ∙ drop-append_seam (encode f w) y)
    where
      back : (v : El f) → Holds limit f v → (x : List ℕ) → read limit f (encode f v ++ x) 0 ≡ got v (length (encode f v))
      back v h x = complete limit (encode f v ++ x) f t 0 _ v (part-first (encode f v) x) h

      g : got v (length (encode f v)) ≡ got w (length (encode f w))
      g = sym (back v hv x) ∙ ap (λ (s : List ℕ). read limit f s 0) e ∙ back w hw y

      o : (v ≡ w) × (length (encode f v) ≡ length (encode f w))
      o = (cc g, cc g)

  -- so two that are written alike are the same
  pub told : (v w : El f) → Holds limit f v → Holds limit f w → encode f v ≡ encode f w → v ≡ w
  told v w hv hw e = (unambiguous v w hv hw [] [] (ap (λ (l : List ℕ). l ++ []) e)).0

  -- two lists with the same bytes from at up to n are read alike there
  pub local : (s s' : List ℕ) → AreBytes s → (at n : ℕ) (v : El f) → at ≤ length s → n ≤ length s' → span s' at n ≡ span s at n → read limit f s at ≡ got v n → read limit f s' at ≡ got v n
  local s s' b at n v h k e q =
      let p = read-sound limit s b f at v n h q in
      complete limit s' f t at n v (record { ends = p.part.ends; within = k; is = e ∙ p.part.is }) p.holds

  -- two readings have the same value exactly where they passed over the same bytes, wherever each stands
  pub same_bytes : (s s' : List ℕ) → AreBytes s → AreBytes s' → (a b n m : ℕ) (v w : El f) → a ≤ length s → b ≤ length s' → read limit f s a ≡ got v n → read limit f s' b ≡ got w m
      → v ≡ w ↔ span s a n ≡ span s' b m
  same_bytes s s' bs bs' a b n m v w ha hb rs rs' = (there, back)
    where
      p : Stands s a n (encode f v) (Holds limit f v)
      p = read-sound limit s bs f a v n ha rs

      q : Stands s' b m (encode f w) (Holds limit f w)
      q = read-sound limit s' bs' f b w m hb rs'

      there : v ≡ w → span s a n ≡ span s' b m
      there e = p.part.is ∙ ap (encode f) e ∙ sym q.part.is

      back : span s a n ≡ span s' b m → v ≡ w
      back e = told v w p.holds q.holds (sym p.part.is ∙ e ∙ q.part.is)
