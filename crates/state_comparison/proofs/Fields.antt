-- Two blocks and two parameters, field by field: where their parts stand, and what they come to.
use Prim.Native.Nat.{ℕ, suc, ◌+◌, min}
use mathlib.Core.Path.{◌≡◌, refl, sym, ap, ap₂, ◌∙◌}
use mathlib.Core.Bool.{cond}
use mathlib.Core.List.{List, [], ◌∷◌}
use lib.ListN.{length}
use lib.Dec.{eqb}
use Rattle.std.proofs.lemmas.List.{append-nil}
use Rattle.state.specs.Bytes.{span}
use Rattle.format.specs.Lists.{same}
use Rattle.format.specs.Format.{Fmt, El, done, encode, number, tag, text, plain, late, ◌then◌}
use Rattle.format.specs.Keys.{block_key, connector_key}
use Rattle.format.specs.Manifest.{value, params, connector_keys, block_head, block_rest, entry, blocks}
use Rattle.format.specs.Fields.{block_key_of, class_path, kind, state_revision, state_len, params_of, inputs, outputs}
use Rattle.format.specs.Places.{number_at, skip, past}
use Rattle.format.specs.Values.{value_at}
use Rattle.verdict.specs.Verdict.{Agreement, compatible, ◌or_else◌, in_blocks, field, along, ports_verdict, head_verdict, param_verdict, params_verdict, block_verdict}
use Rattle.state_comparison.specs.Comparing.{Both, lists_verdict, ports_lists, ports_at}
use Rattle.state_comparison.proofs.Comparing.{or-next, both_first, both-next, field_is, list-values, list-past, entries_at, Walking, walk_end, walk-ended}

-- ---- the ports of a block, as a list of keys with nothing behind them
key-alone : (f : Fmt) (d : Agreement) (v w : El (f then done)) → field (f then done) d v w ≡ field f d v.0 w.0
unfolding field encode
key-alone f d v w = simp append-nil

pub ports_are : (part i : ℕ) (v w : El connector_keys) → ports_verdict part i v w ≡ unfold connector_keys in lists_verdict (ports_lists part i) v w
unfolding ports_verdict connector_keys along
ports_are part i v w = go 0 v w
  where
    go : (j : ℕ) (v w : List (El (connector_key then done))) → along (λ j a b. field connector_key (in_blocks part i j) a.0 b.0) (in_blocks (part + 1) i) j v w
        ≡ along (λ j. field (connector_key then done) (in_blocks part i j)) (in_blocks (part + 1) i) j v w
    go j [] [] = refl
    go j [] (y ∷ ys) = refl
    go j (x ∷ xs) [] = refl
    go j (x ∷ xs) (y ∷ ys) = rw (key-alone connector_key (in_blocks part i j) x y) (ap (λ r. field connector_key (in_blocks part i j) x.0 y.0 or_else r) (go (suc j) xs ys))

module _ (s t : List ℕ) where
  -- what the parts from a up to e and from b up to f come to
  abbrev parts_at : (d : Agreement) → (a e b f : ℕ) → Agreement
  parts_at d a e b f = cond (same (span s a e) (span t b f)) compatible d

  -- the field at two places
  at : (f : Fmt) (d : Agreement) {a b : ℕ} → Both f s t a b → field f d (value_at f s a) (value_at f t b) ≡ parts_at d a (past f s a) b (past f t b)
  at f d h = sym (field_is f d h refl refl refl)

  -- and the first of two fields
  first : (f g : Fmt) (d : Agreement) {a b : ℕ} → Both (f then g) s t a b → field f d (value_at f s a) (value_at f t b) ≡ parts_at d a (past f s a) b (past f t b)
  first f g d h = at f d (both_first f g h)

  -- a parameter's name, up to a and b, and its value
  pub param_is : (i j : ℕ) {p q a b e f : ℕ} → Both (text then value) s t p q → a ≡ past text s p → b ≡ past text t q → e ≡ past value s a → f ≡ past value t b
      → param_verdict i j (value_at (text then value) s p) (value_at (text then value) t q)
      ≡ parts_at (in_blocks 6 i j) p a q b or_else parts_at (in_blocks 7 i j) a e b f
  unfolding param_verdict value_at
  param_is i j h ea eb ee ef = rw (ee, ef, ea, eb) (ap₂ ◌or_else◌ (first text value (in_blocks 6 i j) h) (at value (in_blocks 7 i j) (both-next text value h refl refl)))

  -- a block's key, up to a and b, its class, kind, revision and state length
  pub heads-are : (i : ℕ) {p q a b c d e f g h j k : ℕ} → Both (entry blocks) s t p q → a ≡ past block_key s p → b ≡ past block_key t q → c ≡ past text s a → d ≡ past text t b
      → e ≡ past (tag 2) s c → f ≡ past (tag 2) t d → g ≡ past (number 4) s e → h ≡ past (number 4) t f → j ≡ past (number 8) s g → k ≡ past (number 8) t h
      → head_verdict i (value_at (entry blocks) s p) (value_at (entry blocks) t q)
      ≡ parts_at (in_blocks 1 i 0) p a q b or_else parts_at (in_blocks 2 i 0) a c b d or_else parts_at (in_blocks 3 i 0) c e d f or_else parts_at (in_blocks 4 i 0) e g f h or_else parts_at (in_blocks 5 i 0) g j h k
  unfolding head_verdict block_key_of class_path kind state_revision state_len block_rest block_head value_at past
  heads-are i w ea eb ec ed ee ef eg eh ej ek =
      let r = both-next block_key block_rest w refl refl in
      let n = both_first block_head (params then connector_keys then connector_keys) r in
      let n2 = both-next text (tag 2 then number 4 then number 8) n refl refl in
      let n3 = both-next (tag 2) (number 4 then number 8) n2 refl refl in
      rw (ej, ek, eg, eh, ee, ef, ec, ed, ea, eb)
      (ap₂ ◌or_else◌ (first block_key block_rest (in_blocks 1 i 0) w)
      (ap₂ ◌or_else◌ (first text (tag 2 then number 4 then number 8) (in_blocks 2 i 0) n)
      (ap₂ ◌or_else◌ (first (tag 2) (number 4 then number 8) (in_blocks 3 i 0) n2)
      (ap₂ ◌or_else◌ (first (number 4) (number 8) (in_blocks 4 i 0) n3)
      (at (number 8) (in_blocks 5 i 0) (both-next (number 4) (number 8) n3 refl refl))))))

  -- block i at p and at q, of which head and parameters are alike: its ports at x and at y are left
  pub record PortsLeft (i p q x y : ℕ) : Type 0 where
    pub both : Both (connector_keys then connector_keys) s t x y
    pub found : {r : Agreement} → r ≡ ports_at i s t x y → r ≡ block_verdict i (value_at (entry blocks) s p) (value_at (entry blocks) t q)
    pub ends : {e f : ℕ} → e ≡ past (connector_keys then connector_keys) s x → f ≡ past (connector_keys then connector_keys) t y
        → (e ≡ past (entry blocks) s p) × (f ≡ past (entry blocks) t q)

  -- ---- a block's lists: parameters at list and at other, ports behind them at x and at y
  module _ (p q : ℕ) {list other : ℕ} (el : list ≡ past (block_key then block_head) s p) (eo : other ≡ past (block_key then block_head) t q) where
    lists-both : Both (entry blocks) s t p q → Both (params then connector_keys then connector_keys) s t list other
    unfolding block_rest past
    lists-both w = both-next block_head (params then connector_keys then connector_keys) (both-next block_key block_rest w refl refl) el eo

    pub params-both : Both (entry blocks) s t p q → Both params s t list other
    params-both w = both_first params (connector_keys then connector_keys) (lists-both w)

    -- n and m parameters, the first at a and at b
    module _ {n m a b : ℕ} (count : n ≡ number_at 4 s list) (count' : m ≡ number_at 4 t other) (first : a ≡ min (list + 4) (length s)) (first' : b ≡ min (other + 4) (length t)) where
      -- what they come to, and where they end
      pub params-found : (i : ℕ) {x : Agreement}
          → x ≡ along (param_verdict i) (in_blocks 8 i) 0 (entries_at text value (param_verdict i) (in_blocks 8 i) s t s n a) (entries_at text value (param_verdict i) (in_blocks 8 i) s t t m b)
          → x ≡ params_verdict i (value_at params s list) (value_at params t other)
      unfolding params params_verdict
      params-found i h = h ∙ rw (list-values text value 6 (late plain) s list count first, list-values text value 6 (late plain) t other count' first')

      pub params-past : {x y : ℕ} → (x ≡ skip (past text s) (past value s) n a) × (y ≡ skip (past text t) (past value t) m b) → (x ≡ past params s list) × (y ≡ past params t other)
      unfolding params
      params-past h = (h.0 ∙ list-past text value 6 (late plain) s list count first, h.1 ∙ list-past text value 6 (late plain) t other count' first')

    module _ {x y : ℕ} (ex : x ≡ past params s list) (ey : y ≡ past params t other) where
      pub ports-both : Both (entry blocks) s t p q → Both (connector_keys then connector_keys) s t x y
      ports-both w = both-next params (connector_keys then connector_keys) (lists-both w) ex ey

      -- the block, in the order in which it is compared
      pub block-is : (i : ℕ) → (head_verdict i (value_at (entry blocks) s p) (value_at (entry blocks) t q) or_else params_verdict i (value_at params s list) (value_at params t other) or_else ports_at i s t x y)
          ≡ block_verdict i (value_at (entry blocks) s p) (value_at (entry blocks) t q)
      unfolding block_verdict params_of inputs outputs block_rest value_at past
      block-is i = rw (ex, ey, el, eo)

      -- and where it ends
      pub block-past : {e f : ℕ} → e ≡ past (connector_keys then connector_keys) s x → f ≡ past (connector_keys then connector_keys) t y
          → (e ≡ past (entry blocks) s p) × (f ≡ past (entry blocks) t q)
      unfolding block_rest past
      block-past a b = (rw (a, ex, el), rw (b, ey, eo))

    -- the parameters were walked to the end of one list, and there are as many
    pub ports_left : (i : ℕ) {n m a b : ℕ} → n ≡ number_at 4 s list → m ≡ number_at 4 t other → a ≡ min (list + 4) (length s) → b ≡ min (other + 4) (length t)
        → Both (entry blocks) s t p q → {h : Agreement} → h ≡ head_verdict i (value_at (entry blocks) s p) (value_at (entry blocks) t q) → h ≡ compatible
        → {x y j : ℕ} → Walking text value (param_verdict i) (in_blocks 8 i) s t
        (along (param_verdict i) (in_blocks 8 i) 0 (entries_at text value (param_verdict i) (in_blocks 8 i) s t s n a) (entries_at text value (param_verdict i) (in_blocks 8 i) s t t m b))
        (skip (past text s) (past value s) n a) (skip (past text t) (past value t) m b) n m x y j
        → j ≡ min n m → {v : Agreement} → v ≡ cond (eqb n m) compatible (in_blocks 8 i j) → v ≡ compatible → PortsLeft i p q x y
    ports_left i count count' first first' w head alike walk none counts same-count =
        let e = params-past count count' first first' (walk-ended walk none counts refl same-count) in
        let u = params-found count count' first first' i (walk_end walk none counts) in
        record {
          both = ports-both e.0 e.1 w;
          found = λ r. or-next head alike (or-next u same-count r) ∙ block-is e.0 e.1 i;
          ends = block-past e.0 e.1;
        }
