-- What the comparison of a section finds: nothing exactly where the two values are written alike, and else a difference in that section.
use Prim.Native.Nat.{ℕ, suc}
use mathlib.Core.Path.{◌≡◌, refl, sym, ap, ◌∙◌}
use mathlib.Core.Bool.{Bool, true, false, cond}
use mathlib.Core.List.{List, [], ◌∷◌, ◌++◌}
use lib.ListN.{length, drop}
use Rattle.std.specs.Prelude.{Ok, Err}
use Rattle.state.specs.declared.Difference.{Difference}
use Rattle.format.specs.Lists.{same}
use Rattle.format.specs.Format.{Rule, Fmt, El, done, number, tag, text, ◌then◌, list, each, encode}
use Rattle.format.specs.Keys.{block_key, connector_key}
use Rattle.format.specs.Manifest.{value, params, connector_keys, block_head, block_rest, Section, entry, blocks}
use Rattle.format.specs.Fields.{Entry, block_key_of, class_path, kind, state_revision, state_len, params_of, inputs, outputs}
use Rattle.format.proofs.Lists.{same_true, same_refl}
use Rattle.verdict.specs.Verdict.{Agreement, compatible, differs, ◌or_else◌, field, along, head_verdict, param_verdict, params_verdict, ports_verdict, block_verdict, Comparison, whole, listwise, entrywise, comparisons}
use Rattle.verdict.proofs.Gives.{Gives, of, field-gives, or-gives, from-any, along-gives}

-- no difference, or one in section k
abbrev pub Within : (k : ℕ) → Agreement → Type 0
Within k = Gives (λ d. d.section ≡ k)

-- what a comparison of values of a format finds, as a part of section k
pub record Finds (k : ℕ) (f : Fmt) (c : El f → El f → Agreement) : Type 0 where
  pub alike : (v w : El f) → c v w ≡ compatible → encode f v ≡ encode f w
  pub self : (v : El f) → c v v ≡ compatible
  pub within : (v w : El f) → Within k (c v w)

-- what section k's comparison finds
abbrev pub Faithful : (k : ℕ) → Comparison → Type 0
Faithful k c = Finds k c.format c.compare

-- those of a list, numbered from k on
abbrev pub AllFaithful : ℕ → List Comparison → Type 0
AllFaithful k [] = Unit
AllFaithful k (c ∷ cs) = Faithful k c × AllFaithful (suc k) cs

-- ---- one or else the other
-- neither is a difference where the first difference of the two is none
pub or-both : (a b : Agreement) → a or_else b ≡ compatible → (a ≡ compatible) × (b ≡ compatible)
or-both (Ok u) b h = (refl, h)
or-both (Err d) b h = cc

-- of three, however they are bracketed
or_assoc : (a b c : Agreement) → (a or_else b) or_else c ≡ a or_else b or_else c
or_assoc (Ok u) b c = refl
or_assoc (Err d) b c = refl

-- ---- what the constructs find
-- a comparison that answers as another finds the same
alike-finds : {k : ℕ} {f : Fmt} {c d : El f → El f → Agreement} → ((v w : El f) → d v w ≡ c v w) → Finds k f c → Finds k f d
alike-finds e x = record {
  alike = λ v w h. x.alike v w (sym (e v w) ∙ h);
  self = λ v. e v v ∙ x.self v;
  within = λ v w. rw (e v w) (x.within v w);
}

-- a field, compared as it is written
pub field-finds : (k : ℕ) (f : Fmt) (p e i : ℕ) → Finds k f (field f (differs k p e i))
unfolding field
field-finds k f p e i = record {
  alike = λ v w h. same_true _ _ (found (same (encode f v) (encode f w)) h);
  self = λ v. rw (same_refl (encode f v));
  within = λ v w. field-gives f v w (λ _. of refl);
}
  where
    found : (b : Bool) → cond b compatible (differs k p e i) ≡ compatible → b ≡ true
    found true h = refl
    found false h = cc

-- one after the other
infixr 20 ◌followed-by◌
◌followed-by◌ : {k : ℕ} {a b : Fmt} {c : El a → El a → Agreement} {d : El b → El b → Agreement} → Finds k a c → Finds k b d
    → Finds k (a then b) (λ v w. c v.0 w.0 or_else d v.1 w.1)
unfolding encode
◌followed-by◌ {a} {b} {c} {d} x y = record {
  alike = λ v w h.
      let o = or-both (c v.0 w.0) (d v.1 w.1) h in
      rw (x.alike v.0 w.0 o.0, y.alike v.1 w.1 o.1);
  self = λ v. rw (x.self v.0, y.self v.1);
  within = λ v w. or-gives (x.within v.0 w.0) (λ _. y.within v.1 w.1);
}

-- nothing after it
key-finds : {k : ℕ} {f : Fmt} {c : El f → El f → Agreement} → Finds k f c → Finds k (f then done) (λ v w. c v.0 w.0)
unfolding encode
key-finds x = record { alike = λ v w h. rw (x.alike v.0 w.0 h); self = λ v. x.self v.0; within = λ v w. x.within v.0 w.0 }

-- a list: entry by entry, and its count
module _ {k : ℕ} (w l : ℕ) (u : Rule) (key rest : Fmt) (entry_at : ℕ → El (key then rest) → El (key then rest) → Agreement) (count_at : ℕ → Difference)
    (finds : (i : ℕ) → Finds k (key then rest) (entry_at i)) (counts : (i : ℕ) → (count_at i).section ≡ k) where
  -- what the two lists come to
  abbrev walk : (i : ℕ) (xs ys : List (El (key then rest))) → Agreement
  walk = along entry_at (λ i. Err (count_at i))

  -- the entries as they are written, without the count
  abbrev written : List (El (key then rest)) → List ℕ
  written = each (λ e. encode key e.0 ++ encode rest e.1)

  -- where nothing is found, the counts and the entries are the same
  along-alike : (i : ℕ) (xs ys : List (El (key then rest))) → walk i xs ys ≡ compatible → (length xs ≡ length ys) × (written xs ≡ written ys)
  unfolding along encode
  along-alike i [] [] h = (refl, refl)
  along-alike i [] (y ∷ ys) h = cc
  along-alike i (x ∷ xs) [] h = cc
  along-alike i (x ∷ xs) (y ∷ ys) h =
      let o = or-both (entry_at i x y) (walk (suc i) xs ys) h in
      let r = along-alike (suc i) xs ys o.1 in
      (ap suc r.0, rw ((finds i).alike x y o.0, r.1))

  -- a list beside itself
  along-self : (i : ℕ) (xs : List (El (key then rest))) → walk i xs xs ≡ compatible
  unfolding along
  along-self i [] = refl
  along-self i (x ∷ xs) = rw ((finds i).self x, along-self (suc i) xs)

  -- and so of the list as a format
  list-finds : Finds k (list w l u key rest) (walk 0)
  unfolding encode
  list-finds = record {
    alike = λ v w h. let r = along-alike 0 v w h in rw (r.0, r.1);
    self = along-self 0;
    within = λ xs ys. along-gives (λ i x y _ _. (finds i).within x y) 0 xs ys (from-any 0 xs) (from-any 0 ys) (λ _ i. of (counts i));
  }

-- ---- blocks
-- parameters: a name and a value each
params-finds : (i : ℕ) → Finds 3 params (params_verdict i)
unfolding params params_verdict param_verdict
params-finds i = list-finds 4 6 _ text value _ _ (λ j. field-finds 3 text 6 i j followed-by field-finds 3 value 7 i j) (λ j. refl)

-- inputs or outputs: a connector's key each
ports-finds : (p i : ℕ) → Finds 3 connector_keys (ports_verdict p i)
unfolding connector_keys ports_verdict
ports-finds p i = list-finds 4 10 _ connector_key done _ _ (λ j. key-finds (field-finds 3 connector_key p i j)) (λ j. refl)

-- a block, part by part
block-finds : (i : ℕ) → Finds 3 (entry blocks) (block_verdict i)
unfolding block_rest block_head block_verdict head_verdict block_key_of class_path kind state_revision state_len params_of inputs outputs
block-finds i = alike-finds (λ v w. or_assoc (field block_key (differs 3 1 i 0) v.0 w.0) _ _)
    (field-finds 3 block_key 1 i 0
    followed-by (field-finds 3 text 2 i 0 followed-by field-finds 3 (tag 2) 3 i 0 followed-by field-finds 3 (number 4) 4 i 0 followed-by field-finds 3 (number 8) 5 i 0)
    followed-by params-finds i
    followed-by ports-finds 9 i
    followed-by ports-finds 11 i)

-- ---- the twelve
-- a whole section
whole-faithful : (k : ℕ) (f : Fmt) → Faithful k (whole k f)
whole-faithful k f = field-finds k f 0 0 0

-- a list, entry by entry
listwise-faithful : (k : ℕ) (e : Section) (c : ℕ → Entry e → Entry e → Agreement) → ((i : ℕ) → Finds k (entry e) (c i)) → Faithful k (listwise k e c)
listwise-faithful k e c finds = list-finds 4 e.least e.rule e.key e.rest c _ finds (λ i. refl)

-- a list of whole entries
entrywise-faithful : (k : ℕ) (e : Section) → Faithful k (entrywise k e)
entrywise-faithful k e = listwise-faithful k e _ (λ i. field-finds k (entry e) 0 i 0)

-- and so of each of the twelve
pub comparisons-faithful : AllFaithful 1 comparisons
comparisons-faithful = (whole-faithful 1 _, (entrywise-faithful 2 _, (listwise-faithful 3 blocks _ block-finds, (entrywise-faithful 4 _, others))))
  where
    others : AllFaithful 5 (drop 4 comparisons)
    others = (whole-faithful 5 _, (whole-faithful 6 _, (whole-faithful 7 _, (whole-faithful 8 _, (whole-faithful 9 _, (whole-faithful 10 _, (whole-faithful 11 _, (entrywise-faithful 12 _, tt))))))))
