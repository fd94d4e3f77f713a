-- What the loop over the sections keeps, and what it answers.
use Prim.Native.Nat.{ℕ, suc, ◌+◌, ◌*◌, ◌-◌, ◌≤◌, ◌<◌}
use native.Mathlib.Omega.{arith}
use native.Mathlib.Nat.{zero-add}
use mathlib.Core.Path.{◌≡◌, refl, sym, ap, ◌∙◌}
use mathlib.Core.List.{List, ◌∷◌, ◌++◌, map, append-nil, append_assoc}
use lib.ListN.{length, take, drop, set, length-set, length-take, take-append-drop, drop_of_length-le}
use lib.Seq.{take-suc-set, take-set-lt, drop-set-lt, take-take, drop-cons, length-take-le, append_snoc, drop-append-le}
use borrow.Rule.Slice.PartMut.{mid_of, mid_len, put_mid}
use Rattle.state.specs.declared.Refusal.{Refusal}
use Rattle.std.specs.Prelude.{Ok, Err}
use Rattle.state.specs.Outcome.{Stepped}
use Rattle.state.proofs.Outcome.{onward, always, step-yields}
use Rattle.format.specs.Format.{scan, read}
use Rattle.format.specs.Manifest.{Section, numbered, counted, entry, lists, input_definitions, portability, sequence, manifest}
use Rattle.format.specs.Places.{count_at, end_of, end_at, starts, section_starts, entry_starts, manifest_starts, manifest_entries}
use Rattle.format.proofs.Bounds.{list-takes, list_counts, next-within}
use Rattle.format.proofs.Places.{starts-length}
use Rattle.format.proofs.Steps.{scan-then, then-stop, done-step}
use Rattle.state_sections.specs.Tables.{Space, Lists}
use Rattle.state_sections.proofs.Laid.{key-least}
use Rattle.state_manifest_codec.specs.Filled.{Room, Fills}
use Rattle.state_manifest_codec.proofs.Filling.{fills-lent, fills-before, fills-stop}

-- the sections from number n on
abbrev later : ℕ → List Section
later n = drop (n - 2) lists

-- section n is next, and starts at a position; the sections before it are in the words before n - 1, their entries in those from 12 up to w
pub record Reading (limit : ℕ) (s old : List ℕ) (n at w : ℕ) (new : List ℕ) : Type 0 where
  pub room : Room s old 0 12
  pub from : 2 ≤ n
  pub to : n ≤ 13
  pub is : scan limit manifest s 0 ≡ scan limit (sequence (map counted (later n))) s at
  pub here : at ≤ length s
  pub used : 2 * w ≤ at + 24
  pub above : 12 ≤ w
  pub long : length new ≡ length old
  pub begins : take (n - 1) new ++ section_starts limit (map counted (later n)) s at ≡ manifest_starts limit s
  pub enters : drop 12 (take w new) ++ entry_starts limit (later n) s at ≡ manifest_entries limit s

-- the section whose turn it is
next-section : (n : ℕ) → 2 ≤ n → n ≤ 12 → later n ≡ numbered n ∷ later (n + 1)
unfolding numbered
next-section n h k =
    let e : suc (n - 2) ≡ n + 1 - 2 = omega arith in
    drop-cons lists (n - 2) input_definitions (omega arith) ∙ ap (λ (x : ℕ). numbered n ∷ drop x lists) e

pub manifest-stop : (limit : ℕ) (s : List ℕ) {x : Stepped} {d : Refusal ℕ} → x ≡ scan limit portability s 0 → x ≡ Err d → x ≡ scan limit manifest s 0
unfolding manifest
manifest-stop limit s e h = then-stop limit s 0 portability (sequence (map counted lists)) e h

pub reading-start : {limit : ℕ} {s old : List ℕ} → Room s old 0 12 → {x : Stepped} {p : ℕ} → x ≡ scan limit portability s 0 → x ≡ Ok p → Reading limit s (set old 0 0) 2 p 12 (set old 0 0)
unfolding manifest manifest_starts manifest_entries section_starts
reading-start {limit} {s} {old} r {x} {p} e h = record {
  room = record { short = r.short; here = omega arith; used = omega arith; there = omega (arith, r.there, length-set old 0 0) };
  from = omega arith;
  to = omega arith;
  is = scan-then limit s 0 portability (sequence (map counted lists)) ∙ rw (← e, h);
  here = (next-within limit s portability 0 (omega arith) e h).1;
  used = omega arith;
  above = omega arith;
  long = refl;
  begins = ap (λ (l : List ℕ). l ++ section_starts limit (map counted lists) s p) (take-suc-set old 0 0 (omega (arith, r.there))) ∙ ap (λ (z : ℕ). 0 ∷ section_starts limit (map counted lists) s z) q;
  enters = ap (λ (l : List ℕ). l ++ entry_starts limit lists s p) (drop_of_length-le (take 12 (set old 0 0)) {i = 12} (omega (arith, length-take 12 (set old 0 0)))) ∙ ap (entry_starts limit lists s) q;
}
  where
    q : p ≡ end_at limit portability s 0
    q = ap end_of (sym h ∙ e)

module _ {limit : ℕ} {s old : List ℕ} {n at w : ℕ} {new : List ℕ} (g : Reading limit s old n at w new) where
  word_fits : w ≤ length new
  word_fits = omega (arith, g.used, g.here, g.long, g.room.there)

  pub reading-end : 12 < n → Fills (Ok at) (scan limit manifest s 0) (manifest_starts limit s ++ manifest_entries limit s) 0 old new
  unfolding section_starts entry_starts
  reading-end h = record { is = answer; long = g.long; front = λ m q. ap (λ (k : ℕ). take (0 + k) new) (ap length (sym words) ∙ length-take-le w new word_fits) ∙ ap (λ (k : ℕ). take k new) (zero-add w) ∙ words }
    where
      e : 13 ≡ n
      e = omega (arith, g.to)

      answer : Ok at ≡ scan limit manifest s 0
      answer = done-step limit s at ∙ ap (λ (x : ℕ). scan limit (sequence (map counted (later x))) s at) e ∙ sym g.is

      front : take 12 new ≡ manifest_starts limit s
      front = sym (append-nil (take 12 new)) ∙ ap (λ (x : ℕ). take (x - 1) new ++ section_starts limit (map counted (later x)) s at) e ∙ g.begins

      back : drop 12 (take w new) ≡ manifest_entries limit s
      back = sym (append-nil (drop 12 (take w new))) ∙ ap (λ (x : ℕ). drop 12 (take w new) ++ entry_starts limit (later x) s at) e ∙ g.enters

      words : take w new ≡ manifest_starts limit s ++ manifest_entries limit s
      words = sym (take-append-drop 12 (take w new)) ∙ ap (λ (l : List ℕ). l ++ drop 12 (take w new)) (take-take 12 w new g.above ∙ front) ∙ ap (λ (l : List ℕ). manifest_starts limit s ++ l) back

  module _ (h : n ≤ 12) {v : ℕ} (ev : v ≡ at) where
    whole : scan limit manifest s 0 ≡ onward (scan limit (counted (numbered n)) s at) (λ m. scan limit (sequence (map counted (later (n + 1)))) s m)
    whole = g.is ∙ ap (λ (l : List Section). scan limit (sequence (map counted l)) s at) (next-section n g.from h) ∙ scan-then limit s at (counted (numbered n)) (sequence (map counted (later (n + 1))))

    pub reading-word : n - 1 < length new
    reading-word = omega (arith, g.from, g.above, word_fits)

    pub reading-lent : w ≤ length (set new (n - 1) v)
    reading-lent = omega (arith, word_fits, length-set new (n - 1) v)

    pub reading-space : Space s (mid_of w (length (set new (n - 1) v) - w) (set new (n - 1) v)) at
    reading-space = record { short = g.room.short; here = g.here; there = omega (arith, g.room.there, g.used, g.long, length-set new (n - 1) v, reading-lent, mid_len w (length (set new (n - 1) v)) (set new (n - 1) v) (omega arith)) }

    module _ {r : Stepped} {part : List ℕ} (ls : Lists r (scan limit (counted (numbered n)) s at) (starts limit (entry (numbered n)) s (count_at s at) (at + 4)) part) (lp : length part ≡ length (mid_of w (length (set new (n - 1) v) - w) (set new (n - 1) v))) where
      abbrev next : List ℕ
      next = put_mid w (length (set new (n - 1) v) - w) (set new (n - 1) v) part

      f : Fills r (scan limit (counted (numbered n)) s at) (starts limit (entry (numbered n)) s (count_at s at) (at + 4)) w (set new (n - 1) v) next
      f = fills-lent ls reading-lent lp

      pub reading-long : length next ≡ length old
      reading-long = f.long ∙ length-set new (n - 1) v ∙ g.long

      pub reading-stop : {ps : List ℕ} {x : Stepped} {d : Refusal ℕ} → r ≡ Err d → x ≡ Err d → Fills x (scan limit manifest s 0) ps 0 old next
      reading-stop i q = fills-stop (q ∙ sym (whole ∙ rw (← f.is, i))) q reading-long

      module _ {e : ℕ} (i : r ≡ Ok e) where
        -- a section's bytes: its count, and four at least for each entry
        pub reading-takes : (at + 4 + 4 * count_at s at ≤ e) × (e ≤ length s)
        unfolding scan
        reading-takes =
            let y = step-yields (always (read limit (counted (numbered n)) s at)) f.is i in
            let t = list-takes limit s 4 (numbered n).least (numbered n).rule (numbered n).key (numbered n).rest at y.1 4 (omega (arith, key-least n)) in
            let c = list_counts limit s 4 (numbered n).least (numbered n).rule (numbered n).key (numbered n).rest at y.1 in
            let b = next-within limit s (counted (numbered n)) at g.here f.is i in
            (omega (arith, t, c), b.1)

        ends : e ≡ end_at limit (counted (numbered n)) s at
        ends = ap end_of (sym i ∙ f.is)

        -- what the words hold now, of the sections' starts and of their entries'
        begun : take n next ++ section_starts limit (map counted (later (n + 1))) s e ≡ manifest_starts limit s
        unfolding section_starts
        begun =
            let k : n ≡ suc (n - 1) = omega (arith, g.from) in
            ap (λ (l : List ℕ). l ++ section_starts limit (map counted (later (n + 1))) s e)
            (sym (take-take n w next (omega (arith, g.above)))
            ∙ ap (take n) (fills-before f i reading-lent)
            ∙ take-take n w (set new (n - 1) v) (omega (arith, g.above))
            ∙ ap (λ (x : ℕ). take x (set new (n - 1) v)) k ∙ take-suc-set new (n - 1) v reading-word)
            ∙ append_snoc (take (n - 1) new) v (section_starts limit (map counted (later (n + 1))) s e)
            ∙ ap (λ (x : ℕ). take (n - 1) new ++ (x ∷ section_starts limit (map counted (later (n + 1))) s e)) ev
            ∙ ap (λ (x : ℕ). take (n - 1) new ++ (at ∷ section_starts limit (map counted (later (n + 1))) s x)) ends
            ∙ ap (λ (l : List Section). take (n - 1) new ++ section_starts limit (map counted l) s at) (sym (next-section n g.from h)) ∙ g.begins

        entered : drop 12 (take (w + count_at s at) next) ++ entry_starts limit (later (n + 1)) s e ≡ manifest_entries limit s
        unfolding entry_starts
        entered =
            let ps : List ℕ = starts limit (entry (numbered n)) s (count_at s at) (at + 4) in
            ap (λ (l : List ℕ). drop 12 l ++ entry_starts limit (later (n + 1)) s e)
            (ap (λ (x : ℕ). take (w + x) next) (sym (starts-length limit (entry (numbered n)) s (count_at s at) (at + 4))) ∙ f.front e i)
            ∙ ap (λ (l : List ℕ). l ++ entry_starts limit (later (n + 1)) s e)
            (drop-append-le 12 (take w (set new (n - 1) v)) ps (omega (arith, g.above, length-take-le w (set new (n - 1) v) reading-lent))
            ∙ ap (λ (l : List ℕ). drop 12 l ++ ps) (take-set-lt w new (n - 1) v (omega (arith, g.above, g.from)))
            ∙ ap (λ (l : List ℕ). l ++ ps) (drop-set-lt 12 (take w new) (n - 1) v (omega (arith, g.from))))
            ∙ append_assoc (drop 12 (take w new)) ps (entry_starts limit (later (n + 1)) s e)
            ∙ ap (λ (x : ℕ). drop 12 (take w new) ++ (ps ++ entry_starts limit (later (n + 1)) s x)) ends
            ∙ ap (λ (l : List Section). drop 12 (take w new) ++ entry_starts limit l s at) (sym (next-section n g.from h)) ∙ g.enters

        pub reading-on : {c : ℕ} → c ≡ count_at s at → Reading limit s old (n + 1) e (w + c) next
        reading-on {c} q =
            let k : n + 1 - 1 ≡ n = omega arith in
            record {
              room = g.room;
              from = omega (arith, g.from);
              to = omega arith;
              is = whole ∙ rw (← f.is, i);
              here = reading-takes.1;
              used = omega (arith, g.used, reading-takes.0);
              above = omega (arith, g.above);
              long = reading-long;
              begins = rw k begun;
              enters = rw q entered;
            }

-- the first word, stored before the loop, does not matter where no word is kept
pub first-long : (old : List ℕ) → length (set old 0 0) ≡ length old
first-long old = length-set old 0 0

pub fills-stored : {r answer : Stepped} {ps : List ℕ} (old : List ℕ) {new : List ℕ} → Fills r answer ps 0 (set old 0 0) new → Fills r answer ps 0 old new
fills-stored old f = record { is = f.is; long = f.long ∙ first-long old; front = f.front }
