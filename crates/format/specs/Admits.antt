-- Which values a format admits: those that questions 3 to 9 let through, under a limit for strings.
use Rattle.std.specs.Prelude.{ℕ, ◌^◌, ◌<◌, ◌≤◌, ◌≡◌, List, [], ◌∷◌, map, Bool, true, ◌&&◌, length, drop}
use Rattle.state.specs.Bytes.{AreBytes}
use Rattle.utf8.specs.Valid.{valid_up_to}
use Rattle.format.specs.Format.{Rank, wire, plain, Rule, free, distinct, early, late, Fmt, done, number, tag, text, tagged, ◌then◌, list, El, encode, kept, after_key, after_entry, after_all}

-- the ranked bytes of a key as it is written
abbrev pub ranking : Rank → List ℕ → List ℕ
ranking wire k = k
ranking plain k = drop 4 k

abbrev pub shown : Rule → List ℕ → List ℕ
shown free k = k
shown (distinct r) k = ranking r k
shown (early r) k = ranking r k
shown (late r) k = ranking r k

-- the keys to come, after those kept, stand as the rule asks
unfoldable pub in_order : Rule → List (List ℕ) → List (List ℕ) → Bool
in_order u [] ks = after_all u ks
in_order u (k ∷ more) ks = after_key u k ks && (after_entry u k ks && in_order u more (kept u k ks))

module _ {A : Type 0} where
  abbrev pub All : (A → Type 0) → List A → Type 0
  All P [] = Unit
  All P (v ∷ vs) = P v × All P vs

module _ (limit : ℕ) where
  unfoldable pub Holds : (f : Fmt) → El f → Type 0
  Holds done v = Unit
  Holds (number w) v = v < 256 ^ w
  Holds (tag k) v = (v < k) × (v < 256)
  Holds text v = AreBytes v × (length v ≤ limit) × (length v < 256 ^ 4) × (valid_up_to v ≡ length v)
  Holds (tagged k f) v = (v.0 < k) × (v.0 < 256) × Holds (f v.0) v.1
  Holds (a then b) v = Holds a v.0 × Holds b v.1
  Holds (list w l u k r) v =
      (length v < 256 ^ w) × All (λ e. Holds k e.0 × Holds r e.1) v × (in_order u (map (λ e. shown u (encode k e.0)) v) [] ≡ true)
