-- A universe of formats: what the values of a format are, how bytes are read as one, and how one is written.
use Rattle.std.specs.Prelude.{ℕ, zero, suc, ◌+◌, List, [], ◌∷◌, ◌++◌, Bool, true, length, get_or}
use Rattle.state.specs.Bytes.{span, bytes_of}
use Rattle.state.specs.Outcome.{Outcome, got, bind, ask, step_of, Stepped}
use Rattle.state_wire.specs.Fields.{read_number, read_tag, read_count, read_text}
use Rattle.format.specs.Lists.{before, all_different}

-- by which of its bytes a key is ranked: all, as written; a string's text alone, after the four bytes of its length
pub data Rank : Type 0 where
  wire : Rank
  plain : Rank

-- how the keys of a list stand: anyhow; all different (question 8); each above the one before it (question 9), asked right after the key or
-- after the whole entry
pub data Rule : Type 0 where
  free : Rule
  distinct : Rank → Rule
  early : Rank → Rule
  late : Rank → Rule

pub data Fmt : Type 0 where
  done : Fmt  -- no bytes
  number : (width : ℕ) → Fmt  -- so many bytes, the lowest first
  tag : (known : ℕ) → Fmt  -- a byte below a number
  text : Fmt  -- a string: its length in four bytes, then its text
  tagged : (known : ℕ) → (ℕ → Fmt) → Fmt  -- a tag, and then what it chooses
  ◌then◌ : Fmt → Fmt → Fmt  -- one after the other
  list : (width least : ℕ) → Rule → (key rest : Fmt) → Fmt  -- a count in so many bytes, and the entries: a key and a rest

infixr 20 ◌then◌
abbrev pub El : Fmt → Type 0
El done = Unit
El (number w) = ℕ
El (tag k) = ℕ
El text = List ℕ
El (tagged k f) = (t : ℕ) × El (f t)
El (a then b) = El a × El b
El (list w l u k r) = List (El k × El r)

-- ---- reading

-- where the ranked bytes of a key that starts at a position start
abbrev pub ranked : Rank → ℕ → ℕ
ranked wire at = at
ranked plain at = at + 4

abbrev pub from : Rule → ℕ → ℕ
from free at = at
from (distinct r) at = ranked r at
from (early r) at = ranked r at
from (late r) at = ranked r at

-- the keys that later ones are held against: the last one, or all of them
abbrev pub kept : Rule → List ℕ → List (List ℕ) → List (List ℕ)
kept free k ks = k ∷ []
kept (distinct r) k ks = ks ++ (k ∷ [])
kept (early r) k ks = k ∷ []
kept (late r) k ks = k ∷ []

abbrev pub above : List ℕ → List (List ℕ) → Bool
above k [] = true
above k (l ∷ ls) = before l k

-- what is asked after a key, after an entry, and after all entries
abbrev pub after_key : Rule → List ℕ → List (List ℕ) → Bool
after_key free k ks = true
after_key (distinct r) k ks = true
after_key (early r) k ks = above k ks
after_key (late r) k ks = true

abbrev pub after_entry : Rule → List ℕ → List (List ℕ) → Bool
after_entry free k ks = true
after_entry (distinct r) k ks = true
after_entry (early r) k ks = true
after_entry (late r) k ks = above k ks

abbrev pub after_all : Rule → List (List ℕ) → Bool
after_all free ks = true
after_all (distinct r) ks = all_different ks
after_all (early r) ks = true
after_all (late r) ks = true

-- n entries from a position on, held against the keys ks. "8. Members of a class all different? 8, after the last member. 9. Key above the one
-- before? 9, after the entry (input definitions: after the path)"
module _ {K R : Type 0} (u : Rule) (key : List ℕ → ℕ → Outcome K) (rest : List ℕ → ℕ → Outcome R) (s : List ℕ) where
  abbrev pub entries : (n at : ℕ) → List (List ℕ) → Outcome (List (K × R))
  entries zero at ks = ask (after_all u ks) 8 at (got [] at)
  entries (suc n) at ks =
      bind (key s at) (λ k m.
      ask (after_key u (span s (from u at) m) ks) 9 m (
      bind (rest s m) (λ r e.
      ask (after_entry u (span s (from u at) m) ks) 9 e (
      bind (entries n e (kept u (span s (from u at) m) ks)) (λ vs z.
      got ((k, r) ∷ vs) z)))))

-- document 01, "At each field, in wire order": questions 3 to 9, under a limit for strings
module _ (limit : ℕ) where
  unfoldable pub read : (f : Fmt) → List ℕ → ℕ → Outcome (El f)
  read done s at = got tt at
  read (number w) s at = read_number w s at
  read (tag k) s at = read_tag k s at
  read text s at = read_text limit s at
  read (tagged k f) s at = bind (read_tag k s at) (λ t m. bind (read (f t) s m) (λ v n. got (t, v) n))
  read (a then b) s at = bind (read a s at) (λ v m. bind (read b s m) (λ w n. got (v, w) n))
  read (list w l u k r) s at = bind (read_count w l s at) (λ n m. entries u (read k) (read r) s n m [])

  -- the same with the value forgotten: what code that walks over the bytes answers
  unfoldable pub scan : Fmt → List ℕ → ℕ → Stepped
  scan f s at = step_of (read f s at)

  unfoldable pub scan_entries : Rule → (key rest : Fmt) → List ℕ → (n at : ℕ) → List (List ℕ) → Stepped
  scan_entries u k r s n at ks = step_of (entries u (read k) (read r) s n at ks)

-- ---- writing
module _ {A : Type 0} where
  abbrev pub each : (A → List ℕ) → List A → List ℕ
  each f [] = []
  each f (v ∷ vs) = f v ++ each f vs

unfoldable pub encode : (f : Fmt) → El f → List ℕ
encode done v = []
encode (number w) v = bytes_of w v
encode (tag k) v = v ∷ []
encode text v = bytes_of 4 (length v) ++ v
encode (tagged k f) v = v.0 ∷ encode (f v.0) v.1
encode (a then b) v = encode a v.0 ++ encode b v.1
encode (list w l u k r) v = bytes_of w (length v) ++ each (λ e. encode k e.0 ++ encode r e.1) v

-- a tag that chooses among the formats listed
abbrev pub choice : List Fmt → Fmt
choice fs = tagged (length fs) (λ t. get_or fs t done)
