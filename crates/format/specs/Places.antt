-- Where the parts of bytes that were read stand.
use Rattle.state.specs.Outcome.{Stepped}
use Rattle.std.specs.Prelude.{Err, ℕ, zero, suc, ◌+◌, ◌-◌, min, List, [], ◌∷◌, ◌++◌, cond, length, get_or, leb, Ok}
use Rattle.state.specs.Bytes.{span, number_of}
use Rattle.format.specs.Format.{Fmt, done, number, tag, text, tagged, ◌then◌, list, from, scan}
use Rattle.format.specs.Manifest.{Section, counted, entry, lists, sections, portability}

abbrev pub end_of : Stepped → ℕ
end_of (Ok n) = n
end_of (Err d) = d.at

-- how many entries the list at a position counts
abbrev pub count_at : List ℕ → ℕ → ℕ
count_at s at = number_of (span s at (at + 4))

module _ (limit : ℕ) where
  -- where the value that is read at a position ends
  abbrev pub end_at : Fmt → List ℕ → ℕ → ℕ
  end_at f s at = end_of (scan limit f s at)

  -- where n values of a format start that stand one after the other
  unfoldable pub starts : Fmt → List ℕ → (n at : ℕ) → List ℕ
  starts f s zero at = []
  starts f s (suc n) at = at ∷ starts f s n (end_at f s at)

  -- where the sections start. "By this layout a section runs from its tag or count to where the next one begins, section 12 to the
  -- manifest's end"
  unfoldable pub section_starts : List Fmt → List ℕ → ℕ → List ℕ
  section_starts [] s at = []
  section_starts (f ∷ fs) s at = at ∷ section_starts fs s (end_at f s at)

  -- where the entries start, section by section
  unfoldable pub entry_starts : List Section → List ℕ → ℕ → List ℕ
  entry_starts [] s at = []
  entry_starts (e ∷ es) s at = starts (entry e) s (count_at s at) (at + 4) ++ entry_starts es s (end_at (counted e) s at)

  -- of a whole manifest
  unfoldable pub manifest_starts : List ℕ → List ℕ
  manifest_starts s = section_starts sections s 0

  -- section k starts there, and section 13 would at the manifest's end; so section k ends where section k + 1 starts
  unfoldable pub section_start : (k : ℕ) → List ℕ → ℕ
  section_start k s = get_or (manifest_starts s) (k - 1) (length s)

  abbrev pub section_end : (k : ℕ) → List ℕ → ℕ
  section_end k s = section_start (k + 1) s

  unfoldable pub manifest_entries : List ℕ → List ℕ
  manifest_entries s = entry_starts lists s (end_at portability s 0)

-- the number that so many bytes at a position spell; 0 where there are fewer
unfoldable pub number_at : (width : ℕ) → List ℕ → ℕ → ℕ
number_at w s at = cond (leb (at + w) (length s)) (number_of (span s at (at + w))) 0

-- ---- where a value ends, by its lengths and tags alone: at most at the end of the bytes, whatever they are. Where it was read, this is where it
-- ends (proofs/Values.antt)
-- n entries further on
abbrev pub skip : (key rest : ℕ → ℕ) → (n at : ℕ) → ℕ
skip key rest zero at = at
skip key rest (suc n) at = skip key rest n (rest (key at))

unfoldable pub past : Fmt → List ℕ → ℕ → ℕ
past done s at = at
past (number w) s at = min (at + w) (length s)
past (tag k) s at = min (at + 1) (length s)
past text s at = min (at + 4 + count_at s at) (length s)
past (tagged k f) s at = past (f (get_or s at 0)) s (min (at + 1) (length s))
past (a then b) s at = past b s (past a s at)
past (list w l u k r) s at = skip (past k s) (past r s) (number_at w s at) (min (at + w) (length s))

-- the ranked bytes of the key of an entry that starts at a position
unfoldable pub key_at : Section → List ℕ → ℕ → List ℕ
key_at e s at = span s (from e.rule at) (past e.key s at)
