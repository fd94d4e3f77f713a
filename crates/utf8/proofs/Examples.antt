-- Examples, as tables with one theorem over all rows each.
use Prim.Native.Nat.{ℕ}
use mathlib.Core.List.{List, [], ◌∷◌, ◌++◌, map}
use mathlib.Core.Path.{◌≡◌, refl}
use Rattle.utf8.specs.Rfc3629.{encode}
use Rattle.utf8.specs.Valid.{valid_up_to}

-- RFC 3629, section 7: characters, and the octets that it gives for them
abbrev written : List (List ℕ × List ℕ)
written =
    (0x41 ∷ 0x2262 ∷ 0x391 ∷ 0x2e ∷ [], 0x41 ∷ 0xe2 ∷ 0x89 ∷ 0xa2 ∷ 0xce ∷ 0x91 ∷ 0x2e ∷ [])
    ∷ (0xd55c ∷ 0xad6d ∷ 0xc5b4 ∷ [], 0xed ∷ 0x95 ∷ 0x9c ∷ 0xea ∷ 0xb5 ∷ 0xad ∷ 0xec ∷ 0x96 ∷ 0xb4 ∷ [])
    ∷ (0x65e5 ∷ 0x672c ∷ 0x8a9e ∷ [], 0xe6 ∷ 0x97 ∷ 0xa5 ∷ 0xe6 ∷ 0x9c ∷ 0xac ∷ 0xe8 ∷ 0xaa ∷ 0x9e ∷ [])
    ∷ (0xfeff ∷ 0x233b4 ∷ [], 0xef ∷ 0xbb ∷ 0xbf ∷ 0xf0 ∷ 0xa3 ∷ 0x8e ∷ 0xb4 ∷ [])
    ∷ []

abbrev encode_all : List ℕ → List ℕ
encode_all [] = []
encode_all (v ∷ vs) = encode v ++ encode_all vs

written-so : map (λ row. encode_all row.0) written ≡ map (λ row. row.1) written
written-so = refl

-- octets, and where the text in them ends
abbrev judged : List (List ℕ × ℕ)
judged =
    (0x41 ∷ 0xe2 ∷ 0x89 ∷ 0xa2 ∷ 0xce ∷ 0x91 ∷ 0xf0 ∷ 0xa3 ∷ 0x8e ∷ 0xb4 ∷ 0x2e ∷ [], 11)
    ∷ (0x2f ∷ 0xc0 ∷ 0xae ∷ 0x2e ∷ [], 1)  -- overlong, of two (section 10) and of three
    ∷ (0xe0 ∷ 0x9f ∷ 0xbf ∷ [], 0)
    ∷ (0x41 ∷ 0xed ∷ 0xa0 ∷ 0x80 ∷ [], 1)  -- a surrogate
    ∷ (0xf4 ∷ 0x8f ∷ 0xbf ∷ 0xbf ∷ [], 4)  -- the last character, and one past it
    ∷ (0xf4 ∷ 0x90 ∷ 0x80 ∷ 0x80 ∷ [], 0)
    ∷ (0x41 ∷ 0xe2 ∷ 0x89 ∷ [], 1)  -- a character cut off
    ∷ (0xdf ∷ 0xbf ∷ 0xe0 ∷ 0xa0 ∷ 0x80 ∷ 0xf0 ∷ 0x90 ∷ 0x80 ∷ 0x80 ∷ [], 9)  -- the last of two octets, the first of three and of four
    ∷ []

judged-so : map (λ row. valid_up_to row.0) judged ≡ map (λ row. row.1) judged
unfolding valid_up_to
judged-so = refl
