-- Questions 31 and 32: whether a manifest is bound to a target.
use Rattle.std.specs.Prelude.{ℕ, List, [], ◌∷◌, map, Bool, true, not, cond, length, ltb, eqb}
use Prim.Native.Char.{code}
use Prim.Native.String.{String, [] as none, ◌∷◌ as ◌then◌}
use Rattle.format.specs.Lists.{is_in}
use Rattle.format.specs.Format.{El}
use Rattle.format.specs.Manifest.{blocks, portability, manifest}
use Rattle.format.specs.Fields.{Entry, blocks_of, portability_of, portability_tag, target, class_path}
use Rattle.questions.specs.Sets.{all, any, ◌unless◌}

-- ---- state_manifest.rs, `TARGET_BOUND_CLASSES`: the engine's fifteen
unfoldable pub ascii : String → List ℕ
ascii none = []
ascii (c then s) = code c ∷ ascii s

unfoldable pub target_bound_classes : List (List ℕ)
target_bound_classes =
    map ascii (
    "CDL.Psychrometrics.DewPoint_TDryBulPhi"
    ∷ "CDL.Psychrometrics.SpecificEnthalpy_TDryBulPhi"
    ∷ "CDL.Psychrometrics.WetBulb_TDryBulPhi"
    ∷ "CDL.Reals.Acos"
    ∷ "CDL.Reals.Asin"
    ∷ "CDL.Reals.Atan"
    ∷ "CDL.Reals.Atan2"
    ∷ "CDL.Reals.Cos"
    ∷ "CDL.Reals.Exp"
    ∷ "CDL.Reals.Log"
    ∷ "CDL.Reals.Log10"
    ∷ "CDL.Reals.Sin"
    ∷ "CDL.Reals.Sources.Sin"
    ∷ "CDL.Reals.Tan"
    ∷ "CDL.Utilities.SunRiseSet"
    ∷ []
    )

-- some block's class is among the names
unfoldable pub some_bound : (bound : List (List ℕ)) → List (Entry blocks) → Bool
some_bound bound bs = any (λ b. is_in (class_path b) bound) bs

-- "31. Under revision 2 only: tag 1 exactly if some block's class is in `TARGET_BOUND_CLASSES`?"
unfoldable pub tag_holds : (bound : List (List ℕ)) → (revision : ℕ) → El manifest → Bool
tag_holds bound revision m =
    let tagged = eqb (portability_tag (portability_of m)) 1 in
    cond (eqb revision 2) (cond (some_bound bound (blocks_of m)) tagged (not tagged)) true

-- "32. With tag 1, arch and os not empty?"
unfoldable pub target_holds : El portability → Bool
target_holds p = all (λ name. ltb 0 (length name)) (target p)

unfoldable pub portability_holds : (bound : List (List ℕ)) → (revision : ℕ) → El manifest → List ℕ
portability_holds bound revision m = 31 unless (tag_holds bound revision m) ∷ 32 unless (target_holds (portability_of m)) ∷ []
