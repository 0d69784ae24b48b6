-- Two rotations of each solid make all of them: each listed rotation as a word in the two.
-- Assumes nothing.
use mathlib.Core.Path.{◌≡◌, refl}
use mathlib.Core.List.{List, [], ◌∷◌, map}
use Prim.Native.Nat.{ℕ, zero, suc}
use Rattle.solids.specs.Solids.{Solid, tetrahedron, pyramid, prism, hexahedron, at}
use Rattle.solids.specs.Rotations.{rotations}

abbrev pub gen : Solid → ℕ → List ℕ
gen tetrahedron zero = 1 ∷ 3 ∷ 4 ∷ 2 ∷ []
gen tetrahedron (suc i) = 2 ∷ 1 ∷ 4 ∷ 3 ∷ []
gen pyramid zero = 2 ∷ 3 ∷ 4 ∷ 1 ∷ 5 ∷ []
gen pyramid (suc i) = 3 ∷ 4 ∷ 1 ∷ 2 ∷ 5 ∷ []
gen prism zero = 2 ∷ 3 ∷ 1 ∷ 5 ∷ 6 ∷ 4 ∷ []
gen prism (suc i) = 4 ∷ 6 ∷ 5 ∷ 1 ∷ 3 ∷ 2 ∷ []
gen hexahedron zero = 1 ∷ 4 ∷ 8 ∷ 5 ∷ 2 ∷ 3 ∷ 7 ∷ 6 ∷ []
gen hexahedron (suc i) = 2 ∷ 6 ∷ 7 ∷ 3 ∷ 1 ∷ 5 ∷ 8 ∷ 4 ∷ []

pub data Word : Type 0 where
  word : ℕ → List ℕ → Word

-- turn by the first, then by the rest
abbrev pub product : Solid → ℕ → List ℕ → List ℕ
product s i [] = gen s i
product s i (j ∷ w) = map (at (gen s i)) (product s j w)

abbrev pub product_of : Solid → Word → List ℕ
product_of s (word i w) = product s i w

abbrev pub words : Solid → List Word
words tetrahedron =
    word 1 (1 ∷ []) ∷
    word 0 ([]) ∷
    word 0 (0 ∷ []) ∷
    word 1 ([]) ∷
    word 1 (0 ∷ 0 ∷ []) ∷
    word 1 (0 ∷ []) ∷
    word 0 (1 ∷ []) ∷
    word 0 (1 ∷ 0 ∷ []) ∷
    word 0 (1 ∷ 0 ∷ 0 ∷ []) ∷
    word 0 (0 ∷ 1 ∷ []) ∷
    word 1 (0 ∷ 1 ∷ []) ∷
    word 0 (0 ∷ 1 ∷ 0 ∷ []) ∷
    []
words pyramid =
    word 1 (1 ∷ []) ∷
    word 0 ([]) ∷
    word 1 ([]) ∷
    word 1 (0 ∷ []) ∷
    []
words prism =
    word 1 (1 ∷ []) ∷
    word 0 ([]) ∷
    word 0 (0 ∷ []) ∷
    word 1 ([]) ∷
    word 0 (1 ∷ []) ∷
    word 1 (0 ∷ []) ∷
    []
words hexahedron =
    word 0 (0 ∷ 0 ∷ []) ∷
    word 0 ([]) ∷
    word 0 (0 ∷ []) ∷
    word 1 (0 ∷ 0 ∷ []) ∷
    word 1 (0 ∷ []) ∷
    word 1 ([]) ∷
    word 0 (1 ∷ 1 ∷ []) ∷
    word 1 (0 ∷ 1 ∷ 0 ∷ []) ∷
    word 1 (0 ∷ 1 ∷ []) ∷
    word 0 (1 ∷ 0 ∷ 0 ∷ []) ∷
    word 0 (1 ∷ []) ∷
    word 0 (1 ∷ 0 ∷ []) ∷
    word 1 (1 ∷ 1 ∷ []) ∷
    word 0 (0 ∷ 1 ∷ 0 ∷ []) ∷
    word 0 (0 ∷ 1 ∷ []) ∷
    word 1 (1 ∷ 0 ∷ 0 ∷ []) ∷
    word 1 (1 ∷ []) ∷
    word 1 (1 ∷ 0 ∷ []) ∷
    word 1 (1 ∷ 0 ∷ 1 ∷ 0 ∷ []) ∷
    word 1 (0 ∷ 1 ∷ 1 ∷ []) ∷
    word 1 (1 ∷ 0 ∷ 1 ∷ []) ∷
    word 0 (0 ∷ 1 ∷ 1 ∷ []) ∷
    word 0 (1 ∷ 0 ∷ 1 ∷ 0 ∷ []) ∷
    word 0 (1 ∷ 0 ∷ 1 ∷ []) ∷
    []

pub words_right : (s : Solid) → rotations s ≡ map (product_of s) (words s)
words_right tetrahedron = refl
words_right pyramid = refl
words_right prism = refl
words_right hexahedron = refl
