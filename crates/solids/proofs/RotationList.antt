-- Each listed rotation is one, and there are as many as the page says.
use mathlib.Core.Path.{◌≡◌, refl}
use mathlib.Core.List.{[], ◌∷◌, map}
use lib.Dec.{T}
use lib.ListN.{length}
use Rattle.laws.specs.Words.{every}
use Rattle.solids.specs.Solids.{Solid, tetrahedron, pyramid, prism, hexahedron}
use Rattle.solids.specs.Rotations.{is_rotation, rotations}

pub are_rotations : (s : Solid) → T (every (is_rotation s) (rotations s))
are_rotations tetrahedron = tt
are_rotations pyramid = tt
are_rotations prism = tt
are_rotations hexahedron = tt

pub how_many : map (λ s. length (rotations s)) (tetrahedron ∷ pyramid ∷ prism ∷ hexahedron ∷ []) ≡ 12 ∷ 4 ∷ 6 ∷ 24 ∷ []
how_many = refl
