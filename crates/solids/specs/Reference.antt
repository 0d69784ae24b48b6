-- The reference solids: what ties places and faces to space.
use Rattle.std.specs.Prelude.{Bool, cond, List, [], ◌∷◌, ◌++◌, ℕ, zero, suc, ℤ, pos, nat_abs, ◌+ℤ◌, T, eqb, ◌≡◌, get_or}
use Rattle.std.specs.Int.Signed.{lt_z}
use Rattle.laws.specs.Words.{every}
use Rattle.volume.specs.declared.Point.{Point}
use Rattle.volume.specs.Volume.{sixfold}
use Rattle.solids.specs.Solids.{Place, Vertex, Solid, tetrahedron, pyramid, prism, hexahedron, Face, three, four, Tri, tri, Tet, tet, Element, element, corners, at, on_tet, holds}
use Rattle.solids.specs.Cut.{place_of, cut}

-- a point with coordinates 0 or 1
abbrev point : ℕ → ℕ → ℕ → Point
point x y z = record { x = pos x; y = pos y; z = pos z }

-- the reference hexahedron is the unit cube, 1 at the origin and 2, 4, 5 on the axes
abbrev pub cube : List Point
cube = point 0 0 0 ∷ point 1 0 0 ∷ point 1 1 0 ∷ point 0 1 0 ∷ point 0 0 1 ∷ point 1 0 1 ∷ point 1 1 1 ∷ point 0 1 1 ∷ []

-- its corners 1 2 4 5 6 8 are the reference prism, 1 2 3 4 5 the pyramid, 1 2 4 5 the tetrahedron
abbrev pub cube_corners : Solid → List Place
cube_corners tetrahedron = 1 ∷ 2 ∷ 4 ∷ 5 ∷ []
cube_corners pyramid = 1 ∷ 2 ∷ 3 ∷ 4 ∷ 5 ∷ []
cube_corners prism = 1 ∷ 2 ∷ 4 ∷ 5 ∷ 6 ∷ 8 ∷ []
cube_corners hexahedron = 1 ∷ 2 ∷ 3 ∷ 4 ∷ 5 ∷ 6 ∷ 7 ∷ 8 ∷ []

-- where a place of the reference solid lies
abbrev cube_point : Place → Point
cube_point zero = point 0 0 0
cube_point (suc i) = get_or cube i (point 0 0 0)

abbrev pub point_of : Solid → Place → Point
point_of s p = cube_point (at (cube_corners s) p)

-- the sixfold volume of a tetrahedron of places on the reference solid
unfoldable pub volume_on : Solid → Tet Place → ℤ
volume_on s (tet a b c d) = sixfold (point_of s a) (point_of s b) (point_of s c) (point_of s d)

-- above zero
abbrev pub positive : ℤ → Bool
positive z = lt_z (pos 0) z

-- ---- faces: every listed face runs counterclockwise seen from outside

-- 1, 2, 3 up to n
abbrev pub up_from1 : ℕ → List ℕ
up_from1 zero = []
up_from1 (suc n) = up_from1 n ++ (suc n ∷ [])

-- the places of a solid
abbrev pub places_of : Solid → List Place
places_of s = up_from1 (corners s)

-- three consecutive corners of a face, from each of its corners
abbrev pub bends : Face Place → List (Tri Place)
bends (three p q r) = tri p q r ∷ []
bends (four p q r s) = tri p q r ∷ tri q r s ∷ tri r s p ∷ tri s p q ∷ []

-- seen from p q r, which runs counterclockwise, a corner on the face lies in its plane and every other one behind it
abbrev pub behind : Solid → Face Place → Tri Place → Place → Bool
behind s F (tri p q r) x = let z = volume_on s (tet p q r x) in cond (holds x F) (eqb (nat_abs z) 0) (lt_z z (pos 0))

abbrev pub counterclockwise : Solid → Face Place → Bool
counterclockwise s F = every (λ t. every (behind s F t) (places_of s)) (bends F)

-- ---- cuts: every tetrahedron is positive, and they add up

-- the sixfold volumes of the reference solids
abbrev pub reference_volume : Solid → ℕ
reference_volume tetrahedron = 1
reference_volume pyramid = 2
reference_volume prism = 3
reference_volume hexahedron = 6

-- the volumes of tetrahedra, added up
module _ {A : Type 0} where
  abbrev pub add_up : (A → ℤ) → List A → ℤ
  add_up volume [] = pos 0
  add_up volume (t ∷ ts) = volume t +ℤ add_up volume ts

-- the sixfold volume of an element's tetrahedron, its vertices standing at the places of the reference solid that they have in the element
unfoldable pub standing : Element → Tet Vertex → ℤ
standing (element s vs) t = volume_on s (on_tet (λ v. place_of v vs) t)

-- the solid of an element
abbrev pub solid_in : Element → Solid
solid_in (element s vs) = s

-- on the reference solid every tetrahedron of the cut is positive, and together they have the solid's volume
pub record Filled (e : Element) : Type 0 where
  pub each : T (every (λ t. positive (standing e t)) (cut e))
  pub together : add_up (standing e) (cut e) ≡ pos (reference_volume (solid_in e))
