-- The computed tests on the reference solids: every face runs counterclockwise, every tetrahedron of every shape and of every row is positive
-- in all its even reorderings, and the tetrahedra add up.
-- Assumes nothing.
use mathlib.Core.Bool.{Bool, false, ◌&&◌}
use mathlib.Core.List.{List}
use Prim.Native.Nat.{ℕ}
use lib.Dec.{T, eqb}
use lib.IntN.{ℤ, pos, negsuc}
use Rattle.laws.specs.Words.{every}
use Rattle.volume.specs.Volume.{minus, minor, determinant, sixfold}
use Rattle.solids.specs.Solids.{Solid, tetrahedron, pyramid, prism, hexahedron, Tet, corners, faces, of_tet}
use Rattle.solids.specs.Rows.{hex_rows, row_places, row_tets}
use Rattle.solids.specs.Reference.{volume_on, positive, counterclockwise, reference_volume, add_up}
use Rattle.laws.proofs.TestLaws.{below}
use Rattle.solids.proofs.NumberingLaws.{inside}
use Rattle.solids.proofs.ShapeLaws.{shape}
use Rattle.solids.proofs.HalfLaws.{all_halves}
use Rattle.solids.proofs.EvenReorderings.{evens}

-- ---- faces

pub faces-counterclockwise : (s : Solid) → T (every (counterclockwise s) (faces s))
unfolding volume_on sixfold determinant minor minus
faces-counterclockwise tetrahedron = tt
faces-counterclockwise pyramid = tt
faces-counterclockwise prism = tt
faces-counterclockwise hexahedron = tt

-- ---- tetrahedra in places

abbrev pub same_z : ℤ → ℤ → Bool
same_z (pos a) (pos b) = eqb a b
same_z (pos a) (negsuc b) = false
same_z (negsuc a) (pos b) = false
same_z (negsuc a) (negsuc b) = eqb a b

-- positive, the same in each even reordering, and of places of the solid
abbrev pub tet_ok : Solid → Tet ℕ → Bool
tet_ok s t = let z = volume_on s t in positive z && (every (λ u. same_z (volume_on s u) z) (evens t) && every (inside (corners s)) (of_tet t))

abbrev pub shape_ok : Solid → ℕ → List ℕ → Bool
shape_ok s a ks = let ts = shape s a ks in every (tet_ok s) ts && same_z (add_up (volume_on s) ts) (pos (reference_volume s))

pub shapes_fill : (s : Solid) → T (all_halves s (shape_ok s))
unfolding volume_on sixfold determinant minor minus
shapes_fill tetrahedron = tt
shapes_fill pyramid = tt
shapes_fill prism = tt
shapes_fill hexahedron = tt

-- every row of the table is positive and fills the cube
abbrev pub row_ok : ℕ → Bool
row_ok r = let ts = row_tets (row_places r) in every (λ t. positive (volume_on hexahedron t)) ts && same_z (add_up (volume_on hexahedron) ts) (pos 6)

pub rows_fill : T (below 64 row_ok)
unfolding volume_on sixfold determinant minor minus row_places hex_rows
rows_fill = tt
