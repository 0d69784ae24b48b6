-- Corners listed in an order that a rotation gives: the cut is the same.
-- Assumes nothing.
use mathlib.Core.Bool.{Bool, ◌&&◌}
use mathlib.Core.List.{List, map}
use Prim.Native.Nat.{ℕ, zero, suc}
use lib.Dec.{eqb, T}
use lib.ListN.{length}
use Rattle.laws.specs.Words.{every, among, distinct}
use Rattle.solids.specs.Solids.{Solid, tetrahedron, pyramid, prism, hexahedron, Face, Tet, corners, at, on_face, on_tet, of_face, of_tet}
use Rattle.solids.specs.Cut.{in_order}
use Rattle.laws.proofs.TestLaws.{below}
use Rattle.solids.proofs.RenamingLaws.{apart}
use Rattle.solids.proofs.NumberingLaws.{inside}
use Rattle.solids.proofs.ShapeLaws.{far, shape}
use Rattle.solids.proofs.RowLaws.{eq_tets}
use Rattle.solids.proofs.TurnLaws.{look_for, matched, apart_faces}
use Rattle.solids.proofs.HalfLaws.{all_halves}
use Rattle.solids.proofs.RotationWords.{gen}

-- The test of one rotation: the tetrahedra in places, turned, are those of the turned lowest place and diagonals.
abbrev pub inside_all : ℕ → List (Tet ℕ) → Bool
inside_all n = every (λ t. every (inside n) (of_tet t))

abbrev pub faces_in : ℕ → List (Face ℕ) → Bool
faces_in n = every (λ F. every (inside n) (of_face F))

abbrev pub rot_ok : Solid → List ℕ → ℕ → List ℕ → Bool
rot_ok s ρ a hs =
    let Xs = map (on_face (at ρ)) (far s a) in
    let fs = far s (at ρ a) in
    let t = shape s a hs in
    let v = map (on_tet (at ρ)) t in
    let u = shape s (at ρ a) (map (look_for Xs hs) fs) in
    eq_tets (in_order v) (in_order u) && (apart v && (apart u && (inside_all (corners s) t && (faces_in (corners s) (far s a) && (apart_faces Xs && every (matched Xs) fs)))))

abbrev pub list_ok : Solid → List ℕ → Bool
list_ok s ρ = eqb (length ρ) (corners s) && (every (inside (corners s)) ρ && (distinct ρ && below (corners s) (λ i. among (suc i) ρ)))

abbrev pub turn_ok : Solid → List ℕ → Bool
turn_ok s ρ = list_ok s ρ && all_halves s (rot_ok s ρ)

pub all_turn : (s : Solid) (i : ℕ) → T (turn_ok s (gen s i))
all_turn tetrahedron zero = tt
all_turn tetrahedron (suc i) = tt
all_turn pyramid zero = tt
all_turn pyramid (suc i) = tt
all_turn prism zero = tt
all_turn prism (suc i) = tt
all_turn hexahedron zero = tt
all_turn hexahedron (suc i) = tt
