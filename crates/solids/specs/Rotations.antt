-- Rotations: reorderings of places that map faces to faces and keep their direction, 12, 4, 6 and 24 of them.
use Rattle.std.specs.Prelude.{Bool, false, ◌&&◌, ◌||◌, List, [], ◌∷◌, map, ℕ, eqb, leb, length}
use Rattle.laws.specs.Words.{every, some, distinct}
use Rattle.solids.specs.Solids.{Place, Solid, tetrahedron, pyramid, prism, hexahedron, Face, three, four, Element, element, corners, faces, at, on_face}

-- the same corners in the same order
abbrev pub eq_face : Face ℕ → Face ℕ → Bool
eq_face (three a b c) (three p q r) = eqb a p && (eqb b q && eqb c r)
eq_face (three a b c) (four p q r s) = false
eq_face (four a b c d) (three p q r) = false
eq_face (four a b c d) (four p q r s) = eqb a p && (eqb b q && (eqb c r && eqb d s))

-- the same cycle, read from any of its corners
abbrev pub same_face : Face ℕ → Face ℕ → Bool
same_face (three a b c) F = eq_face (three a b c) F || (eq_face (three b c a) F || eq_face (three c a b) F)
same_face (four a b c d) F = eq_face (four a b c d) F || (eq_face (four b c d a) F || (eq_face (four c d a b) F || eq_face (four d a b c) F))

-- the places of a solid, each once, in another order
abbrev pub is_reordering : Solid → List Place → Bool
is_reordering s ρ = eqb (length ρ) (corners s) && (every (λ p. leb 1 p && leb p (corners s)) ρ && distinct ρ)

-- each face goes to a face that runs in the same direction
abbrev pub keeps_faces : Solid → List Place → Bool
keeps_faces s ρ = every (λ F. some (same_face (on_face (at ρ) F)) (faces s)) (faces s)

-- a reordering of places that maps faces to faces and keeps their direction
abbrev pub is_rotation : Solid → List Place → Bool
is_rotation s ρ = is_reordering s ρ && keeps_faces s ρ

-- an element relisted: its place i holds what stood at place ρ i
abbrev pub relisted : List Place → Element → Element
relisted ρ (element s vs) = element s (map (at vs) ρ)

-- the rotations of each solid
abbrev pub rotations : Solid → List (List Place)
rotations tetrahedron =
    (1 ∷ 2 ∷ 3 ∷ 4 ∷ []) ∷
    (1 ∷ 3 ∷ 4 ∷ 2 ∷ []) ∷
    (1 ∷ 4 ∷ 2 ∷ 3 ∷ []) ∷
    (2 ∷ 1 ∷ 4 ∷ 3 ∷ []) ∷
    (2 ∷ 3 ∷ 1 ∷ 4 ∷ []) ∷
    (2 ∷ 4 ∷ 3 ∷ 1 ∷ []) ∷
    (3 ∷ 1 ∷ 2 ∷ 4 ∷ []) ∷
    (3 ∷ 2 ∷ 4 ∷ 1 ∷ []) ∷
    (3 ∷ 4 ∷ 1 ∷ 2 ∷ []) ∷
    (4 ∷ 1 ∷ 3 ∷ 2 ∷ []) ∷
    (4 ∷ 2 ∷ 1 ∷ 3 ∷ []) ∷
    (4 ∷ 3 ∷ 2 ∷ 1 ∷ []) ∷
    []
rotations pyramid =
    (1 ∷ 2 ∷ 3 ∷ 4 ∷ 5 ∷ []) ∷
    (2 ∷ 3 ∷ 4 ∷ 1 ∷ 5 ∷ []) ∷
    (3 ∷ 4 ∷ 1 ∷ 2 ∷ 5 ∷ []) ∷
    (4 ∷ 1 ∷ 2 ∷ 3 ∷ 5 ∷ []) ∷
    []
rotations prism =
    (1 ∷ 2 ∷ 3 ∷ 4 ∷ 5 ∷ 6 ∷ []) ∷
    (2 ∷ 3 ∷ 1 ∷ 5 ∷ 6 ∷ 4 ∷ []) ∷
    (3 ∷ 1 ∷ 2 ∷ 6 ∷ 4 ∷ 5 ∷ []) ∷
    (4 ∷ 6 ∷ 5 ∷ 1 ∷ 3 ∷ 2 ∷ []) ∷
    (5 ∷ 4 ∷ 6 ∷ 2 ∷ 1 ∷ 3 ∷ []) ∷
    (6 ∷ 5 ∷ 4 ∷ 3 ∷ 2 ∷ 1 ∷ []) ∷
    []
rotations hexahedron =
    (1 ∷ 2 ∷ 3 ∷ 4 ∷ 5 ∷ 6 ∷ 7 ∷ 8 ∷ []) ∷
    (1 ∷ 4 ∷ 8 ∷ 5 ∷ 2 ∷ 3 ∷ 7 ∷ 6 ∷ []) ∷
    (1 ∷ 5 ∷ 6 ∷ 2 ∷ 4 ∷ 8 ∷ 7 ∷ 3 ∷ []) ∷
    (2 ∷ 1 ∷ 5 ∷ 6 ∷ 3 ∷ 4 ∷ 8 ∷ 7 ∷ []) ∷
    (2 ∷ 3 ∷ 4 ∷ 1 ∷ 6 ∷ 7 ∷ 8 ∷ 5 ∷ []) ∷
    (2 ∷ 6 ∷ 7 ∷ 3 ∷ 1 ∷ 5 ∷ 8 ∷ 4 ∷ []) ∷
    (3 ∷ 2 ∷ 6 ∷ 7 ∷ 4 ∷ 1 ∷ 5 ∷ 8 ∷ []) ∷
    (3 ∷ 4 ∷ 1 ∷ 2 ∷ 7 ∷ 8 ∷ 5 ∷ 6 ∷ []) ∷
    (3 ∷ 7 ∷ 8 ∷ 4 ∷ 2 ∷ 6 ∷ 5 ∷ 1 ∷ []) ∷
    (4 ∷ 1 ∷ 2 ∷ 3 ∷ 8 ∷ 5 ∷ 6 ∷ 7 ∷ []) ∷
    (4 ∷ 3 ∷ 7 ∷ 8 ∷ 1 ∷ 2 ∷ 6 ∷ 5 ∷ []) ∷
    (4 ∷ 8 ∷ 5 ∷ 1 ∷ 3 ∷ 7 ∷ 6 ∷ 2 ∷ []) ∷
    (5 ∷ 1 ∷ 4 ∷ 8 ∷ 6 ∷ 2 ∷ 3 ∷ 7 ∷ []) ∷
    (5 ∷ 6 ∷ 2 ∷ 1 ∷ 8 ∷ 7 ∷ 3 ∷ 4 ∷ []) ∷
    (5 ∷ 8 ∷ 7 ∷ 6 ∷ 1 ∷ 4 ∷ 3 ∷ 2 ∷ []) ∷
    (6 ∷ 2 ∷ 1 ∷ 5 ∷ 7 ∷ 3 ∷ 4 ∷ 8 ∷ []) ∷
    (6 ∷ 5 ∷ 8 ∷ 7 ∷ 2 ∷ 1 ∷ 4 ∷ 3 ∷ []) ∷
    (6 ∷ 7 ∷ 3 ∷ 2 ∷ 5 ∷ 8 ∷ 4 ∷ 1 ∷ []) ∷
    (7 ∷ 3 ∷ 2 ∷ 6 ∷ 8 ∷ 4 ∷ 1 ∷ 5 ∷ []) ∷
    (7 ∷ 6 ∷ 5 ∷ 8 ∷ 3 ∷ 2 ∷ 1 ∷ 4 ∷ []) ∷
    (7 ∷ 8 ∷ 4 ∷ 3 ∷ 6 ∷ 5 ∷ 1 ∷ 2 ∷ []) ∷
    (8 ∷ 4 ∷ 3 ∷ 7 ∷ 5 ∷ 1 ∷ 2 ∷ 6 ∷ []) ∷
    (8 ∷ 5 ∷ 1 ∷ 4 ∷ 7 ∷ 6 ∷ 2 ∷ 3 ∷ []) ∷
    (8 ∷ 7 ∷ 6 ∷ 5 ∷ 4 ∷ 3 ∷ 2 ∷ 1 ∷ []) ∷
    []
