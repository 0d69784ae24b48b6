-- The cut: the page's section of that name, sentence by sentence. It reads vertex numbers and no coordinates.
use Rattle.std.specs.Prelude.{Bool, true, false, cond, not, ◌||◌, List, [], ◌∷◌, map, ℕ, zero, suc, eqb, ltb, get_or}
use Rattle.laws.specs.Words.{keep, count, gather, lowest}
use Rattle.solids.specs.Solids.{Place, Vertex, tetrahedron, pyramid, prism, hexahedron, Face, three, four, Tri, tri, Tet, tet, Element, element, at, opposite, on_tet, of_tet, holds, corners_of, faces_of}

-- ---- the cut of a face

-- a face turned k times: the same cycle, read from a later corner
abbrev pub turned : ℕ → Face ℕ → Face ℕ
turned k (three p q r) = three p q r
turned zero (four p q r s) = four p q r s
turned (suc k) (four p q r s) = turned k (four q r s p)

-- how often a face is turned for its lowest vertex number to come first
abbrev pub turns : Face ℕ → ℕ
turns (three p q r) = 0
turns (four p q r s) = let m = lowest (p ∷ q ∷ r ∷ s ∷ []) in cond (eqb p m) 0 (cond (eqb q m) 1 (cond (eqb r m) 2 3))

-- a four-cornered face p q r s, turned so that p has the lowest vertex number
abbrev pub lowest_first : Face ℕ → Face ℕ
lowest_first f = turned (turns f) f

-- p q r s becomes the triangles p q r and p r s
abbrev pub halves : Face ℕ → List (Tri ℕ)
halves (three p q r) = tri p q r ∷ []
halves (four p q r s) = tri p q r ∷ tri p r s ∷ []

abbrev pub cut_face : Face ℕ → List (Tri ℕ)
cut_face f = halves (lowest_first f)

-- ---- the cut of an element

-- the lowest-numbered corner
abbrev pub lowest_of : Element → Vertex
lowest_of e = lowest (corners_of e)

-- the faces that do not hold the lowest corner
abbrev pub far_faces : Element → List (Face Vertex)
far_faces e = keep (λ f. not (holds (lowest_of e) f)) (faces_of e)

-- a corner, followed by a triangle
abbrev pub follow : ℕ → Tri ℕ → Tet ℕ
follow v (tri p q r) = tet v p q r

-- the lowest corner, followed by each triangle of the cut faces that do not hold it
abbrev pub fan : Element → List (Tet Vertex)
fan e = map (follow (lowest_of e)) (gather cut_face (far_faces e))

-- ---- one exception, for a hexahedron

-- the place, from 1, where a number stands
abbrev pub place_of : Vertex → List Vertex → Place
place_of v [] = 0
place_of v (w ∷ ws) = cond (eqb v w) 1 (suc (place_of v ws))

-- the place of the lowest corner
abbrev pub first : List Vertex → Place
first vs = place_of (lowest vs) vs

-- v is an end of the diagonal p r of p q r s
abbrev pub on_diagonal : ℕ → Face ℕ → Bool
on_diagonal v (three p q r) = false
on_diagonal v (four p q r s) = eqb v p || eqb v r

-- of each far face: whether its diagonal goes through the corner opposite to the lowest
abbrev pub bits_of : List Vertex → List Bool
bits_of vs = map (λ f. on_diagonal (at vs (opposite (first vs))) (lowest_first f)) (far_faces (element hexahedron vs))

-- n: how many of the three far faces have their diagonal through the corner opposite to the lowest
abbrev pub through : List Vertex → ℕ
through vs = count (λ b. b) (bits_of vs)

-- document 001, table 4: its row a turns the hexahedron so that place a comes to place 1
abbrev pub turnings : List (List Place)
turnings =
    (1 ∷ 2 ∷ 3 ∷ 4 ∷ 5 ∷ 6 ∷ 7 ∷ 8 ∷ []) ∷
    (2 ∷ 1 ∷ 5 ∷ 6 ∷ 3 ∷ 4 ∷ 8 ∷ 7 ∷ []) ∷
    (3 ∷ 2 ∷ 6 ∷ 7 ∷ 4 ∷ 1 ∷ 5 ∷ 8 ∷ []) ∷
    (4 ∷ 1 ∷ 2 ∷ 3 ∷ 8 ∷ 5 ∷ 6 ∷ 7 ∷ []) ∷
    (5 ∷ 1 ∷ 4 ∷ 8 ∷ 6 ∷ 2 ∷ 3 ∷ 7 ∷ []) ∷
    (6 ∷ 2 ∷ 1 ∷ 5 ∷ 7 ∷ 3 ∷ 4 ∷ 8 ∷ []) ∷
    (7 ∷ 3 ∷ 2 ∷ 6 ∷ 8 ∷ 4 ∷ 1 ∷ 5 ∷ []) ∷
    (8 ∷ 4 ∷ 3 ∷ 7 ∷ 5 ∷ 1 ∷ 2 ∷ 6 ∷ []) ∷
    []

-- the lowest corner turned to place 1
abbrev pub to_first : Place → List Place
to_first zero = []
to_first (suc a) = get_or turnings a []

-- document 001, table 6, n = 0: the five tetrahedra
abbrev pub five : List (Tet Place)
five = tet 1 2 3 6 ∷ tet 1 3 8 6 ∷ tet 1 3 4 8 ∷ tet 1 6 8 5 ∷ tet 3 8 6 7 ∷ []

-- the five, with the lowest corner turned to place 1, in vertex numbers
abbrev pub five_of : List Vertex → List (Tet Vertex)
five_of vs = map (on_tet (λ p. at vs (at (to_first (first vs)) p))) five

-- an element's tetrahedra: the fan, or for a hexahedron whose n is 0 the five
abbrev pub tets_of : Element → List (Tet Vertex)
tets_of (element tetrahedron vs) = fan (element tetrahedron vs)
tets_of (element pyramid vs) = fan (element pyramid vs)
tets_of (element prism vs) = fan (element prism vs)
tets_of (element hexahedron vs) = cond (eqb (through vs) 0) (five_of vs) (fan (element hexahedron vs))

-- a tetrahedron stays one, a pyramid gives two, a prism three, a hexahedron six or, where n is 0, five
abbrev pub how_many : Element → ℕ
how_many (element tetrahedron vs) = 1
how_many (element pyramid vs) = 2
how_many (element prism vs) = 3
how_many (element hexahedron vs) = cond (eqb (through vs) 0) 5 6

-- ---- how a tetrahedron is written, and the order

-- the lowest number first, by an exchange of two pairs, which is even
abbrev pub first_lowest : Tet ℕ → Tet ℕ
first_lowest (tet a b c d) =
    let m = lowest (a ∷ b ∷ c ∷ d ∷ []) in
    cond (eqb a m) (tet a b c d) (cond (eqb b m) (tet b a d c) (cond (eqb c m) (tet c d a b) (tet d c b a)))

-- the lowest of the other three second, by turning those three, which is even
abbrev pub second_lowest : Tet ℕ → Tet ℕ
second_lowest (tet a b c d) =
    let m = lowest (b ∷ c ∷ d ∷ []) in
    cond (eqb b m) (tet a b c d) (cond (eqb c m) (tet a c d b) (tet a d b c))

-- its lowest number first and the lowest of the other three second; the last two are placed so that the reordering is even
abbrev pub written : Tet ℕ → Tet ℕ
written t = second_lowest (first_lowest t)

-- not above, compared number by number
abbrev pub up_to : List ℕ → List ℕ → Bool
up_to [] ys = true
up_to (x ∷ xs) [] = false
up_to (x ∷ xs) (y ∷ ys) = cond (ltb x y) true (cond (eqb x y) (up_to xs ys) false)

-- a tetrahedron put before the first that is not below it
abbrev pub insert : Tet ℕ → List (Tet ℕ) → List (Tet ℕ)
insert t [] = t ∷ []
insert t (u ∷ us) = cond (up_to (of_tet t) (of_tet u)) (t ∷ (u ∷ us)) (u ∷ insert t us)

-- in ascending order
abbrev pub ascending : List (Tet ℕ) → List (Tet ℕ)
ascending [] = []
ascending (t ∷ ts) = insert t (ascending ts)

-- tetrahedra as the page writes them: each in its written form, in ascending order
abbrev pub in_order : List (Tet ℕ) → List (Tet ℕ)
in_order ts = ascending (map written ts)

-- the cut of an element
unfoldable pub cut : Element → List (Tet Vertex)
cut e = in_order (tets_of e)

-- the cut of a mesh: elements keep their order
unfoldable pub cut_mesh : List Element → List (Tet Vertex)
cut_mesh es = gather cut es
