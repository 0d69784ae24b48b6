-- Sides of tetrahedra as oriented triangles, how many tetrahedra own a side, and what the surface of a cut is.
use Rattle.std.specs.Prelude.{Bool, ◌&&◌, ◌||◌, ◌≡◌, ℕ, ◌-◌, ◌≤◌, eqb, T}
use mathlib.Core.List.{List, [], ◌∷◌, map, Memᴰ}
use Rattle.laws.specs.Words.{count, gather, every, keep, among, distinct}
use Rattle.solids.specs.Solids.{Vertex, Face, Tri, tri, Tet, tet, Element, of_tri, of_tet, of_face, corners_of, faces_of}
use Rattle.solids.specs.Cut.{cut_face, cut, cut_mesh}
use Rattle.solids.specs.Rotations.{same_face}
use Rattle.solids.specs.Fit.{back_face, is_outer, outer_faces}

-- the four sides of a tetrahedron, counterclockwise seen from outside: the faces of the solid
abbrev pub sides : Tet ℕ → List (Tri ℕ)
sides (tet a b c d) = tri b c d ∷ tri a d c ∷ tri a b d ∷ tri a c b ∷ []

-- the same triangle run round in the other direction
abbrev pub back : Tri ℕ → Tri ℕ
back (tri p q r) = tri p r q

-- the same corners in the same order
abbrev pub eq_tri : Tri ℕ → Tri ℕ → Bool
eq_tri (tri a b c) (tri p q r) = eqb a p && (eqb b q && eqb c r)

-- the same triangle in the same direction, read from any of its corners
abbrev pub same_tri : Tri ℕ → Tri ℕ → Bool
same_tri (tri a b c) t = eq_tri (tri a b c) t || (eq_tri (tri b c a) t || eq_tri (tri c a b) t)

-- how many of the triangles are t
abbrev pub times : Tri ℕ → List (Tri ℕ) → ℕ
times t = count (same_tri t)

-- how many of the tetrahedra have t as a side, in this direction
abbrev pub owners : Tri ℕ → List (Tet ℕ) → ℕ
owners t ts = times t (gather sides ts)

-- the corners of t are corners of the face
abbrev pub within : Tri ℕ → Face ℕ → Bool
within t F = every (λ v. among v (of_face F)) (of_tri t)

-- the same corners in the same order
abbrev pub eq_tet : Tet ℕ → Tet ℕ → Bool
eq_tet (tet a b c d) (tet p q r s) = eqb a p && (eqb b q && (eqb c r && eqb d s))

-- What the tetrahedra of a cut are: each has four different vertices, all of them the element's, and no tetrahedron occurs twice.
pub record Plain (e : Element) : Type 0 where
  pub different : T (every (λ t. distinct (of_tet t)) (cut e))
  pub own : T (every (λ t. every (λ v. among v (corners_of e)) (of_tet t)) (cut e))
  pub once-each : (t : Tet Vertex) → count (eq_tet t) (cut e) ≤ 1

-- An element, tetrahedra for it, and triangles for each of its faces, whoever chose them.
pub record Piece : Type 0 where
  pub whole : Element
  pub tets : List (Tet Vertex)
  pub triangles_on : Face Vertex → List (Tri Vertex)

-- the piece of an element by the page's rule: its cut, and its cut faces
abbrev pub by_rule : Element → Piece
by_rule e = record { whole = e; tets = cut e; triangles_on = cut_face }

-- the triangles of all faces of a piece
abbrev pub skin : Piece → List (Tri Vertex)
skin p = gather p.triangles_on (faces_of p.whole)

-- What the tetrahedra of one piece do: each side is owned once; the sides whose reverse is not owned are the triangles of the faces, facing as
-- they do; a side whose corners lie in one face is a triangle of that face; and the corners of a side are different vertices of the element.
pub record Closed (p : Piece) : Type 0 where
  pub once : (t : Tri Vertex) → owners t p.tets ≤ 1
  pub surface : (t : Tri Vertex) → times t (skin p) ≡ owners t p.tets - owners (back t) p.tets
  pub flat : (t : Tri Vertex) (F : Face Vertex) → Memᴰ F (faces_of p.whole) → 1 ≤ owners t p.tets → T (within t F) → times t (p.triangles_on F) ≡ 1
  pub lies : (t : Tri Vertex) (F : Face Vertex) → Memᴰ F (faces_of p.whole) → 1 ≤ times t (p.triangles_on F) → T (within t F)
  pub own : (t : Tri Vertex) → 1 ≤ owners t p.tets → T (distinct (of_tri t)) × T (every (λ v. among v (corners_of p.whole)) (of_tri t))

-- Two pieces agree: where a face of one is a face of the other read backwards, its triangles are the other's, read backwards.
abbrev pub Agree : Piece → Piece → Type 0
Agree p q =
    (F G : Face Vertex) → Memᴰ F (faces_of p.whole) → Memᴰ G (faces_of q.whole) → T (same_face (back_face F) G)
    → (t : Tri Vertex) → times t (q.triangles_on G) ≡ times (back t) (p.triangles_on F)

-- every two of the pieces agree
abbrev pub Agreeing : List Piece → Type 0
Agreeing [] = Unit {0}
Agreeing (p ∷ ps) = ((q : Piece) → Memᴰ q ps → Agree p q) × Agreeing ps

-- the elements of the pieces
abbrev pub wholes : List Piece → List Element
wholes ps = map (λ p. p.whole) ps

-- the tetrahedra of the pieces, and the triangles of their outer faces
abbrev pub all_tets : List Piece → List (Tet Vertex)
all_tets ps = gather (λ p. p.tets) ps

abbrev pub outer_triangles : List Piece → List (Tri Vertex)
outer_triangles ps = gather (λ p. gather p.triangles_on (keep (is_outer (wholes ps)) (faces_of p.whole))) ps

-- The surface of the tetrahedra is the triangles of the outer faces: a side has one owner in each direction at most, and the sides whose
-- reverse has no owner are these triangles, each once, facing as they do.
pub record SurfaceOf (ps : List Piece) : Type 0 where
  pub once : (t : Tri Vertex) → owners t (all_tets ps) ≤ 1
  pub surface : (t : Tri Vertex) → times t (outer_triangles ps) ≡ owners t (all_tets ps) - owners (back t) (all_tets ps)

-- The surface of the cut is the cut of the surface: the same for the page's cut, with the cut outer faces of the mesh.
pub record SurfaceCut (es : List Element) : Type 0 where
  pub once : (t : Tri Vertex) → owners t (cut_mesh es) ≤ 1
  pub surface : (t : Tri Vertex) → times t (gather cut_face (outer_faces es)) ≡ owners t (cut_mesh es) - owners (back t) (cut_mesh es)

-- Two neighbours and their common face, F in the one and G in the other: G is the cycle F read backwards, and the triangles that the one cuts it into
-- are those of the other, run round in the opposite direction.
pub record CutAlike (F G : Face Vertex) : Type 0 where
  pub backwards : T (same_face (back_face F) G)
  pub triangles : (t : Tri Vertex) → times t (cut_face G) ≡ times (back t) (cut_face F)
