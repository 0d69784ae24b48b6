-- Solids and their faces, as the page lists them.
--   place     a local corner number, from 1
--   vertex    a global vertex number, from 1; a place is never used as a vertex number
--   face      three or four corners in a cycle, counterclockwise seen from outside
-- Faces, triangles and tetrahedra take the type of their corners, places or vertices, as a parameter.
use Rattle.std.specs.Prelude.{Bool, List, [], ◌∷◌, map, ℕ, zero, suc, length, get_or}
use Rattle.laws.specs.Words.{gather, among}
pub use Rattle.solids.specs.declared.Solid.{Solid}
pub use Rattle.solids.specs.declared.Solid.TheVariants.{Tetrahedron as tetrahedron, Pyramid as pyramid, Prism as prism, Hexahedron as hexahedron}

abbrev pub Place : Type 0
Place = ℕ

abbrev pub Vertex : Type 0
Vertex = ℕ

-- a face runs counterclockwise seen from outside
pub data Face (A : Type 0) : Type 0 where
  three : A → A → A → Face A
  four : A → A → A → A → Face A

-- a triangle with its direction
pub data Tri (A : Type 0) : Type 0 where
  tri : A → A → A → Tri A

pub data Tet (A : Type 0) : Type 0 where
  tet : A → A → A → A → Tet A

-- an edge is a side of a face
pub data Edge (A : Type 0) : Type 0 where
  edge : A → A → Edge A

-- an element: its solid, and the vertex numbers of its corners in the order of their places
pub data Element : Type 0 where
  element : Solid → List Vertex → Element

-- how many corners a solid has
abbrev pub corners : Solid → ℕ
corners tetrahedron = 4
corners pyramid = 5
corners prism = 6
corners hexahedron = 8

-- the faces, in places
abbrev pub faces : Solid → List (Face Place)
faces tetrahedron = three 2 3 4 ∷ three 1 4 3 ∷ three 1 2 4 ∷ three 1 3 2 ∷ []
faces pyramid = four 1 4 3 2 ∷ three 1 2 5 ∷ three 2 3 5 ∷ three 3 4 5 ∷ three 4 1 5 ∷ []
faces prism = three 1 3 2 ∷ three 4 5 6 ∷ four 1 2 5 4 ∷ four 2 3 6 5 ∷ four 3 1 4 6 ∷ []
faces hexahedron = four 1 4 3 2 ∷ four 1 2 6 5 ∷ four 1 5 8 4 ∷ four 2 3 7 6 ∷ four 5 6 7 8 ∷ four 3 4 8 7 ∷ []

-- what stands at a place of a list: the vertex at a corner, or the place to which a rotation brings a place
abbrev pub at : List ℕ → Place → ℕ
at vs zero = 0
at vs (suc i) = get_or vs i 0

-- opposite corners of the hexahedron: 1-7, 2-8, 3-5, 4-6
abbrev pub opposite : Place → Place
opposite = at (7 ∷ 8 ∷ 5 ∷ 6 ∷ 3 ∷ 4 ∷ 1 ∷ 2 ∷ [])

module _ {A B : Type 0} where
  -- each corner sent from places to vertices, or from places to places
  abbrev pub on_face : (A → B) → Face A → Face B
  on_face f (three p q r) = three (f p) (f q) (f r)
  on_face f (four p q r s) = four (f p) (f q) (f r) (f s)

  abbrev pub on_tri : (A → B) → Tri A → Tri B
  on_tri f (tri p q r) = tri (f p) (f q) (f r)

  abbrev pub on_tet : (A → B) → Tet A → Tet B
  on_tet f (tet p q r s) = tet (f p) (f q) (f r) (f s)

module _ {A : Type 0} where
  -- the corners of a face, of a triangle, of a tetrahedron, and the ends of an edge
  abbrev pub of_face : Face A → List A
  of_face (three p q r) = p ∷ q ∷ r ∷ []
  of_face (four p q r s) = p ∷ q ∷ r ∷ s ∷ []

  abbrev pub of_tri : Tri A → List A
  of_tri (tri p q r) = p ∷ q ∷ r ∷ []

  abbrev pub of_tet : Tet A → List A
  of_tet (tet p q r s) = p ∷ q ∷ r ∷ s ∷ []

  abbrev pub ends : Edge A → List A
  ends (edge p q) = p ∷ q ∷ []

  -- the sides of a face
  abbrev pub edges_of : Face A → List (Edge A)
  edges_of (three p q r) = edge p q ∷ edge q r ∷ edge r p ∷ []
  edges_of (four p q r s) = edge p q ∷ edge q r ∷ edge r s ∷ edge s p ∷ []

-- how many faces a solid has
abbrev pub face_count : Solid → ℕ
face_count s = length (faces s)

-- the corners of a solid's face i, from 0; none where there is no such face
unfoldable pub face_corners : Solid → ℕ → List Place
face_corners s i = get_or (map of_face (faces s)) i []

-- place k, from 0, of a solid's face i, from 0; 0 where there is none
unfoldable pub face_place : Solid → ℕ → ℕ → Place
face_place s i k = get_or (face_corners s i) k 0

-- a corner of the face
abbrev pub holds : ℕ → Face ℕ → Bool
holds v f = among v (of_face f)

-- the vertices at an element's corners
abbrev pub corners_of : Element → List Vertex
corners_of (element s vs) = vs

-- an element's faces, in vertex numbers
abbrev pub faces_of : Element → List (Face Vertex)
faces_of (element s vs) = map (on_face (at vs)) (faces s)

-- an element's edges, in vertex numbers
abbrev pub element_edges : Element → List (Edge Vertex)
element_edges e = gather edges_of (faces_of e)
