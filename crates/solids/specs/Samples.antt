-- Samples: the page's table "Element | Cut", row by row.
use Rattle.std.specs.Prelude.{List, [], ◌∷◌}
use Rattle.solids.specs.Solids.{Vertex, tetrahedron, pyramid, prism, hexahedron, Tet, tet, Element, element}

-- an element and its cut
pub record Sample : Type 0 where
  pub whole : Element
  pub parts : List (Tet Vertex)

abbrev sample : Element → List (Tet Vertex) → Sample
sample e ts = record { whole = e; parts = ts }

abbrev pub samples : List Sample
samples =
    sample (element tetrahedron (4 ∷ 3 ∷ 2 ∷ 1 ∷ [])) (tet 1 2 3 4 ∷ []) ∷
    sample (element tetrahedron (2 ∷ 1 ∷ 3 ∷ 4 ∷ [])) (tet 1 2 4 3 ∷ []) ∷
    sample (element pyramid (1 ∷ 2 ∷ 3 ∷ 4 ∷ 5 ∷ [])) (tet 1 2 3 5 ∷ tet 1 3 4 5 ∷ []) ∷
    sample (element pyramid (2 ∷ 3 ∷ 4 ∷ 5 ∷ 1 ∷ [])) (tet 1 2 4 3 ∷ tet 1 2 5 4 ∷ []) ∷
    sample (element prism (1 ∷ 2 ∷ 3 ∷ 4 ∷ 5 ∷ 6 ∷ [])) (tet 1 2 3 6 ∷ tet 1 2 6 5 ∷ tet 1 4 5 6 ∷ []) ∷
    sample (element prism (1 ∷ 3 ∷ 2 ∷ 4 ∷ 5 ∷ 6 ∷ [])) (tet 1 2 5 3 ∷ tet 1 2 6 5 ∷ tet 1 4 5 6 ∷ []) ∷
    sample (element hexahedron (1 ∷ 5 ∷ 2 ∷ 6 ∷ 7 ∷ 3 ∷ 8 ∷ 4 ∷ [])) (tet 1 2 3 5 ∷ tet 1 2 4 3 ∷ tet 1 2 6 4 ∷ tet 1 3 4 7 ∷ tet 2 3 8 4 ∷ []) ∷
    sample (element hexahedron (1 ∷ 3 ∷ 4 ∷ 5 ∷ 6 ∷ 7 ∷ 8 ∷ 2 ∷ [])) (tet 1 2 4 5 ∷ tet 1 2 6 7 ∷ tet 1 2 7 8 ∷ tet 1 2 8 4 ∷ tet 1 3 4 8 ∷ tet 1 3 8 7 ∷ []) ∷
    sample (element hexahedron (1 ∷ 2 ∷ 3 ∷ 4 ∷ 5 ∷ 6 ∷ 7 ∷ 8 ∷ [])) (tet 1 2 3 7 ∷ tet 1 2 7 6 ∷ tet 1 3 4 8 ∷ tet 1 3 8 7 ∷ tet 1 5 6 7 ∷ tet 1 5 7 8 ∷ []) ∷
    sample (element hexahedron (1 ∷ 3 ∷ 4 ∷ 5 ∷ 6 ∷ 7 ∷ 2 ∷ 8 ∷ [])) (tet 1 2 3 4 ∷ tet 1 2 4 5 ∷ tet 1 2 5 8 ∷ tet 1 2 6 7 ∷ tet 1 2 7 3 ∷ tet 1 2 8 6 ∷ []) ∷
    []
