-- Elements that fit, and outer faces: the page's section of that name.
use Rattle.std.specs.Prelude.{Bool, true, ◌&&◌, ◌||◌, List, [], ◌∷◌, ℕ, eqb, leb, length}
use Rattle.laws.specs.Words.{keep, count, every, some, gather, among, distinct}
use Rattle.solids.specs.Solids.{Vertex, Face, three, four, Element, element, corners, of_face, ends, corners_of, faces_of, element_edges}
use Rattle.solids.specs.Rotations.{same_face}

-- an element with as many corners as its solid has, no vertex twice
abbrev pub proper : Element → Bool
proper (element s vs) = eqb (length vs) (corners s) && distinct vs

-- the common vertices of two elements
abbrev pub common : Element → Element → List Vertex
common e x = keep (λ v. among v (corners_of x)) (corners_of e)

-- the same numbers, in whatever order
abbrev pub same_set : List ℕ → List ℕ → Bool
same_set l m = every (λ v. among v m) l && every (λ v. among v l) m

-- the vertices are the two ends of an edge of the element
abbrev pub has_edge : List Vertex → Element → Bool
has_edge c e = some (λ E. same_set c (ends E)) (element_edges e)

-- a cycle read backwards
abbrev pub back_face : Face ℕ → Face ℕ
back_face (three p q r) = three p r q
back_face (four p q r s) = four p s r q

-- the vertices are all those of a face of both, whose outward cycle in one is its cycle in the other read backwards
abbrev pub share_face : List Vertex → Element → Element → Bool
share_face c e x = some (λ F. same_set c (of_face F) && some (same_face (back_face F)) (faces_of x)) (faces_of e)

-- the common vertices of the two are none, one, the two ends of an edge of both, or all the vertices of a face of both
unfoldable pub fits : Element → Element → Bool
fits e x = let c = common e x in leb (length c) 1 || ((has_edge c e && has_edge c x) || share_face c e x)

-- every two of the elements fit
unfoldable pub fitting : List Element → Bool
fitting [] = true
fitting (e ∷ es) = every (fits e) es && fitting es

-- a face of only one element is outer
abbrev pub is_outer : List Element → Face Vertex → Bool
is_outer es F = eqb (count (λ G. same_set (of_face F) (of_face G)) (gather faces_of es)) 1

-- the outer faces of a mesh
unfoldable pub outer_faces : List Element → List (Face Vertex)
outer_faces es = keep (is_outer es) (gather faces_of es)
