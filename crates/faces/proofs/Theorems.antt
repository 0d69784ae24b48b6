-- What is promised of faces, in the words of specs/ alone: two answers that a contract allows are equal.
-- Assumes nothing.
use mathlib.Core.Path.{◌≡◌, sym, ◌∙◌}
use mathlib.Core.Bool.{Bool}
use mathlib.Core.List.{List}
use Prim.Native.Nat.{ℕ}
use lib.ListN.{get_or}
use Rattle.laws.specs.Words.{lowest}
use Rattle.solids.specs.declared.Solid.{Solid}
use Rattle.solids.specs.declared.Vertex.{Vertex}
use Rattle.solids.specs.Solids.{three, at, element, holds, faces_of}
use Rattle.solids.specs.Rotations.{same_face}
use Rattle.solids.specs.Fit.{back_face}
use Rattle.solids.specs.Cut.{lowest_first, on_diagonal}
use Rattle.faces.specs.declared.Face.{Face}
use Rattle.faces.specs.Faces.{face_of}
use Rattle.faces.proofs.CodeFaceLaws.{same-vertex, face_tells}

-- `vertex_at`
pub vertex_at_unique : (vs : List ℕ) (p : ℕ) (a b : Vertex) → a.0 ≡ at vs p → b.0 ≡ at vs p → a ≡ b
vertex_at_unique vs p a b e f = same-vertex a b (e ∙ sym f)

-- `lowest_of_three` and `lowest_of_four`
pub lowest_unique : (vs : List ℕ) (a b : Vertex) → a.0 ≡ lowest vs → b.0 ≡ lowest vs → a ≡ b
lowest_unique vs a b e f = same-vertex a b (e ∙ sym f)

-- `face_of`
pub face_of_unique : (s : Solid) (vs : List ℕ) (i : ℕ) (a b : Face) → face_of a ≡ get_or (faces_of (element s vs)) i (three 0 0 0)
    → face_of b ≡ get_or (faces_of (element s vs)) i (three 0 0 0) → a ≡ b
face_of_unique s vs i a b e f = face_tells a b (e ∙ sym f)

-- `back`
pub back_unique : (F a b : Face) → face_of a ≡ back_face (face_of F) → face_of b ≡ back_face (face_of F) → a ≡ b
back_unique F a b e f = face_tells a b (e ∙ sym f)

-- `same`
pub same_unique : (F G : Face) (a b : Bool) → a ≡ same_face (face_of F) (face_of G) → b ≡ same_face (face_of F) (face_of G) → a ≡ b
same_unique F G a b e f = e ∙ sym f

-- `is_corner`
pub is_corner_unique : (v : ℕ) (F : Face) (a b : Bool) → a ≡ holds v (face_of F) → b ≡ holds v (face_of F) → a ≡ b
is_corner_unique v F a b e f = e ∙ sym f

-- `lowest_first`
pub lowest_first_unique : (F a b : Face) → face_of a ≡ lowest_first (face_of F) → face_of b ≡ lowest_first (face_of F) → a ≡ b
lowest_first_unique F a b e f = face_tells a b (e ∙ sym f)

-- `on_diagonal`
pub on_diagonal_unique : (v : ℕ) (F : Face) (a b : Bool) → a ≡ on_diagonal v (face_of F) → b ≡ on_diagonal v (face_of F) → a ≡ b
on_diagonal_unique v F a b e f = e ∙ sym f
