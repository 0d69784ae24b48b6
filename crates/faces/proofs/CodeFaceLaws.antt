-- A face of the code is told by the face of the definitions that it holds.
-- Assumes nothing.
use mathlib.Core.Path.{◌≡◌, refl, sym, ap, ◌∙◌}
use Prim.Native.Nat.{ℕ}
use Rattle.solids.specs.declared.Vertex.{Vertex}
use Rattle.solids.specs.Solids.{three, four}
use Rattle.solids.specs.Solids as solids
use Rattle.faces.specs.declared.Face.{Face}
use Rattle.faces.specs.declared.Face.TheVariants.{Three, Four}
use Rattle.faces.specs.Faces.{face_of}

pub same-vertex : (a b : Vertex) → a.0 ≡ b.0 → a ≡ b
same-vertex a b e = λ i. record { 0 = e i }

-- the vertex of a number, and the face of the code that holds a face
abbrev vertex : ℕ → Vertex
vertex n = record { 0 = n }

abbrev held : solids.Face ℕ → Face
held (three p q r) = Three (vertex p) (vertex q) (vertex r)
held (four p q r s) = Four (vertex p) (vertex q) (vertex r) (vertex s)

held_face : (F : Face) → held (face_of F) ≡ F
held_face (Three p q r) = refl
held_face (Four p q r s) = refl

pub face_tells : (F G : Face) → face_of F ≡ face_of G → F ≡ G
face_tells F G e = sym (held_face F) ∙ ap held e ∙ held_face G
