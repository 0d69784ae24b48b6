-- The face that the code holds, as the definitions of solids have it.
use Rattle.solids.specs.Solids.{Vertex, three, four}
use Rattle.solids.specs.Solids as solids
use Rattle.faces.specs.declared.Face.{Face}
use Rattle.faces.specs.declared.Face.TheVariants.{Three, Four}

-- the face whose outward cycle the code holds
abbrev pub face_of : Face → solids.Face Vertex
face_of (Three p q r) = three p.0 q.0 r.0
face_of (Four p q r s) = four p.0 q.0 r.0 s.0
