-- A shape that only the code wants; proofs/PlaceTableLaws.antt says that it is what the page's definitions give.
use Rattle.std.specs.Prelude.{List, [], ◌∷◌, map}
use Rattle.solids.specs.declared.Solid.{Solid}
use Rattle.solids.specs.Solids.{Place, Face, three, four, faces}

-- four places to a face, the fourth of a triangle 0
abbrev pub padded : Face Place → List Place
padded (three p q r) = p ∷ q ∷ r ∷ 0 ∷ []
padded (four p q r s) = p ∷ q ∷ r ∷ s ∷ []

-- the faces of a solid
unfoldable pub face_rows : Solid → List (List Place)
face_rows s = map padded (faces s)
