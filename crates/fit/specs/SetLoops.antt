-- Lists of vertices as sets, as the private function share_any_edge takes them; proofs/TwoEndsLaws.antt says what they have to do with edges.
use Rattle.std.specs.Prelude.{cond, List, [], ◌∷◌, eqb}
use Rattle.solids.specs.Solids.{Vertex}

-- the first of the vertices that is another than u, or u where there is none
abbrev pub other_than : Vertex → List Vertex → Vertex
other_than u [] = u
other_than u (v ∷ vs) = cond (eqb u v) (other_than u vs) v
