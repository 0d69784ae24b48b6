-- What the private functions of converting say: the text of a cut mesh, record by record, out of the two tables.
-- proofs/MeshTextLaws.antt says that it is the page's text.
use Rattle.std.specs.Prelude.{ℕ, zero, suc, ◌+◌, ◌*◌, ◌≤◌, ◌<◌, ◌≡◌, List, [], ◌++◌, T, ℤ, pos, length, get_or, Ok}
use Rattle.limits.specs.Limits.{vertex_limit, tetrahedron_limit, vertex_width, tetrahedron_width}
use Rattle.laws.specs.Lent.{laid}
use Rattle.laws.specs.Words.{every}
use Rattle.faults.specs.Refusals.{Verdict, and_then}
use Rattle.volume.specs.Volume.{in_range}
use Rattle.solids.specs.Solids.{tet}
use Rattle.records.specs.Record.{record_finding, as_record}
use Rattle.mesh.specs.Cutting.{cut_of}
use Rattle.writing.specs.Written.{closed, vertex_line, element_line, end_line, in_room}
use Rattle.converting.specs.Conversion.{cut_room, cut_text}

-- a text of at most so many bytes stands at the front of lent memory, and its length is the answer
pub record Put (most : ℕ) (text old : List ℕ) (r : ℕ) (new : List ℕ) : Type 0 where
  pub count : r ≡ length text
  pub short : length text ≤ most
  pub memory : new ≡ laid text old

-- the line of vertex k of a table, from 0
unfoldable pub vertex_text : List ℤ → ℕ → List ℕ
vertex_text t k =
    closed (vertex_line (get_or t (vertex_width * k) (pos 0)) (get_or t (vertex_width * k + 1) (pos 0)) (get_or t (vertex_width * k + 2) (pos 0)))

-- tetrahedron k of a table, from 0, as an element record
unfoldable pub tetrahedron_record : List ℕ → ℕ → List ℕ
tetrahedron_record t k =
    let at = tetrahedron_width * k in
    as_record (tet (get_or t at 0) (get_or t (at + 1) 0) (get_or t (at + 2) 0) (get_or t (at + 3) 0))

-- its line
unfoldable pub tetrahedron_text : List ℕ → ℕ → List ℕ
tetrahedron_text t k = closed (element_line (tetrahedron_record t k))

-- the texts of the first n records, one after the other
unfoldable pub text_to : (ℕ → List ℕ) → ℕ → List ℕ
text_to f zero = []
text_to f (suc n) = text_to f n ++ f n

-- all vertices, all tetrahedra, then EN with their counts
unfoldable pub mesh_text : List ℤ → ℕ → List ℕ → ℕ → List ℕ
mesh_text vertices v tetrahedra n = text_to (vertex_text vertices) v ++ (text_to (tetrahedron_text tetrahedra) n ++ closed (end_line v n))

-- v vertices within the limits stand in the table
pub record GoodVertices (t : List ℤ) (v : ℕ) : Type 0 where
  pub few : v ≤ vertex_limit
  pub long : vertex_width * v ≤ length t
  pub ranged : T (every in_range t)

-- n tetrahedra without a fault stand in the table
pub record GoodTetrahedra (t : List ℕ) (n : ℕ) : Type 0 where
  pub few : n ≤ tetrahedron_limit
  pub long : tetrahedron_width * n ≤ length t
  pub clean : (k : ℕ) → k < n → record_finding vertex_limit (tetrahedron_record t k) ≡ Ok tt

-- a table is cut; the text of the cut mesh, where there is room for it, or the first refusal
unfoldable pub cut_verdict : List ℤ → ℕ → List ℕ → ℕ → (room : ℕ) → Verdict (List ℕ)
cut_verdict vertices v elements n room = and_then (cut_of v n elements cut_room) λ ts. in_room room (cut_text vertices v ts)
