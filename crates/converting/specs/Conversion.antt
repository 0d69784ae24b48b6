-- What the program writes for an input: the cut mesh, or one line `NO number place second`.
use Rattle.std.specs.Prelude.{List, ℕ, ◌*◌, ℤ, length, get_or}
use Rattle.limits.specs.Limits.{vertex_limit, element_limit, tetrahedron_limit, vertex_width, tetrahedron_width, element_width}
use Rattle.laws.specs.Words.{gather}
use Rattle.faults.specs.Refusals.{Verdict, accepted, refused, and_then}
use Rattle.solids.specs.Solids.{Vertex, Tet}
use Rattle.records.specs.Record.{as_record}
use Rattle.mesh.specs.Cutting.{cut_of}
use Rattle.format.specs.declared.Rooms.{Rooms}
use Rattle.format.specs.File.{file_verdict}
use Rattle.format.specs.Records.{stored_vertices, stored_elements}
use Rattle.writing.specs.Written.{written_file, refusal_line}

-- tables with room for every file, and for every cut
abbrev pub rooms : Rooms
rooms = record { vertices = vertex_width * vertex_limit; elements = element_width * element_limit }

abbrev pub cut_room : ℕ
cut_room = tetrahedron_width * tetrahedron_limit

-- the cut mesh as text: all vertices, all tetrahedra, then EN with their counts
unfoldable pub cut_text : List ℤ → ℕ → List (Tet Vertex) → List ℕ
cut_text table v ts = written_file table (gather as_record ts) v (length ts)

-- the file is read, its table is cut; the text, or the first refusal
unfoldable pub conversion : List ℕ → Verdict (List ℕ)
conversion input =
    and_then (file_verdict rooms input) λ counts.
    let v = get_or counts 0 0 in
    and_then (cut_of v (get_or counts 1 0) (stored_elements rooms input) cut_room) λ ts. accepted (cut_text (stored_vertices rooms input) v ts)

-- what the program writes: the cut mesh, or the line of the refusal
abbrev pub written : Verdict (List ℕ) → List ℕ
written (accepted text) = text
written (refused r) = refusal_line r

unfoldable pub program_output : List ℕ → List ℕ
program_output input = written (conversion input)
