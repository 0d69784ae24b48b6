-- The program's output as an input: the words of the cut of a cut, for files.
use Rattle.std.specs.Prelude.{List, ℕ, get_or}
use Rattle.faults.specs.Refusals.{Verdict, and_then}
use Rattle.solids.specs.Solids.{Vertex, Tet}
use Rattle.mesh.specs.Cutting.{cut_of}
use Rattle.format.specs.File.{file_verdict}
use Rattle.format.specs.Records.{stored_elements}
use Rattle.converting.specs.Conversion.{rooms, cut_room}

-- the tetrahedra of an input, or the first fault
unfoldable pub tetrahedra_of : List ℕ → Verdict (List (Tet Vertex))
tetrahedra_of input = and_then (file_verdict rooms input) λ counts. cut_of (get_or counts 0 0) (get_or counts 1 0) (stored_elements rooms input) cut_room
