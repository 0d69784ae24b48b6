-- Samples of the text file: those of the page, and one for each reading of it that could be another.
use Rattle.std.specs.Prelude.{ℕ, List, [], ◌∷◌, ℤ, pos, neg_ℤ, Result, Ok, Err}
use Prim.Native.Char.{code}
use Prim.Native.String as string
use Prim.Native.String.{String}
use Rattle.faults.specs.Refusals.{Verdict, accepted, refused, refuse}
use Rattle.faults.specs.declared.Fault.{Fault}
use Rattle.faults.specs.declared.Fault.TheVariants as fault
use Rattle.format.specs.Number.{coordinate_of}
use Rattle.format.specs.File.{file_verdict}
use Rattle.format.specs.Records.{stored_vertices, stored_elements}
use Rattle.format.specs.declared.Rooms.{Rooms}

-- the bytes of a text
unfoldable pub bytes : String → List ℕ
bytes string.[] = []
bytes (string.◌∷◌ c s) = code c ∷ bytes s

-- ---- a coordinate

-- a field, and what it says
pub record CoordinateSample : Type 0 where
  pub field : String
  pub says : Result ℤ Fault

-- what the definition says of its field
abbrev pub coordinate_read : CoordinateSample → CoordinateSample
coordinate_read s = record { field = s.field; says = coordinate_of (bytes s.field) }

abbrev coordinate : String → Result ℤ Fault → CoordinateSample
coordinate s c = record { field = s; says = c }

-- the page's, then minus zero, a leading zero and seven digits
abbrev pub coordinate_samples : List CoordinateSample
coordinate_samples =
    coordinate "500" (Ok (pos 500000)) ∷
    coordinate "-500.000" (Ok (neg_ℤ (pos 500000))) ∷
    coordinate "500.001" (Err fault.Range) ∷
    coordinate "1250" (Err fault.Range) ∷
    coordinate "1,250" (Err fault.Comma) ∷
    coordinate ".5" (Err fault.Number) ∷
    coordinate "5." (Err fault.Number) ∷
    coordinate "1.2500" (Err fault.Number) ∷
    coordinate "-0" (Ok (pos 0)) ∷
    coordinate "-0.0" (Ok (pos 0)) ∷
    coordinate "01" (Err fault.Number) ∷
    coordinate "1000000" (Err fault.Number) ∷
    []

-- ---- a file

-- tables with room for two vertices and one element
abbrev pub sample_rooms : Rooms
sample_rooms = record { vertices = 6; elements = 9 }

-- a file, the verdict on it, and the records that it leaves in the two tables
pub record FileSample : Type 0 where
  pub file : String
  pub verdict : Verdict (List ℕ)
  pub vertices : List ℤ
  pub elements : List ℕ

-- what the definitions say of its file
abbrev pub file_read : FileSample → FileSample
file_read s = record {
  file = s.file;
  verdict = file_verdict sample_rooms (bytes s.file);
  vertices = stored_vertices sample_rooms (bytes s.file);
  elements = stored_elements sample_rooms (bytes s.file);
}

-- an accepted file: its counts and records
abbrev done : String → ℕ → ℕ → List ℤ → List ℕ → FileSample
done s v e vs es = record { file = s; verdict = accepted (v ∷ e ∷ []); vertices = vs; elements = es }

-- a refused file: the fault and its line, and no records
abbrev no : String → Fault → ℕ → FileSample
no s f n = record { file = s; verdict = refused (refuse f n); vertices = []; elements = [] }

-- three files that are accepted; then refusals in the order of a file's tests
abbrev pub file_samples : List FileSample
file_samples =
    done "EN 0 0\n" 0 0 [] [] ∷
    done "VX 1.25 -0 0\nVX 0 -2 0.005\nTE 2 1 2 1\nEN 2 1\n" 2 1
    (pos 1250 ∷ pos 0 ∷ pos 0 ∷ pos 0 ∷ neg_ℤ (pos 2000) ∷ pos 5 ∷ []) (4 ∷ 2 ∷ 1 ∷ 2 ∷ 1 ∷ 0 ∷ 0 ∷ 0 ∷ 0 ∷ []) ∷
    done "VX 0 0 0\nVX 0 0 0\nPZ 2 1 1 1 1\nEN 2 1\n" 2 1
    (pos 0 ∷ pos 0 ∷ pos 0 ∷ pos 0 ∷ pos 0 ∷ pos 0 ∷ []) (5 ∷ 1 ∷ 1 ∷ 1 ∷ 1 ∷ 2 ∷ 0 ∷ 0 ∷ 0 ∷ []) ∷
    no "" fault.End 1 ∷
    no "QX 0 0 0\n" fault.Mark 1 ∷
    no "VX 0 0 0\nTE 1 1 1 1\nVX 0 0 0\nEN 2 1\n" fault.Mark 3 ∷
    no "EN 0 0\nEN 0 0\n" fault.Mark 2 ∷
    no "EN 0 0" fault.Shape 1 ∷
    no "VX 0  0 0\nEN 1 0\n" fault.Shape 1 ∷
    no "VX 0 0 0\nVX 1,250 0 0\nEN 2 0\n" fault.Comma 2 ∷
    no "VX 1250 1,250 0\nEN 1 0\n" fault.Range 1 ∷
    no "TE 1,0 1 1 1\nEN 0 1\n" fault.Number 1 ∷
    no "VX 0 0 0\nTE 1 1 1 2\nEN 1 1\n" fault.Vertex 2 ∷
    no "VX 0 0 0\nVX 0 0 0\nVX 0 0 0\nEN 3 0\n" fault.Room 3 ∷
    no "VX 0 0 0\nEN 2 0\n" fault.End 2 ∷
    []
