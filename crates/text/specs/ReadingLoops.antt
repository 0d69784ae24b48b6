-- What private functions say beside the page's definitions: sizes and shapes that only their callers and loops want.
use Rattle.std.specs.Prelude.{ℕ, ◌+◌, ◌*◌, ◌≤◌, ◌<◌, ◌≡◌, true, false, cond, ◌⊎◌, List, [], ◌++◌, length, take, drop, ℤ, Ok, Result, Err, IfOk}
use Rattle.std.proofs.lemmas.List.Edits.{sets}
use Rattle.limits.specs.Limits.{line_end, space, file_limit, vertex_limit, element_limit, vertex_width, element_width}
use Rattle.laws.specs.Pieces.{rest, piece, split}
use Rattle.faults.specs.Refusals.{refused, refuse}
use Rattle.faults.specs.declared.Fault.{Fault}
use Rattle.faults.specs.declared.Fault.TheVariants as fault
use Rattle.faults.specs.declared.Refusal.{Refusal}
use Rattle.format.specs.Line.{mark_of, role_of, too_many, line_verdict}
use Rattle.format.specs.File.{start, lines_of, file_from, file_verdict}
use Rattle.format.specs.Records.{vertex_records, element_records, records_from}
use Rattle.format.specs.declared.ReaderState.{ReaderState}
use Rattle.format.specs.declared.Rooms.{Rooms}
use Rattle.text.specs.Reading.{verdict_of}
use Rattle.text.specs.declared.ReadCounts.{ReadCounts}

-- no more records than a file has bytes
pub record Few (state : ReaderState) : Type 0 where
  pub few : state.vertices + state.elements ≤ file_limit

-- the first field of a text, and what stands behind it
abbrev pub FirstField : List ℕ → List ℕ → List ℕ → Type 0
FirstField t field more = (split space t ≡ piece field (split space more)) ⊎ ((split space t ≡ rest field) × (more ≡ []))

-- what is read of a text is what f says of it
abbrev pub Says : {A : Type 0} → (List ℕ → A → Type 0) → (List ℕ → A) → Type 0
Says {A} gives f = (t : List ℕ) (v : A) → gives t v → v ≡ f t

-- the fault of a line that lacks its byte 10: MARK after EN, else SHAPE
abbrev pub open_fault : ReaderState → Fault
open_fault state = cond state.ended fault.Mark fault.Shape

-- tables as long as the reader's own: as many records as the limits allow
pub record Own (vertices : List ℤ) (elements : List ℕ) : Type 0 where
  pub vertex_length : length vertices ≡ vertex_width * vertex_limit
  pub element_length : length elements ≡ element_width * element_limit

-- a line is left, and the records so far are within the limits and in such tables
pub record Ready (t : List ℕ) (state : ReaderState) (vertices : List ℤ) (elements : List ℕ) : Type 0 where
  pub some : 0 < length t
  pub few_vertices : state.vertices ≤ vertex_limit
  pub few_elements : state.elements ≤ element_limit
  pub own : Own vertices elements

-- tables with room for the record of the line after those of the lines before it
pub record RoomForLine (l : List ℕ) (state : ReaderState) (vertices : List ℤ) (elements : List ℕ) : Type 0 where
  pub allowed : too_many state (role_of (mark_of l)) ≡ false
  pub own : Own vertices elements

-- the records of a line stored after those of the lines before it
pub record StoredLine (l : List ℕ) (state : ReaderState) (vertices : List ℤ) (elements : List ℕ) (vertices' : List ℤ) (elements' : List ℕ) : Type 0 where
  pub vertex_table : vertices' ≡ sets vertices (vertex_width * state.vertices) (vertex_records state (role_of (mark_of l)) l)
  pub element_table : elements' ≡ sets elements (element_width * state.elements) (element_records state (role_of (mark_of l)) l)

-- the first n bytes of t are an accepted line with its byte 10; its record follows those of the lines before it
pub record LineTaken (t : List ℕ) (rooms : Rooms) (state : ReaderState) (vertices : List ℤ) (elements : List ℕ) (next : ReaderState) (n : ℕ) (vertices' : List ℤ) (elements' : List ℕ) : Type 0 where
  pub line : List ℕ
  pub cut : split line_end t ≡ piece line (split line_end (drop n t))
  pub some : 0 < n
  pub inside : n ≤ length t
  pub verdict : line_verdict rooms state true line ≡ Ok next
  pub own : Own vertices' elements'
  pub vertex_table : take (vertex_width * next.vertices) vertices' ≡ take (vertex_width * state.vertices) vertices ++ vertex_records state (role_of (mark_of line)) line
  pub element_table : take (element_width * next.elements) elements' ≡ take (element_width * state.elements) elements ++ element_records state (role_of (mark_of line)) line

-- the line at the front of t: taken and kept, or refused whichever number it has
abbrev pub LineRead : List ℕ → Rooms → ReaderState → List ℤ → List ℕ → Result (ReaderState × ℕ) Fault → List ℤ → List ℕ → Type 0
LineRead t rooms state vertices elements (Ok taken) vertices' elements' = LineTaken t rooms state vertices elements taken.0 taken.1 vertices' elements'
LineRead t rooms state vertices elements (Err f) vertices' elements' = (n : ℕ) → file_from rooms state n (split line_end t) ≡ refused (refuse f n)

-- the records of a file stand at the front of both tables
pub record Kept (file : List ℕ) (counts : ReadCounts) (vertices : List ℤ) (elements : List ℕ) : Type 0 where
  pub vertex_table : records_from vertex_records start (lines_of file) ≡ take (vertex_width * counts.vertices) vertices
  pub element_table : records_from element_records start (lines_of file) ≡ take (element_width * counts.elements) elements
  pub vertex_long : vertex_width * counts.vertices ≤ length vertices
  pub element_long : element_width * counts.elements ≤ length elements

-- the verdict on a file, and the records of an accepted one at the front of both tables
pub record FileRead (file : List ℕ) (rooms : Rooms) (r : Result ReadCounts Refusal) (vertices : List ℤ) (elements : List ℕ) : Type 0 where
  pub answer : verdict_of r ≡ file_verdict rooms file
  pub kept : IfOk r (λ counts. Kept file counts vertices elements)
