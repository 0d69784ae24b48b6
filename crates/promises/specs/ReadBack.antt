-- What is written reads back: the words of demand 2.
--   call     one call of a record writer, by what its contract speaks of: the lent buffer before it, the answer, the buffer after it
--   calls    those that write a file: one for each vertex, one for each element, one for EN
use Rattle.text.specs.declared.ReadCounts.{ReadCounts}
use Rattle.std.specs.Prelude.{ℕ, zero, suc, ◌+◌, ◌*◌, ◌≤◌, ◌<◌, ◌≡◌, true, false, List, [], ◌∷◌, ◌++◌, ℤ, length, take, Result, Ok, Err}
use Rattle.limits.specs.Limits.{file_limit, vertex_width, element_width}
use Rattle.laws.specs.Lent.{laid}
use Rattle.faults.specs.Refusals.{accepted}
use Rattle.faults.specs.declared.Refusal.{Refusal}
use Rattle.volume.specs.Volume.{point_at}
use Rattle.records.specs.Record.{record_at}
use Rattle.format.specs.Line.{mark_of, role_of, line_verdict}
use Rattle.format.specs.File.{file_verdict}
use Rattle.format.specs.Records.{vertex_records, element_records, stored_vertices, stored_elements}
use Rattle.format.specs.declared.ReaderState.{ReaderState}
use Rattle.format.specs.declared.Rooms.{Rooms}
use Rattle.text.specs.Reading.{ReadDone}
use Rattle.writing.specs.Written.{closed, vertex_line, element_line, end_line, written_file, write_vertex_verdict, write_element_verdict, write_end_verdict}
use Rattle.writing.specs.Writing.{WriteDone}

-- ---- the calls that write a file

-- a call of a record writer
pub record Call : Type 0 where
  pub old : List ℕ
  pub answer : Result ℕ Refusal
  pub new : List ℕ

-- the calls for the vertices and the elements, each counted from 0, and for EN
pub record Calls : Type 0 where
  pub vertex : ℕ → Call
  pub element : ℕ → Call
  pub end : Call

-- the line of the vertex k, from 0, with its byte 10
unfoldable pub vertex_text : List ℤ → ℕ → List ℕ
vertex_text table k = let p = point_at table (k + 1) in closed (vertex_line p.x p.y p.z)

-- the line of the element k, from 0, with its byte 10
unfoldable pub element_text : List ℕ → ℕ → List ℕ
element_text t k = closed (element_line (record_at t k))

-- EN with the two counts, with its byte 10
unfoldable pub end_text : (vertices elements : ℕ) → List ℕ
end_text v n = closed (end_line v n)

-- each call is for its record, its contract allows its answer and its buffer, and its buffer has room enough
pub record Called (v n : ℕ) (t : List ℕ) (table : List ℤ) (calls : Calls) : Type 0 where
  pub vertices : (k : ℕ) → k < v
      → let c = calls.vertex k in
      let p = point_at table (k + 1) in
      WriteDone (write_vertex_verdict p.x p.y p.z (length c.old)) c.old c.answer c.new
  pub elements : (k : ℕ) → k < n
      → let c = calls.element k in WriteDone (write_element_verdict (record_at t k) (length c.old)) c.old c.answer c.new
  pub end : let c = calls.end in WriteDone (write_end_verdict v n (length c.old)) c.old c.answer c.new
  pub vertex_room : (k : ℕ) → k < v → length (vertex_text table k) ≤ length (calls.vertex k).old
  pub element_room : (k : ℕ) → k < n → length (element_text t k) ≤ length (calls.element k).old
  pub end_room : length (end_text v n) ≤ length calls.end.old

-- ---- what they wrote

-- as many bytes from the front of the buffer as the answer says; a refused call wrote nothing
unfoldable pub bytes_of : Result ℕ Refusal → List ℕ → List ℕ
bytes_of (Ok n) new = take n new
bytes_of (Err r) new = []

-- what a call wrote
unfoldable pub wrote : Call → List ℕ
wrote c = bytes_of c.answer c.new

-- the first n texts put together
unfoldable pub joined : ℕ → (ℕ → List ℕ) → List ℕ
joined zero f = []
joined (suc n) f = f 0 ++ joined n (λ k. f (suc k))

-- what they wrote put together: all vertices, all elements, then EN
unfoldable pub together : (vertices elements : ℕ) → Calls → List ℕ
together v n calls = joined v (λ k. wrote (calls.vertex k)) ++ (joined n (λ k. wrote (calls.element k)) ++ wrote calls.end)

-- ---- a line that reads back

-- the reader's state after v vertices and n elements, before EN
abbrev pub reading : (vertices elements : ℕ) → ReaderState
reading v n = record { vertices = v; elements = n; ended = false }

-- and after EN
abbrev pub ended : (vertices elements : ℕ) → ReaderState
ended v n = record { vertices = v; elements = n; ended = true }

-- a line is accepted in a state, leads to the next state, and adds vs to the vertex table and es to the element table
pub record LineBack (rooms : Rooms) (state : ReaderState) (l : List ℕ) (vs : List ℤ) (es : List ℕ) (next : ReaderState) : Type 0 where
  pub verdict : line_verdict rooms state true l ≡ Ok next
  pub vertices : vertex_records state (role_of (mark_of l)) l ≡ vs
  pub elements : element_records state (role_of (mark_of l)) l ≡ es

-- ---- a file that reads back

-- the written file is accepted with its counts, and its records are those of the tables that it was written from
pub record FileBack (rooms : Rooms) (v n : ℕ) (t : List ℕ) (table : List ℤ) : Type 0 where
  pub verdict : file_verdict rooms (written_file table t v n) ≡ accepted (v ∷ n ∷ [])
  pub vertices : stored_vertices rooms (written_file table t v n) ≡ take (vertex_width * v) table
  pub elements : stored_elements rooms (written_file table t v n) ≡ take (element_width * n) t

-- ---- what demand 2 promises

-- a call is done: its answer is the length of the text, and its buffer holds the text, then what stood behind it
pub record CallDone (text : List ℕ) (c : Call) : Type 0 where
  pub answer : c.answer ≡ Ok (length text)
  pub buffer : c.new ≡ laid text c.old

-- reading is done with the same counts, and both lent tables hold the same records, then what stood behind them
pub record SameTables (v n : ℕ) (t : List ℕ) (table vertices : List ℤ) (elements : List ℕ) (r : Result ReadCounts Refusal) (vertices' : List ℤ) (elements' : List ℕ) : Type 0 where
  pub answer : r ≡ Ok (record { vertices = v; elements = n })
  pub vertex_table : vertices' ≡ laid (take (vertex_width * v) table) vertices
  pub element_table : elements' ≡ laid (take (element_width * n) t) elements

-- each record writer is done, what they wrote put together is the file, and reading it with tables long enough gives the same tables,
-- if it is within the reader's limit
pub record ReadsBack (v n : ℕ) (t : List ℕ) (table : List ℤ) (calls : Calls) : Type 0 where
  pub vertices : (k : ℕ) → k < v → CallDone (vertex_text table k) (calls.vertex k)
  pub elements : (k : ℕ) → k < n → CallDone (element_text t k) (calls.element k)
  pub end : CallDone (end_text v n) calls.end
  pub file : together v n calls ≡ written_file table t v n
  pub back : length (together v n calls) ≤ file_limit
      → (vertices : List ℤ) (elements : List ℕ) (r : Result ReadCounts Refusal) (vertices' : List ℤ) (elements' : List ℕ)
      → vertex_width * v ≤ length vertices → element_width * n ≤ length elements
      → ReadDone (together v n calls) vertices elements r vertices' elements' → SameTables v n t table vertices elements r vertices' elements'
