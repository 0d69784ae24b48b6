-- The contract of reading: the answer, and both lent tables after it.
use Rattle.std.specs.Prelude.{ℕ, ◌≡◌, List, [], ◌∷◌, length, ℤ, Result, Ok, Err}
use Rattle.laws.specs.Lent.{laid}
use Rattle.faults.specs.Refusals.{Verdict, accepted, refused, answer_of}
use Rattle.faults.specs.declared.Refusal.{Refusal}
use Rattle.format.specs.File.{file_verdict}
use Rattle.format.specs.Records.{stored_vertices, stored_elements}
use Rattle.format.specs.declared.Rooms.{Rooms}
use Rattle.text.specs.declared.ReadCounts.{ReadCounts}

-- the page's verdict that an answer stands for: accepted with the two counts, or refused
unfoldable pub verdict_of : Result ReadCounts Refusal → Verdict (List ℕ)
verdict_of (Ok counts) = accepted (counts.vertices ∷ counts.elements ∷ [])
verdict_of (Err r) = refused r

-- the rooms of two lent tables
abbrev pub rooms_of : List ℤ → List ℕ → Rooms
rooms_of vertices elements = record { vertices = length vertices; elements = length elements }

-- the answer is the page's, and both tables hold the file's records, then what stood behind them; a refused file has no records
pub record ReadDone (file : List ℕ) (vertices : List ℤ) (elements : List ℕ) (r : Result ReadCounts Refusal) (vertices' : List ℤ) (elements' : List ℕ) : Type 0 where
  pub answer : answer_of (0 ∷ 0 ∷ []) (verdict_of r) ≡ answer_of (0 ∷ 0 ∷ []) (file_verdict (rooms_of vertices elements) file)
  pub vertex_table : vertices' ≡ laid (stored_vertices (rooms_of vertices elements) file) vertices
  pub element_table : elements' ≡ laid (stored_elements (rooms_of vertices elements) file) elements
