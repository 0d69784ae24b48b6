-- The contract of each exported function: the page's answer to the verdict of the entry behind it, and what the entry leaves in lent memory.
-- Primed names are the memory afterwards.
use Rattle.std.specs.Prelude.{List, ℕ, ℤ, length}
use Rattle.laws.specs.Lent.{laid}
use Rattle.faults.specs.Refusals.{Verdict, records_of}
use Rattle.judging.specs.Judge.{judged}
use Rattle.mesh.specs.Cutting.{cut_of, flat}
use Rattle.signs.specs.Signs.{signs_of}
use Rattle.format.specs.File.{file_verdict}
use Rattle.text.specs.Reading.{rooms_of}
use Rattle.format.specs.Records.{stored_vertices, stored_elements}
use Rattle.brine.specs.Front.{no_value, how_many, FrontAnswer, FrontDone}

-- reading: two counts, and the file's records in both tables
abbrev pub ReadFront : (file : List ℕ) (vertices : List ℤ) (elements : List ℕ) → (returned : ℕ) (answer : List ℕ) (vertices' : List ℤ) (elements' : List ℕ) → Type 0
ReadFront file vertices elements returned answer vertices' elements' =
    let rooms = rooms_of vertices elements in
    FrontDone {Memory = List ℤ × List ℕ} 2 (file_verdict rooms file) returned answer (vertices', elements')
    (laid (stored_vertices rooms file) vertices, laid (stored_elements rooms file) elements)

-- judging: no value, nothing lent but the answer
abbrev pub JudgeFront : (v n : ℕ) (elements : List ℕ) → (returned : ℕ) (answer : List ℕ) → Type 0
JudgeFront v n elements returned answer = FrontAnswer 0 (no_value (judged v n elements)) returned answer

-- cutting: how many tetrahedra, and their numbers in the output
abbrev pub CutFront : (v n : ℕ) (elements tetrahedra : List ℕ) → (returned : ℕ) (answer tetrahedra' : List ℕ) → Type 0
CutFront v n elements tetrahedra returned answer tetrahedra' =
    let verdict = cut_of v n elements (length tetrahedra) in
    FrontDone 1 (how_many verdict) returned answer tetrahedra' (laid (records_of flat verdict) tetrahedra)

-- the sign report: four counts, nothing lent but the answer
abbrev pub SignFront : (v n : ℕ) (elements : List ℕ) (vertices : List ℤ) → (returned : ℕ) (answer : List ℕ) → Type 0
SignFront v n elements vertices returned answer = FrontAnswer 4 (signs_of v n elements vertices) returned answer

-- a text: its length, and the text in the buffer
abbrev pub TextFront : (verdict : Verdict (List ℕ)) (buffer : List ℕ) → (returned : ℕ) (answer buffer' : List ℕ) → Type 0
TextFront verdict buffer returned answer buffer' =
    FrontDone 1 (how_many verdict) returned answer buffer' (laid (records_of (λ text. text) verdict) buffer)
