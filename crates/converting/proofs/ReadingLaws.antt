-- What reading into tables with room for every file gives: the counts, the file's records at the front of the tables, and every coordinate within
-- the limits. Assumes nothing.
use mathlib.Core.Path.{◌≡◌, sym, ap}
use mathlib.Core.List.{List, [], ◌∷◌}
use Prim.Native.Nat.{ℕ, ◌*◌, ◌≤◌}
use native.Mathlib.Omega.{arith}
use lib.IntN.{ℤ, pos}
use lib.ListN.{length, get_or, take, replicate, length-replicate}
use Rattle.limits.specs.Limits.{vertex_width, element_width}
use Rattle.laws.specs.Lent.{laid}
use Rattle.faults.specs.declared.Refusal.{Refusal}
use Rattle.faults.specs.Refusals.{accepted, refused}
use Rattle.faults.proofs.Theorems.{answer_tells_verdict}
use Rattle.format.specs.File.{start, lines_of, file_verdict}
use Rattle.format.specs.Records.{vertex_records, element_records, records_from, of_accepted, stored_vertices, stored_elements}
use Rattle.format.proofs.AcceptedFileLaws.{file-fits}
use Rattle.format.proofs.StoredRecordLaws.{records_ranged}
use Rattle.text.specs.Reading.{verdict_of, rooms_of, ReadDone}
use Rattle.std.specs.Prelude.{Result, Ok, Err}
use Rattle.text.specs.declared.ReadCounts.{ReadCounts}
use Rattle.converting.specs.Conversion.{rooms}
use Rattle.converting.specs.ConversionLoops.{GoodVertices}
use Rattle.converting.proofs.PutTextLaws.{take-laid}

-- ---- what reading leaves

-- an accepted file: its counts, and its records at the front of the two tables
pub record Read (file : List ℕ) (vertices elements : ℕ) (vertex_table : List ℤ) (element_table : List ℕ) : Type 0 where
  pub verdict : file_verdict rooms file ≡ accepted (vertices ∷ elements ∷ [])
  pub vertex_numbers : take (vertex_width * vertices) vertex_table ≡ stored_vertices rooms file
  pub vertex_end : vertex_width * vertices ≡ length (take (vertex_width * vertices) vertex_table)
  pub element_numbers : take (element_width * elements) element_table ≡ stored_elements rooms file
  pub element_end : element_width * elements ≡ length (take (element_width * elements) element_table)
  pub few : elements ≤ 1024
  pub good : GoodVertices (stored_vertices rooms file) vertices

-- the vertices of an accepted file: three numbers each, and as many as its count says
pub file-long : (file cs : List ℕ) → file_verdict rooms file ≡ accepted cs → length (stored_vertices rooms file) ≡ vertex_width * get_or cs 0 0
unfolding stored_vertices
file-long file cs e =
    let f = file-fits rooms file cs e in
    let v : get_or cs 0 0 ≡ f.final.vertices = ap (λ (l : List ℕ). get_or l 0 0) f.counts in
    rw (e, v) f.vertices

pub file_good : (file cs : List ℕ) → file_verdict rooms file ≡ accepted cs → GoodVertices (stored_vertices rooms file) (get_or cs 0 0)
unfolding stored_vertices
file_good file cs e =
    let f = file-fits rooms file cs e in
    let v : get_or cs 0 0 ≡ f.final.vertices = ap (λ (l : List ℕ). get_or l 0 0) f.counts in
    let l = file-long file cs e in
    record { few = rw v f.kept.vertices; long = omega (arith, l); ranged = rw e (records_ranged start (lines_of file)) }

-- records of a known length at the front of a table
front : {A : Type 0} {n : ℕ} (records old : List A) {new : List A} → new ≡ laid records old → length records ≡ n → take n new ≡ records
front records old e f = rw (e, ← f) (take-laid records old)

-- tables with room for every file, before anything is read
abbrev pub vertices : List ℤ
vertices = replicate rooms.vertices (pos 0)

abbrev pub elements : List ℕ
elements = replicate rooms.elements 0

same : rooms_of vertices elements ≡ rooms
same = λ i. record { vertices = length-replicate rooms.vertices (pos 0) i; elements = length-replicate {A = ℕ} rooms.elements 0 i }

module _ {file : List ℕ} {vertices' : List ℤ} {elements' : List ℕ} where
  told : {r : Result ReadCounts Refusal} → ReadDone file vertices elements r vertices' elements' → verdict_of r ≡ file_verdict rooms file
  told d = answer_tells_verdict (0 ∷ 0 ∷ []) _ _ (rw same at d.answer)

  pub read_refusal : {x : Refusal} → ReadDone file vertices elements (Err x) vertices' elements' → file_verdict rooms file ≡ refused x
  unfolding verdict_of
  read_refusal d = sym (told d)

  pub read_stored : {c : ReadCounts} → ReadDone file vertices elements (Ok c) vertices' elements' → Read file c.vertices c.elements vertices' elements'
  unfolding verdict_of stored_vertices stored_elements
  read_stored {c = c} d =
      let e : file_verdict rooms file ≡ accepted (c.vertices ∷ c.elements ∷ []) = sym (told d) in
      let f = file-fits rooms file (c.vertices ∷ c.elements ∷ []) e in
      let cs = f.counts in
      let v : c.vertices ≡ f.final.vertices = cc in
      let n : c.elements ≡ f.final.elements = cc in
      let vs : stored_vertices rooms file ≡ records_from vertex_records start (lines_of file) = ap (λ x. of_accepted x (records_from vertex_records start (lines_of file))) e in
      let es : stored_elements rooms file ≡ records_from element_records start (lines_of file) = ap (λ x. of_accepted x (records_from element_records start (lines_of file))) e in
      let vl : length (stored_vertices rooms file) ≡ vertex_width * c.vertices = rw (vs, v) f.vertices in
      let el : length (stored_elements rooms file) ≡ element_width * c.elements = rw (es, n) f.elements in
      let vt = front (stored_vertices rooms file) vertices (rw same at d.vertex_table) vl in
      let et = front (stored_elements rooms file) elements (rw same at d.element_table) el in
      record {
        verdict = e;
        vertex_numbers = vt;
        vertex_end = rw vt (sym vl);
        element_numbers = et;
        element_end = rw et (sym el);
        few = rw n f.kept.elements;
        good = file_good file (c.vertices ∷ c.elements ∷ []) e;
      }
