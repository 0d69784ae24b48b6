-- What is written reads back: demand 2, in the words of specs/ alone. A reader starts here.
--   written_reads_back      A file written from accepted tables, if within the reader's limits, reads back to the same tables.
--   accepted_limits         Accepted tables are within the limits of vertices and elements: what is left to ask is the file's length.
--   accepted-apart          In accepted tables no vertex stands twice in an element.
--   sign_report_accepts     Tables to which the sign report says Done are accepted,
--   accepted_by_report      and to accepted tables it says nothing else.
--   same-vertex             Each vertex that was read is that which was written,
--   same-element            and so is each element.
--   file_reads_back         The same of the definitions alone, whoever wrote the file.
--   coordinate_reads_back   A coordinate reads back,
--   number_reads_back       a vertex number and a count do,
--   vertex_reads_back       a vertex record does,
--   element_reads_back      an element record of each of the four solids does,
--   end_reads_back          and EN with its counts does.
--   read_records            What reading stores has no fault but that a vertex may stand twice in an element, which reading does not judge.
--   reading_reads_back      So the tables that reading leaves are written, and read back, where no vertex stands twice in an element;
--   read_write_read         and reading, then writing, then reading is reading.
-- Assumes nothing.
use Prim.Native.Nat.{ℕ, ◌+◌, ◌*◌, ◌^◌, ◌≤◌, ◌<◌}
use native.Mathlib.Omega.{arith}
use mathlib.Core.Path.{◌≡◌, refl, sym, ap, ◌∙◌}
use mathlib.Core.Bool.{true, cond}
use mathlib.Core.List.{List, [], ◌∷◌}
use lib.IntN.{ℤ, pos}
use lib.ListN.{length, get_or}
use Rattle.faults.specs.declared.Refusal.{Refusal}
use Rattle.std.specs.Prelude.{Some, Ok, Result}
use Rattle.limits.specs.Limits.{file_limit, vertex_limit, element_limit, vertex_width, element_width, number_digits}
use Rattle.laws.specs.Words.{distinct}
use Rattle.laws.proofs.TestLaws.{T_true}
use Rattle.std.specs.Prelude.{Ok, Err}
use Rattle.faults.specs.declared.Fault.TheVariants.{Repeat}
use Rattle.faults.proofs.Theorems.{answer_tells_verdict}
use Rattle.volume.specs.Volume.{in_range, point_at}
use Rattle.volume.specs.declared.Point.{Point}
use Rattle.records.specs.Record.{used_of, record_finding, record_at}
use Rattle.records.proofs.RecordLaws.{clean_faultless}
use Rattle.signs.specs.Signs.{signs_of, accepted_tables, sign_verdict, SignDone}
use Rattle.signs.specs.declared.SignCounts.{SignCounts}
use Rattle.format.specs.Number.{coordinate_of, number_of}
use Rattle.format.specs.declared.Rooms.{Rooms}
use Rattle.text.specs.Reading.{ReadDone}
use Rattle.text.specs.declared.ReadCounts.{ReadCounts}
use Rattle.text.proofs.Theorems.{accepted_stores, accepted_counts}
use Rattle.writing.specs.Written.{decimal, coordinate_text, vertex_line, element_line, end_line, written_file}
use Rattle.promises.specs.ReadBack.{Calls, Called, together, SameTables, ReadsBack, reading, ended, LineBack, FileBack}
use Rattle.promises.proofs.ReadBackNumbers.{coordinate-back, number-back}
use Rattle.promises.proofs.ReadBackLines.{vertex_read, element_read, end_read}
use Rattle.promises.proofs.ReadBackFile.{vertex_at, file-back}
use Rattle.promises.proofs.ReadBackCalls.{accepted-sound, vertex-point, reads_back}
use Rattle.promises.proofs.ReadBackAgain.{record_kept, vertices-front, elements-front, read_sound, read_finding}

-- ---- tables that the sign report accepts

pub sign_report_accepts : (v n : ℕ) (t : List ℕ) (table : List ℤ) (c : SignCounts) → SignDone v n t table (Ok c)
    → accepted_tables v n t table ≡ true
unfolding accepted_tables
sign_report_accepts v n t table c d =
    rw (← answer_tells_verdict (0 ∷ 0 ∷ 0 ∷ 0 ∷ []) (sign_verdict (Ok c)) (signs_of v n t table) d.answer)

pub accepted_by_report : (v n : ℕ) (t : List ℕ) (table : List ℤ) (r : Result SignCounts Refusal) → accepted_tables v n t table ≡ true → SignDone v n t table r
    → (c : SignCounts) × (r ≡ Ok c)
unfolding accepted_tables
accepted_by_report v n t table (Ok c) a d = (c, refl)
accepted_by_report v n t table (Err x) a d =
    let e = answer_tells_verdict (0 ∷ 0 ∷ 0 ∷ 0 ∷ []) (sign_verdict (Err x)) (signs_of v n t table) d.answer in
    let f = rw (← e) at a in
    let z : ◌≡◌ {A = ℕ} 0 1 = cc in
    absurd (omega arith)

module _ (v n : ℕ) (t : List ℕ) (table : List ℤ) (accepts : accepted_tables v n t table ≡ true) where
  pub accepted_limits : (v ≤ vertex_limit) × (n ≤ element_limit)
  accepted_limits = let s = accepted-sound v n t table accepts in (s.vertices, s.elements)

  -- in an accepted table no vertex stands twice in an element
  pub accepted-apart : (k : ℕ) → k < n → distinct (used_of (record_at t k)) ≡ true
  accepted-apart k h =
      T_true (distinct (used_of (record_at t k))) (clean_faultless v (record_at t k) ((accepted-sound v n t table accepts).clean k h)).apart

  -- ---- a file written from accepted tables reads back to the same tables

  pub written_reads_back : (calls : Calls) → Called v n t table calls → ReadsBack v n t table calls
  written_reads_back calls called = reads_back v n t table (accepted-sound v n t table accepts) calls called

  pub file_reads_back : (rooms : Rooms) → vertex_width * v ≤ rooms.vertices → element_width * n ≤ rooms.elements
      → length (written_file table t v n) ≤ file_limit → FileBack rooms v n t table
  file_reads_back rooms = file-back rooms v n t table (accepted-sound v n t table accepts)

  -- the tables that were read hold each vertex, counted from 1, and each element, from 0
  module _
      (vertices : List ℤ)
      (elements : List ℕ)
      (r : Result ReadCounts Refusal)
      (vertices' : List ℤ)
      (elements' : List ℕ)
      (same : SameTables v n t table vertices elements r vertices' elements')
    where
      pub same-vertex : (k : ℕ) → k < v → point_at vertices' (k + 1) ≡ point_at table (k + 1)
      same-vertex k h =
          let long = (accepted-sound v n t table accepts).vertex_room in
          let e : vertex_at vertices' k ≡ vertex_at table k =
          ap (λ (l : List ℤ). vertex_at l k) same.vertex_table ∙ record_kept vertex_width v k table vertices (omega arith) long
          in
          vertex-point vertices' k
          ∙ ap {B = Point} (λ (l : List ℤ). record { x = get_or l 0 (pos 0); y = get_or l 1 (pos 0); z = get_or l 2 (pos 0) }) e
          ∙ sym (vertex-point table k)

      pub same-element : (k : ℕ) → k < n → record_at elements' k ≡ record_at t k
      unfolding record_at
      same-element k h =
          let long = (accepted-sound v n t table accepts).element_room in
          ap (λ (l : List ℕ). record_at l k) same.element_table ∙ record_kept element_width n k t elements (omega arith) long

-- ---- its companions: a coordinate, a count and each record

pub coordinate_reads_back : (z : ℤ) → in_range z ≡ true → coordinate_of (coordinate_text z) ≡ Ok z
coordinate_reads_back = coordinate-back

pub number_reads_back : (k : ℕ) → k < 10 ^ number_digits → number_of (decimal k) ≡ Some k
number_reads_back = number-back

-- in every state that allows the line
pub vertex_reads_back : (rooms : Rooms) (v : ℕ) (x y z : ℤ) → in_range x ≡ true → in_range y ≡ true → in_range z ≡ true
    → v < vertex_limit → vertex_width * (v + 1) ≤ rooms.vertices
    → LineBack rooms (reading v 0) (vertex_line x y z) (x ∷ y ∷ z ∷ []) [] (reading (v + 1) 0)
vertex_reads_back rooms v x y z hx hy hz few room = (vertex_read rooms v x y z hx hy hz few room).back

pub element_reads_back : (rooms : Rooms) (v n : ℕ) (r : List ℕ) → record_finding v r ≡ Ok tt
    → v ≤ vertex_limit → n < element_limit → element_width * (n + 1) ≤ rooms.elements
    → LineBack rooms (reading v n) (element_line r) [] r (reading v (n + 1))
element_reads_back rooms v n r clean few fewer room = (element_read rooms v n few fewer room r clean).back

pub end_reads_back : (rooms : Rooms) (v n : ℕ) → v ≤ vertex_limit → n ≤ element_limit → LineBack rooms (reading v n) (end_line v n) [] [] (ended v n)
end_reads_back rooms v n few fewer = (end_read rooms v n few fewer).back

-- ---- reading, then writing, then reading

module _
    (file : List ℕ)
    (vertices : List ℤ)
    (elements : List ℕ)
    (counts : ReadCounts)
    (vertices' : List ℤ)
    (elements' : List ℕ)
    (done : ReadDone file vertices elements (Ok counts) vertices' elements')
  where
    -- the only fault of a record that was read is REPEAT
    pub read_records : (k : ℕ) → k < counts.elements
        → record_finding counts.vertices (record_at elements' k) ≡ cond (distinct (used_of (record_at elements' k))) (Ok tt) (Err Repeat)
    read_records = read_finding file vertices elements counts vertices' elements' done

    module _
        (apart : (k : ℕ) → k < counts.elements → distinct (used_of (record_at elements' k)) ≡ true)
        (calls : Calls)
        (called : Called counts.vertices counts.elements elements' vertices' calls)
      where
        pub reading_reads_back : ReadsBack counts.vertices counts.elements elements' vertices' calls
        reading_reads_back =
            reads_back counts.vertices counts.elements elements' vertices' (read_sound file vertices elements counts vertices' elements' done apart) calls called

        -- with the lent tables as they were, the answer and both tables are those of the first reading
        pub read_write_read : (r : Result ReadCounts Refusal) (w : List ℤ) (e : List ℕ) → length (together counts.vertices counts.elements calls) ≤ file_limit
            → ReadDone (together counts.vertices counts.elements calls) vertices elements r w e
            → (r ≡ Ok counts) × (w ≡ vertices') × (e ≡ elements')
        read_write_read r w e short again =
            let c = accepted_counts file vertices elements counts vertices' elements' done in
            let first = accepted_stores file vertices elements counts vertices' elements' done in
            let s = reading_reads_back.back short vertices elements r w e c.vertices-fit c.elements-fit again in (
              s.answer,
              s.vertex_table ∙ rw (vertices-front file vertices elements counts vertices' elements' done) (sym first.0),
              s.element_table ∙ rw (elements-front file vertices elements counts vertices' elements' done) (sym first.1),
            )
