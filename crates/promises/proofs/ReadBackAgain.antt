-- Reading, then writing what was read, then reading again: the tables that reading leaves can be written and read, where no vertex stands twice
-- in an element. Assumes nothing.
use Prim.Native.Nat.{ℕ, suc, ◌+◌, ◌*◌, ◌≤◌, ◌<◌}
use native.Mathlib.Nat.{mul-suc}
use native.Mathlib.Omega.{arith}
use mathlib.Core.Path.{◌≡◌, refl, sym, ap, ◌∙◌}
use mathlib.Core.Bool.{Bool, true, false, cond}
use mathlib.Core.List.{List, [], ◌∷◌, ◌++◌}
use lib.Dec.{T, eqb, eqb→eq}
use lib.IntN.{ℤ, pos}
use lib.ListN.{length, get_or, take, drop, length-append, length-drop, take-append-drop}
use lib.Seq.{get_or-take, get_or-drop, take-append-le, drop-append-le, take_at, length-take-le}
use borrow.Author.Tests.{eq-eqb}
use Rattle.limits.specs.Limits.{vertex_width, element_width}
use Rattle.laws.specs.Words.{some, every, distinct}
use Rattle.laws.specs.Lent.{laid}
use Rattle.laws.proofs.TestLaws.{true-T, T_true}
use Rattle.laws.proofs.EveryLaws.{every_index, none_follows}
use Rattle.faults.specs.Refusals.{accepted}
use Rattle.std.specs.Prelude.{Ok, Err}
use Rattle.faults.specs.declared.Fault.TheVariants.{Repeat}
use Rattle.faults.proofs.Theorems.{answer_tells_verdict}
use Rattle.volume.specs.Volume.{in_range}
use Rattle.records.specs.Record.{kind_of, used_of, spare_of, is_kind, stray_vertex, not_zero, record_finding, record_at}
use Rattle.records.specs.WholeRecords.{is_number}
use Rattle.records.proofs.RecordLaws.{faultless_clean, finding_clean, finding_repeat, stays}
use Rattle.format.specs.File.{start, lines_of, file_verdict}
use Rattle.format.specs.Records.{vertex_records, element_records, records_from}
use Rattle.format.specs.StoredRecords.{Stored, EachRecord}
use Rattle.format.proofs.Theorems.{Counted}
use Rattle.format.proofs.StoredRecordLaws.{records_ranged, file_stored}
use Rattle.text.specs.Reading.{verdict_of, rooms_of, ReadDone}
use Rattle.text.specs.declared.ReadCounts.{ReadCounts}
use Rattle.text.proofs.Theorems.{accepted_stores, accepted_counts}
use Rattle.promises.proofs.ReadBackFile.{Ranged, vertex_at, Sound}

-- ---- the records that are laid at the front of a table

-- a whole record of the first of two lists
record_front : {A : Type 0} (w i : ℕ) (l m : List A) → w * suc i ≤ length l → take w (drop (w * i) (l ++ m)) ≡ take w (drop (w * i) l)
record_front w i l m h =
    let s = mul-suc w i in
    ap (take w) (drop-append-le (w * i) l m (omega arith))
    ∙ take-append-le w (drop (w * i) l) m (rw (length-drop (w * i) l) (omega arith))

module _ {A : Type 0} (records old : List A) where
  record_laid : (w i : ℕ) → w * suc i ≤ length records → take w (drop (w * i) (laid records old)) ≡ take w (drop (w * i) records)
  unfolding laid
  record_laid w i h = record_front w i records (drop (length records) old) h

  laid-long : length records ≤ length (laid records old)
  unfolding laid
  laid-long = rw (length-append records (drop (length records) old)) (omega arith)

  pub take-laid : (n : ℕ) → length records ≡ n → take n (laid records old) ≡ records
  unfolding laid
  take-laid n e = take_at records (drop (length records) old) n e

-- where the first n records of a table are laid, each is that of the table
pub record_kept : {A : Type 0} (w n i : ℕ) (t old : List A) → w * suc i ≤ w * n → w * n ≤ length t
    → take w (drop (w * i) (laid (take (w * n) t) old)) ≡ take w (drop (w * i) t)
record_kept w n i t old h long =
    let b : w * suc i ≤ length (take (w * n) t) = rw (length-take-le (w * n) t long) h in
    record_laid (take (w * n) t) old w i b
    ∙ sym (record_front w i (take (w * n) t) (drop (w * n) t) b)
    ∙ ap (λ l. take w (drop (w * i) l)) (take-append-drop (w * n) t)

-- ---- a vertex of a table whose every number is within the limits

module _ (l : List ℤ) (h : T (every in_range l)) (i : ℕ) (b : vertex_width * suc i ≤ length l) where
  ranged-number : (j : ℕ) → j < vertex_width → in_range (get_or (take vertex_width (drop (vertex_width * i) l)) j (pos 0)) ≡ true
  ranged-number j k =
      rw (get_or-take vertex_width (drop (vertex_width * i) l) j (pos 0) k, get_or-drop (vertex_width * i) l j (pos 0))
      (T_true _ (every_index in_range l (pos 0) (vertex_width * i + j) h (omega arith)))

  ranged_record : Ranged (take vertex_width (drop (vertex_width * i) l))
  ranged_record = record { x = ranged-number 0 (omega arith); y = ranged-number 1 (omega arith); z = ranged-number 2 (omega arith) }

-- ---- the tables that reading leaves

module _
    (file : List ℕ)
    (vertices : List ℤ)
    (elements : List ℕ)
    (counts : ReadCounts)
    (vertices' : List ℤ)
    (elements' : List ℕ)
    (done : ReadDone file vertices elements (Ok counts) vertices' elements')
  where
    read_accepted : file_verdict (rooms_of vertices elements) file ≡ accepted (counts.vertices ∷ counts.elements ∷ [])
    unfolding verdict_of
    read_accepted = sym (answer_tells_verdict (0 ∷ 0 ∷ []) (verdict_of (Ok counts)) _ done.answer)

    records : EachRecord element_width (Stored counts.vertices) (records_from element_records start (lines_of file))
    records = file_stored (rooms_of vertices elements) counts.vertices counts.elements file read_accepted

    counted : Counted (rooms_of vertices elements) file counts.vertices counts.elements
    counted = accepted_counts file vertices elements counts vertices' elements' done

    abbrev stored_v : List ℤ
    stored_v = records_from vertex_records start (lines_of file)

    abbrev stored_e : List ℕ
    stored_e = records_from element_records start (lines_of file)

    vertices-laid : vertices' ≡ laid stored_v vertices
    vertices-laid = (accepted_stores file vertices elements counts vertices' elements' done).0

    elements_laid : elements' ≡ laid stored_e elements
    elements_laid = (accepted_stores file vertices elements counts vertices' elements' done).1

    -- the front of each table is what was stored
    pub vertices-front : take (vertex_width * counts.vertices) vertices' ≡ stored_v
    vertices-front = rw vertices-laid (take-laid stored_v vertices (vertex_width * counts.vertices) counted.vertices_stored)

    pub elements-front : take (element_width * counts.elements) elements' ≡ stored_e
    elements-front = rw elements_laid (take-laid stored_e elements (element_width * counts.elements) counted.elements_stored)

    vertex_there : (i : ℕ) → i < counts.vertices → Ranged (vertex_at vertices' i)
    vertex_there i h =
        let b : vertex_width * suc i ≤ length stored_v = omega (arith, counted.vertices_stored) in
        rw (vertices-laid, record_laid stored_v vertices vertex_width i b) (ranged_record stored_v (records_ranged start (lines_of file)) i b)

    -- a record that is stored has no fault, or a vertex twice
    pub element_there : (i : ℕ) → i < counts.elements → Stored counts.vertices (record_at elements' i)
    unfolding record_at
    element_there i h =
        let b : element_width * suc i ≤ length stored_e = omega (arith, counted.elements_stored) in
        rw (elements_laid, record_laid stored_e elements element_width i b) (records i b)

    pub read_sound : ((k : ℕ) → k < counts.elements → distinct (used_of (record_at elements' k)) ≡ true)
        → Sound counts.vertices counts.elements elements' vertices'
    read_sound apart = record {
      vertices = counted.vertices_limited;
      elements = counted.elements_limited;
      vertex_room = rw vertices-laid (omega (arith, laid-long stored_v vertices, counted.vertices_stored));
      element_room = rw elements_laid (omega (arith, laid-long stored_e elements, counted.elements_stored));
      ranged = vertex_there;
      clean = λ k h.
          let s = element_there k h in
          faultless_clean counts.vertices (record_at elements' k)
          (record { wide = s.wide; kind = s.kind; inside = s.inside; unused = s.unused; apart = true-T (apart k h) });
    }

    -- the only fault of a record that was read is REPEAT
    pub read_finding : (k : ℕ) → k < counts.elements
        → record_finding counts.vertices (record_at elements' k) ≡ cond (distinct (used_of (record_at elements' k))) (Ok tt) (Err Repeat)
    read_finding k h = by (distinct (used_of (record_at elements' k))) refl
      where
        r : List ℕ
        r = record_at elements' k

        s : Stored counts.vertices r
        s = element_there k h

        kind : is_kind (kind_of r) ≡ true
        kind = T_true (is_kind (kind_of r)) s.kind

        inside : some (stray_vertex counts.vertices) (used_of r) ≡ false
        inside = none_follows (is_number counts.vertices) (stray_vertex counts.vertices) (stays counts.vertices) (used_of r) s.inside

        unused : some not_zero (spare_of r) ≡ false
        unused = none_follows (eqb 0) not_zero (λ z b. rw (eq-eqb z 0 (sym (eqb→eq 0 z b)))) (spare_of r) s.unused

        by : (b : Bool) → distinct (used_of r) ≡ b → record_finding counts.vertices r ≡ cond b (Ok tt) (Err Repeat)
        by true e = sym (finding_clean counts.vertices r s.wide kind inside unused e)
        by false e = sym (finding_repeat counts.vertices r s.wide kind inside unused e)
