-- A written file is read line by line: lines that are read one after the other are read together, the lines of a table are read to its records,
-- and so is the whole file. Assumes nothing.
use Prim.Native.Nat.{ℕ, zero, suc, ◌+◌, ◌*◌, ◌≤◌, ◌<◌}
use native.Mathlib.Nat.{add-zero, zero-add, mul-suc, mul-zero, add_comm}
use native.Mathlib.Omega.{arith}
use mathlib.Core.Path.{◌≡◌, refl, sym, ap, ◌∙◌, subst}
use mathlib.Core.Bool.{true}
use mathlib.Core.List.{List, [], ◌∷◌, ◌++◌, append-nil, append_assoc}
use lib.IntN.{ℤ, pos}
use lib.ListN.{length, get_or, take, drop, length-append, length-drop}
use lib.Seq.{drop-drop, take-add, length-take-le}
use borrow.Author.Tests.{le-ltb}
use Rattle.limits.specs.Limits.{line_end, file_limit, vertex_limit, element_limit, vertex_width, element_width}
use Rattle.laws.specs.Pieces.{Pieces, rest, piece, split}
use Rattle.laws.specs.Words.{gather}
use Rattle.laws.proofs.PieceLaws.{Free, split-joined}
use Rattle.faults.specs.Refusals.{accepted}
use Rattle.std.specs.Prelude.{Ok}
use Rattle.volume.specs.Volume.{in_range}
use Rattle.records.specs.Record.{record_finding, record_at}
use Rattle.format.specs.Line.{after}
use Rattle.format.specs.File.{start, lines_of, at_end, file_from, file_verdict}
use Rattle.format.specs.Records.{vertex_records, element_records, records_from, stored_vertices, stored_elements}
use Rattle.format.specs.declared.ReaderState.{ReaderState}
use Rattle.format.specs.declared.Rooms.{Rooms}
use Rattle.format.specs.GoodFields.{Each}
use Rattle.writing.specs.Written.{closed, vertex_lines, element_lines, after_lines, lines_from, file_lines, written_file}
use Rattle.promises.specs.ReadBack.{reading, ended, FileBack}
use Rattle.promises.proofs.ReadBackLines.{LineRead, vertex_read, element_read, end_read}

-- ---- lines that are read one after the other

-- the pieces that closed lines make, before other pieces
abbrev before : List (List ℕ) → Pieces → Pieces
before [] p = p
before (l ∷ ls) p = piece l (before ls p)

before_append : (ls ms : List (List ℕ)) (p : Pieces) → before (ls ++ ms) p ≡ before ls (before ms p)
before_append [] ms p = refl
before_append (l ∷ ls) ms p = ap (piece l) (before_append ls ms p)

each_append : (P : List ℕ → Type 0) (ls ms : List (List ℕ)) → Each P ls → Each P ms → Each P (ls ++ ms)
each_append P [] ms h k = k
each_append P (l ∷ ls) ms h k = (h.0, each_append P ls ms h.1 k)

after_append : (state : ReaderState) (ls ms : List (List ℕ)) → after_lines state (ls ++ ms) ≡ after_lines (after_lines state ls) ms
unfolding after_lines
after_append state [] ms = refl
after_append state (l ∷ ls) ms = after_append (after state l) ls ms

-- all are accepted; they add vs to the vertex table and es to the element table, and lead to the next state
record LinesRead (rooms : Rooms) (state : ReaderState) (ls : List (List ℕ)) (vs : List ℤ) (es : List ℕ) (next : ReaderState) : Type 0 where
  unbroken : Each (Free line_end) ls
  verdict : (n : ℕ) (p : Pieces) → file_from rooms state n (before ls p) ≡ file_from rooms next (n + length ls) p
  vertices : (p : Pieces) → records_from vertex_records state (before ls p) ≡ vs ++ records_from vertex_records next p
  elements : (p : Pieces) → records_from element_records state (before ls p) ≡ es ++ records_from element_records next p
  same : after_lines state ls ≡ next

module _ (rooms : Rooms) where
  none_read : (state : ReaderState) → LinesRead rooms state [] [] [] state
  unfolding after_lines
  none_read state = record {
    unbroken = tt;
    verdict = λ n p. rw (add-zero n);
    vertices = λ p. refl;
    elements = λ p. refl;
    same = refl;
  }

  one_read : {state next : ReaderState} {l : List ℕ} {vs : List ℤ} {es : List ℕ} → LineRead rooms state l vs es next
      → LinesRead rooms state (l ∷ []) vs es next
  unfolding file_from records_from after_lines
  one_read r = record {
    unbroken = (r.unbroken, tt);
    verdict = λ n p. rw r.back.verdict;
    vertices = λ p. rw (r.back.vertices, r.same);
    elements = λ p. rw (r.back.elements, r.same);
    same = r.same;
  }

  both_read : {state middle next : ReaderState} {ls ms : List (List ℕ)} {vs us : List ℤ} {es fs : List ℕ} → LinesRead rooms state ls vs es middle
      → LinesRead rooms middle ms us fs next → LinesRead rooms state (ls ++ ms) (vs ++ us) (es ++ fs) next
  both_read {state} {middle} {next} {ls} {ms} {vs} {us} {es} {fs} r s = record {
    unbroken = each_append (Free line_end) ls ms r.unbroken s.unbroken;
    verdict = λ n p.
        ap (file_from rooms state n) (before_append ls ms p)
        ∙ r.verdict n (before ms p)
        ∙ s.verdict (n + length ls) p
        ∙ ap (λ (k : ℕ). file_from rooms next k p) (let e = length-append ls ms in omega arith);
    vertices = λ p.
        ap (records_from vertex_records state) (before_append ls ms p)
        ∙ r.vertices (before ms p)
        ∙ ap (λ (l : List ℤ). vs ++ l) (s.vertices p)
        ∙ sym (append_assoc vs us _);
    elements = λ p.
        ap (records_from element_records state) (before_append ls ms p)
        ∙ r.elements (before ms p)
        ∙ ap (λ (l : List ℕ). es ++ l) (s.elements p)
        ∙ sym (append_assoc es fs _);
    same = after_append state ls ms ∙ rw r.same s.same;
  }

-- ---- the lines of a table

-- one record after the other: `good` records of a table are read, and vs and es say what a part of the table adds to each table
module _
    {A : Type 0}
    (rooms : Rooms)
    (lines : ReaderState → List A → List (List ℕ))
    (w most : ℕ)
    (state : ℕ → ReaderState)
    (good : List A → Type 0)
    (vs : List A → List ℤ)
    (es : List A → List ℕ)
    (vs-append : (x y : List A) → vs (x ++ y) ≡ vs x ++ vs y)
    (es-append : (x y : List A) → es (x ++ y) ≡ es x ++ es y)
    (vs-none : vs [] ≡ [])
    (es-none : es [] ≡ [])
    (one : (k : ℕ) (r : List A) → k < most → length r ≡ w → good r → LinesRead rooms (state k) (lines (state k) r) (vs r) (es r) (state (k + 1)))
  where
    table_read : (n k : ℕ) (t : List A) → k + n ≤ most → w * n ≤ length t → ((i : ℕ) → i < n → good (take w (drop (w * i) t)))
        → LinesRead rooms (state k) (lines_from lines w (state k) n t) (vs (take (w * n) t)) (es (take (w * n) t)) (state (k + n))
    unfolding lines_from
    table_read zero k t h long g = rw (mul-zero w, add-zero k, vs-none, es-none) (none_read rooms (state k))
    table_read (suc n) k t h long g =
        let r : List A = take w t in
        let e : w * suc n ≡ w + w * n = mul-suc w n ∙ add_comm (w * n) w in
        let p : k + 1 + n ≡ k + suc n = omega arith in
        let l : w + w * n ≤ length t = subst (λ (m : ℕ). m ≤ length t) e long in
        let first = one k r (omega arith) (length-take-le w t (omega arith)) (rw (mul-zero w) at (g 0 (omega arith))) in
        let rest =
        table_read n (k + 1) (drop w t) (omega arith) (rw (length-drop w t) (omega arith))
        (λ i b. rw (drop-drop (w * i) w t, ← add_comm (w * i) w, ← mul-suc w i) (g (suc i) (omega arith)))
        in
        rw (e, take-add w (w * n) t, vs-append r (take (w * n) (drop w t)), es-append r (take (w * n) (drop w t)), first.same, ← p)
        (both_read rooms first rest)

-- ---- tables whose every record can be written and read

-- a vertex record whose coordinates are within the limits
pub record Ranged (r : List ℤ) : Type 0 where
  pub x : in_range (get_or r 0 (pos 0)) ≡ true
  pub y : in_range (get_or r 1 (pos 0)) ≡ true
  pub z : in_range (get_or r 2 (pos 0)) ≡ true

-- the record i, from 0, of a vertex table
abbrev pub vertex_at : List ℤ → ℕ → List ℤ
vertex_at table i = take vertex_width (drop (vertex_width * i) table)

-- counts within the limits, tables long enough, vertices within the limits, elements without a fault
pub record Sound (v n : ℕ) (t : List ℕ) (table : List ℤ) : Type 0 where
  pub vertices : v ≤ vertex_limit
  pub elements : n ≤ element_limit
  pub vertex_room : vertex_width * v ≤ length table
  pub element_room : element_width * n ≤ length t
  pub ranged : (i : ℕ) → i < v → Ranged (vertex_at table i)
  pub clean : (i : ℕ) → i < n → record_finding v (record_at t i) ≡ Ok tt

three : (r : List ℤ) → length r ≡ vertex_width → get_or r 0 (pos 0) ∷ get_or r 1 (pos 0) ∷ get_or r 2 (pos 0) ∷ [] ≡ r
three [] h = absurd (omega arith)
three (x ∷ []) h = absurd (omega arith)
three (x ∷ y ∷ []) h = absurd (omega arith)
three (x ∷ y ∷ z ∷ []) h = refl
three (x ∷ y ∷ z ∷ w ∷ r) h = absurd (omega arith)

module _
    (rooms : Rooms)
    (v n : ℕ)
    (t : List ℕ)
    (table : List ℤ)
    (sound : Sound v n t table)
    (vertex_room : vertex_width * v ≤ rooms.vertices)
    (element_room : element_width * n ≤ rooms.elements)
  where
    one_vertex : (k : ℕ) (r : List ℤ) → k < v → length r ≡ vertex_width → Ranged r
        → LinesRead rooms (reading k 0) (vertex_lines (reading k 0) r) r [] (reading (k + 1) 0)
    unfolding vertex_lines
    one_vertex k r h w g =
        rw (three r w) at
        (one_read rooms
        (vertex_read rooms k (get_or r 0 (pos 0)) (get_or r 1 (pos 0)) (get_or r 2 (pos 0)) g.x g.y g.z (omega (arith, sound.vertices)) (omega arith)))

    all_vertices : LinesRead rooms (reading 0 0) (lines_from vertex_lines vertex_width (reading 0 0) v table) (take (vertex_width * v) table) [] (reading v 0)
    all_vertices =
        rw (zero-add v) at
        (table_read rooms vertex_lines vertex_width v (λ k. reading k 0) Ranged (λ r. r) (λ r. []) (λ x y. refl) (λ x y. refl) refl refl one_vertex v 0 table
        (omega arith) sound.vertex_room sound.ranged)

    one_element : (k : ℕ) (r : List ℕ) → k < n → length r ≡ element_width → record_finding v r ≡ Ok tt
        → LinesRead rooms (reading v k) (element_lines (reading v k) r) [] r (reading v (k + 1))
    unfolding element_lines
    one_element k r h w g = one_read rooms (element_read rooms v k sound.vertices (omega (arith, sound.elements)) (omega arith) r g)

    all_elements : LinesRead rooms (reading v 0) (lines_from element_lines element_width (reading v 0) n t) [] (take (element_width * n) t) (reading v n)
    unfolding record_at
    all_elements =
        rw (zero-add n) at
        (table_read rooms element_lines element_width n (λ k. reading v k) (λ r. record_finding v r ≡ Ok tt) (λ r. []) (λ r. r) (λ x y. refl) (λ x y. refl) refl refl
        one_element n 0 t (omega arith) sound.element_room sound.clean)

    all_lines : LinesRead rooms start (file_lines table t v n) (take (vertex_width * v) table) (take (element_width * n) t) (ended v n)
    unfolding start file_lines
    all_lines =
        let r =
        both_read rooms all_vertices (both_read rooms all_elements (one_read rooms (end_read rooms v n sound.vertices sound.elements)))
        in
        rw all_vertices.same (rw (append-nil (take (vertex_width * v) table), append-nil (take (element_width * n) t)) at r)

-- ---- the file

-- closed lines are cut again
lines_cut : (ls : List (List ℕ)) → Each (Free line_end) ls → split line_end (gather closed ls) ≡ before ls (rest [])
unfolding split
lines_cut [] h = refl
lines_cut (l ∷ ls) h =
    ap (split line_end) (append_assoc l (line_end ∷ []) (gather closed ls))
    ∙ split-joined line_end l (gather closed ls) h.0
    ∙ ap (piece l) (lines_cut ls h.1)

module _
    (rooms : Rooms)
    (v n : ℕ)
    (t : List ℕ)
    (table : List ℤ)
    (sound : Sound v n t table)
    (vertex_room : vertex_width * v ≤ rooms.vertices)
    (element_room : element_width * n ≤ rooms.elements)
  where
    lines : LinesRead rooms start (file_lines table t v n) (take (vertex_width * v) table) (take (element_width * n) t) (ended v n)
    lines = all_lines rooms v n t table sound vertex_room element_room

    file-cut : lines_of (written_file table t v n) ≡ before (file_lines table t v n) (rest [])
    unfolding written_file
    file-cut = lines_cut (file_lines table t v n) lines.unbroken

    module _ (short : length (written_file table t v n) ≤ file_limit) where
      -- accepted with the counts that it was written with
      file-accepted : file_verdict rooms (written_file table t v n) ≡ accepted (v ∷ n ∷ [])
      unfolding file_verdict file_from at_end
      file-accepted =
          rw (le-ltb file_limit (length (written_file table t v n)) short)
          (ap (file_from rooms start 1) file-cut ∙ lines.verdict 1 (rest []))

      file-vertices : stored_vertices rooms (written_file table t v n) ≡ take (vertex_width * v) table
      unfolding stored_vertices records_from
      file-vertices = rw file-accepted (ap (records_from vertex_records start) file-cut ∙ lines.vertices (rest []) ∙ append-nil _)

      file-elements : stored_elements rooms (written_file table t v n) ≡ take (element_width * n) t
      unfolding stored_elements records_from
      file-elements = rw file-accepted (ap (records_from element_records start) file-cut ∙ lines.elements (rest []) ∙ append-nil _)

      pub file-back : FileBack rooms v n t table
      file-back = record { verdict = file-accepted; vertices = file-vertices; elements = file-elements }
