-- The calls that write a file: each is done, what they wrote put together is the written file, and reading it gives the tables again.
-- Assumes nothing.
use Prim.Native.Nat.{ℕ, zero, suc, ◌+◌, ◌-◌, ◌*◌, ◌≤◌, ◌<◌}
use native.Mathlib.Nat.{le_trans, mul-suc, mul-zero, add_comm}
use native.Mathlib.Omega.{arith}
use mathlib.Core.Path.{◌≡◌, refl, sym, ap, ap₂, ◌∙◌}
use mathlib.Core.Bool.{true}
use mathlib.Core.List.{List, [], ◌∷◌, ◌++◌, append-nil}
use lib.IntN.{ℤ, pos}
use lib.ListN.{length, get_or, take, drop}
use lib.Dec.{ltb, leb, leb→le, le→leb}
use lib.Seq.{drop-drop, get_or-drop, get_or-take, take-append_seam}
use Rattle.faults.specs.declared.Refusal.{Refusal}
use Rattle.text.specs.declared.ReadCounts.{ReadCounts}
use Rattle.limits.specs.Limits.{file_limit, vertex_limit, vertex_width, element_width}
use Rattle.laws.specs.Words.{gather}
use Rattle.laws.specs.Lent.{laid}
use Rattle.laws.proofs.ListLaws.{gather_append}
use Rattle.laws.proofs.EveryLaws.{every_implies}
use Rattle.laws.proofs.TestLaws.{and_left, and_right, and_both}
use Rattle.std.specs.Prelude.{Ok, Result}
use Rattle.volume.specs.Volume.{point_at, point_in_range}
use Rattle.volume.specs.declared.Point.{Point}
use Rattle.volume.proofs.RangeLaws.{coordinates}
use Rattle.records.specs.Record.{used_of, record_finding, record_at}
use Rattle.records.specs.WholeRecords.{is_number}
use Rattle.records.proofs.RecordLaws.{clean_faultless, faultless_clean}
use Rattle.signs.specs.Signs.{accepted_tables}
use Rattle.signs.proofs.SignedLaws.{sign_accepted}
use Rattle.faults.specs.declared.Refusal.{Refusal}
use Rattle.format.specs.File.{start}
use Rattle.format.specs.declared.ReaderState.{ReaderState}
use Rattle.text.specs.declared.ReadCounts.{ReadCounts}
use Rattle.text.specs.Reading.{rooms_of, verdict_of, ReadDone}
use Rattle.text.proofs.Theorems.{read_unique}
use Rattle.writing.specs.Written.{closed, vertex_line, element_line, end_line, vertex_lines, element_lines, after_lines, lines_from, file_lines, written_file}
use Rattle.writing.proofs.Theorems as W
use Rattle.promises.specs.ReadBack.{Call, Calls, vertex_text, element_text, end_text, Called, bytes_of, wrote, joined, together, CallDone, SameTables, ReadsBack}
use Rattle.promises.proofs.ReadBackFile.{Ranged, vertex_at, Sound, file-back}

-- ---- texts put together

joined_same : (n : ℕ) (f g : ℕ → List ℕ) → ((k : ℕ) → k < n → f k ≡ g k) → joined n f ≡ joined n g
unfolding joined
joined_same zero f g h = refl
joined_same (suc n) f g h =
    ap₂ {C = List ℕ} (λ x y. x ++ y) (h 0 (omega arith)) (joined_same n (λ k. f (suc k)) (λ k. g (suc k)) (λ k l. h (suc k) (omega arith)))

-- the lines of a table, one for each record, put together record by record
module _
    {A : Type 0}
    (lines : ReaderState → List A → List (List ℕ))
    (w : ℕ)
    (line : List A → List ℕ)
    (one : (s : ReaderState) (r : List A) → lines s r ≡ line r ∷ [])
  where
    table-joined : (n : ℕ) (s : ReaderState) (t : List A)
        → gather closed (lines_from lines w s n t) ≡ joined n (λ k. closed (line (take w (drop (w * k) t))))
    unfolding lines_from joined
    table-joined zero s t = refl
    table-joined (suc n) s t =
        rw (one s (take w t), mul-zero w)
        (ap (λ (l : List ℕ). closed (line (take w t)) ++ l)
        (table-joined n _ (drop w t)
        ∙ joined_same n _ _
        (λ k h. ap (λ (l : List A). closed (line (take w l))) (drop-drop (w * k) w t ∙ ap (λ (m : ℕ). drop m t) (add_comm w (w * k) ∙ sym (mul-suc w k))))))

-- ---- a vertex of a table, by its record and by its number

pub vertex-point : (table : List ℤ) (k : ℕ)
    → point_at table (k + 1) ≡ record { x = get_or (vertex_at table k) 0 (pos 0); y = get_or (vertex_at table k) 1 (pos 0); z = get_or (vertex_at table k) 2 (pos 0) }
unfolding point_at
vertex-point table k =
    λ i. record {
      x = part (3 * (k + 1 - 1)) 0 (omega arith) (omega arith) i;
      y = part (3 * (k + 1 - 1) + 1) 1 (omega arith) (omega arith) i;
      z = part (3 * (k + 1 - 1) + 2) 2 (omega arith) (omega arith) i;
    }
  where
    part : (m j : ℕ) → m ≡ vertex_width * k + j → j < vertex_width → get_or table m (pos 0) ≡ get_or (vertex_at table k) j (pos 0)
    part m j e h =
        ap (λ (m : ℕ). get_or table m (pos 0)) e
        ∙ sym (get_or-take vertex_width (drop (vertex_width * k) table) j (pos 0) h ∙ get_or-drop (vertex_width * k) table j (pos 0))

-- a point within the limits is a record within the limits, and the other way round
pub point-ranged : (table : List ℤ) (k : ℕ) → point_in_range (point_at table (k + 1)) ≡ true → Ranged (vertex_at table k)
point-ranged table k h =
    let c = coordinates _ (rw (vertex-point table k) at h) in
    record { x = c.on_x; y = c.on_y; z = c.on_z }

ranged-point : (table : List ℤ) (k : ℕ) → Ranged (vertex_at table k) → point_in_range (point_at table (k + 1)) ≡ true
unfolding point_in_range
ranged-point table k h = rw (vertex-point table k, h.x, h.y, h.z)

-- tables that the sign report accepts can be written and read
pub accepted-sound : (v n : ℕ) (t : List ℕ) (table : List ℤ) → accepted_tables v n t table ≡ true → Sound v n t table
accepted-sound v n t table h =
    let a = sign_accepted v n t table h in
    record {
      vertices = a.vertices;
      elements = a.elements;
      vertex_room = a.vertex_room;
      element_room = a.element_room;
      ranged = λ k l. point-ranged table k (a.ranged k l);
      clean = a.clean;
    }

-- ---- what a call wrote

done-wrote : (text : List ℕ) (c : Call) → CallDone text c → wrote c ≡ text
unfolding wrote bytes_of laid
done-wrote text c d = rw (d.answer, d.buffer) (take-append_seam text (drop (length text) c.old))

-- a record without a fault for v vertices has none for as many as there may be
clean_more : (v : ℕ) (r : List ℕ) → v ≤ vertex_limit → record_finding v r ≡ Ok tt → record_finding vertex_limit r ≡ Ok tt
clean_more v r h e =
    let f = clean_faultless v r e in
    faultless_clean vertex_limit r
    (record {
      wide = f.wide;
      kind = f.kind;
      inside =
          every_implies (is_number v) (is_number vertex_limit)
          (λ k b.
          and_both (ltb 0 k) (leb k vertex_limit) (and_left (ltb 0 k) (leb k v) b)
          (le→leb k vertex_limit (le_trans (leb→le k v (and_right (ltb 0 k) (leb k v) b)) h)))
          (used_of r) f.inside;
      unused = f.unused;
      apart = f.apart;
    })

module _ (v n : ℕ) (t : List ℕ) (table : List ℤ) (sound : Sound v n t table) (calls : Calls) (called : Called v n t table calls) where
  vertex-done : (k : ℕ) → k < v → CallDone (vertex_text table k) (calls.vertex k)
  unfolding vertex_text point_in_range
  vertex-done k h =
      let c = calls.vertex k in
      let p = point_at table (k + 1) in
      let w =
      W.vertex-written c.answer c.old c.new p.x p.y p.z (ranged-point table k (sound.ranged k h))
      (called.vertices k h) (called.vertex_room k h)
      in
      record { answer = w.answer; buffer = w.buffer }

  element-done : (k : ℕ) → k < n → CallDone (element_text t k) (calls.element k)
  unfolding element_text
  element-done k h =
      let c = calls.element k in
      let w =
      W.element-written c.answer c.old c.new (record_at t k) (clean_more v (record_at t k) sound.vertices (sound.clean k h))
      (called.elements k h) (called.element_room k h)
      in
      record { answer = w.answer; buffer = w.buffer }

  end-done : CallDone (end_text v n) calls.end
  unfolding end_text
  end-done =
      let c = calls.end in
      let w =
      W.end-written c.answer c.old c.new v n sound.vertices (omega (arith, sound.elements)) called.end called.end_room
      in
      record { answer = w.answer; buffer = w.buffer }

  -- what they wrote put together is the file
  vertices-joined : joined v (λ k. wrote (calls.vertex k)) ≡ gather closed (lines_from vertex_lines vertex_width start v table)
  unfolding vertex_text vertex_lines
  vertices-joined =
      joined_same v (λ k. wrote (calls.vertex k)) _
      (λ k h.
      done-wrote (vertex_text table k) (calls.vertex k) (vertex-done k h)
      ∙ ap (λ (p : Point). closed (vertex_line p.x p.y p.z)) (vertex-point table k))
      ∙ sym
      (table-joined vertex_lines vertex_width (λ r. vertex_line (get_or r 0 (pos 0)) (get_or r 1 (pos 0)) (get_or r 2 (pos 0))) (λ s r. refl) v start table)

  elements-joined : (state : ReaderState) → joined n (λ k. wrote (calls.element k)) ≡ gather closed (lines_from element_lines element_width state n t)
  unfolding element_text element_lines record_at
  elements-joined state =
      joined_same n (λ k. wrote (calls.element k)) _ (λ k h. done-wrote (element_text t k) (calls.element k) (element-done k h))
      ∙ sym (table-joined element_lines element_width element_line (λ s r. refl) n state t)

  file-together : together v n calls ≡ written_file table t v n
  unfolding together written_file file_lines end_text
  file-together =
      let vs = lines_from vertex_lines vertex_width start v table in
      let es = lines_from element_lines element_width (after_lines start vs) n t in
      ap₂ {C = List ℕ} (λ x y. x ++ y) vertices-joined
      (ap₂ {C = List ℕ} (λ x y. x ++ y) (elements-joined (after_lines start vs))
      (done-wrote (end_text v n) calls.end end-done ∙ sym (append-nil (closed (end_line v n))))
      ∙ sym (gather_append closed es (end_line v n ∷ [])))
      ∙ sym (gather_append closed vs (es ++ (end_line v n ∷ [])))

  -- reading it gives the same tables
  module _
      (vertices : List ℤ)
      (elements : List ℕ)
      (vertex_room : vertex_width * v ≤ length vertices)
      (element_room : element_width * n ≤ length elements)
      (short : length (written_file table t v n) ≤ file_limit)
    where
      expected : ReadDone (written_file table t v n) vertices elements (Ok (record { vertices = v; elements = n })) (laid (take (vertex_width * v) table) vertices) (laid (take (element_width * n) t) elements)
      unfolding verdict_of
      expected =
          let b = file-back (rooms_of vertices elements) v n t table sound vertex_room element_room short in
          record { answer = rw b.verdict; vertex_table = rw b.vertices; element_table = rw b.elements }

      same_tables : (r : Result ReadCounts Refusal) (vertices' : List ℤ) (elements' : List ℕ) → ReadDone (written_file table t v n) vertices elements r vertices' elements'
          → SameTables v n t table vertices elements r vertices' elements'
      same_tables r vertices' elements' d =
          let u = read_unique (written_file table t v n) vertices elements r _ vertices' _ elements' _ d expected in
          record { answer = u.0; vertex_table = u.1; element_table = u.2 }

  pub reads_back : ReadsBack v n t table calls
  reads_back = record {
    vertices = vertex-done;
    elements = element-done;
    end = end-done;
    file = file-together;
    back = λ short vertices elements r vertices' elements' vertex_room element_room d.
        same_tables vertices elements vertex_room element_room (rw file-together at short) r vertices' elements' (rw file-together at d);
  }
