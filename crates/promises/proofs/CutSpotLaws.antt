-- Where cutting refuses what reading accepted, the fault is of elements: neither a count, nor a lent length, nor a vertex number can be wrong.
-- Assumes nothing.
use Prim.Native.Nat.{ℕ, pred, ◌*◌, ◌≤◌, ◌<◌}
use mathlib.Core.Path.{◌≡◌, refl, ap, subst}
use mathlib.Core.Bool.{Bool, true, false, cond, not, ◌&&◌}
use mathlib.Core.List.{List}
use native.Mathlib.Omega.{arith}
use borrow.Author.Tests.{le-ltb, ltb-true, ne_eqb}
use lib.Dec.{eqb, ltb}
use lib.ListN.{length, get_or}
use Rattle.limits.specs.Limits.{element_limit, tetrahedron_width, vertex_limit, element_width}
use Rattle.laws.specs.Words as words
use Rattle.faults.specs.declared.Fault.TheVariants as fault
use Rattle.std.specs.Prelude.{Ok, Err}
use Rattle.faults.specs.declared.Refusal.{Refusal}
use Rattle.faults.specs.Refusals.{Verdict, accepted, refused, refuse, refuse_pair, refuse_if, and_then}
use Rattle.solids.specs.Solids.{Element}
use Rattle.solids.specs.Cut.{cut_mesh}
use Rattle.records.specs.Record.{used_of, spare_of, kind_of, is_kind, not_zero, record_finding, record_at, first_elements}
use Rattle.tables.specs.JudgedRecords.{fault_in, bad_record}
use Rattle.judging.specs.Judge.{bad_element, misfit, judged}
use Rattle.judging.proofs.TableVerdictLaws.{judged_by_tests}
use Rattle.judging.proofs.Theorems.{accepted_tetrahedra}
use Rattle.mesh.specs.Cutting.{cut_of}
use Rattle.format.specs.File.{start, lines_of, file_verdict}
use Rattle.format.specs.Records.{element_records, records_from, stored_elements}
use Rattle.format.proofs.AcceptedFileLaws.{file-fits}
use Rattle.converting.specs.Conversion.{rooms, cut_room, conversion}
use Rattle.faults.specs.Spots.{subject_of, table_spot, spot_of, refuser_of}
use Rattle.faults.specs.declared.Refuser.TheVariants.{Judging}
use Rattle.promises.proofs.ReadRecordLaws.{NoStray, file-sound}

-- a fault that is judging's, at an element
record OfElements (r : Refusal) : Type 0 where
  fault : refuser_of r.fault ≡ Judging
  some : 0 < r.place

abbrev AtElements : {A : Type 0} → Verdict A → Type 0
AtElements (accepted x) = Unit {0}
AtElements (refused r) = OfElements r

at_if : {A : Type 0} (b : Bool) (r : Refusal) (next : Verdict A) → (b ≡ true → OfElements r) → AtElements next → AtElements (refuse_if b r next)
at_if true r next h g = h refl
at_if false r next h g = g

at_then : {A B : Type 0} (x : Verdict A) (f : A → Verdict B) → AtElements x → ((y : A) → x ≡ accepted y → AtElements (f y)) → AtElements (and_then x f)
at_then (accepted y) f h g = g y refl
at_then (refused r) f h g = h

-- ---- cutting

-- a record without a stray vertex
finding_late : (v : ℕ) (r : List ℕ) → NoStray v r → refuser_of (fault_in (record_finding v r)) ≡ Judging
unfolding record_finding
finding_late v r h = rw h.none (go (not (eqb (length r) element_width && is_kind (kind_of r))) (words.some not_zero (spare_of r)) (not (words.distinct (used_of r))))
  where
    go : (a b c : Bool)
        → refuser_of (fault_in (cond a (Err fault.Kind) (cond b (Err fault.Spare) (cond c (Err fault.Repeat) (Ok tt))))) ≡ Judging
    go true b c = refl
    go false true c = refl
    go false false true = refl
    go false false false = refl

module _ (v n : ℕ) (t : List ℕ) (vertices : v ≤ vertex_limit) (elements : n ≤ element_limit) (long : element_width * n ≤ length t) (sound : (k : ℕ) → NoStray v (record_at t k)) where
  judged_late : AtElements (judged v n t)
  judged_late =
      rw (judged_by_tests v n t, le-ltb vertex_limit v vertices, le-ltb element_limit n elements, le-ltb (length t) (element_width * n) long)
      (at_if (ltb 0 (bad_record v t n)) (refuse (fault_in (record_finding v (record_at t (pred (bad_record v t n))))) (bad_record v t n)) _
      (λ e. record { fault = finding_late v (record_at t (pred (bad_record v t n))) (sound (pred (bad_record v t n))); some = ltb-true 0 (bad_record v t n) e })
      (at_if (ltb 0 (bad_element t n)) (refuse_pair (bad_element t n) (misfit t (pred (bad_element t n)))) (accepted (first_elements t n)) (λ e. record { fault = refl; some = ltb-true 0 (bad_element t n) e }) tt))

  cut_late : AtElements (cut_of v n t cut_room)
  unfolding cut_of
  cut_late = at_then (judged v n t) _ judged_late room
    where
      room : (es : List Element) → judged v n t ≡ accepted es
          → AtElements (refuse_if (ltb cut_room (tetrahedron_width * length (cut_mesh es))) (refuse fault.Room 0) (accepted (cut_mesh es)))
      room es e = rw (le-ltb cut_room (tetrahedron_width * length (cut_mesh es)) (omega (arith, accepted_tetrahedra v n t es e))) tt

-- ---- the conversion

conversion_late : (input counts : List ℕ) → file_verdict rooms input ≡ accepted counts → AtElements (conversion input)
unfolding conversion stored_elements
conversion_late input counts e =
    let f = file-fits rooms input counts e in
    let v : get_or counts 0 0 ≡ f.final.vertices = ap (λ (l : List ℕ). get_or l 0 0) f.counts in
    let n : get_or counts 1 0 ≡ f.final.elements = ap (λ (l : List ℕ). get_or l 1 0) f.counts in
    let t = records_from element_records start (lines_of input) in
    let few : get_or counts 0 0 ≤ vertex_limit = rw v f.kept.vertices in
    let small : get_or counts 1 0 ≤ element_limit = rw n f.kept.elements in
    let long : element_width * get_or counts 1 0 ≤ length t = rw (n, f.elements) (omega arith) in
    rw e
    (at_then (cut_of (get_or counts 0 0) (get_or counts 1 0) t cut_room) _
    (cut_late (get_or counts 0 0) (get_or counts 1 0) t few small long (file-sound rooms counts input e)) (λ ts q. tt))

-- the spot is that of tables: the element that the refusal names, or both elements of JOIN
pub cut_spot : (input counts : List ℕ) (r : Refusal) → file_verdict rooms input ≡ accepted counts → conversion input ≡ refused r
    → spot_of (refuser_of r.fault) r ≡ table_spot (subject_of r.fault) r
unfolding spot_of
cut_spot input counts r e q =
    let h : OfElements r = subst AtElements q (conversion_late input counts e) in
    rw (h.fault, ne_eqb r.place 0 (λ z. omega (arith, h.some)))
