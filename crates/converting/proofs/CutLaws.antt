-- What an accepted cut is: at most 6,144 tetrahedra of four different vertices between 1 and 4,096, each a record without a fault; and what a
-- cut leaves in a table with room for every cut.
-- Assumes nothing.
use mathlib.Core.Path.{◌≡◌, refl, sym}
use mathlib.Core.Bool.{Bool, true, false, ◌&&◌}
use mathlib.Core.List.{List, [], ◌∷◌}
use Prim.Native.Nat.{ℕ, ◌*◌, ◌≤◌, ◌<◌}
use native.Mathlib.Omega.{arith}
use lib.Dec.{T, ltb, leb, leb→le, le→leb}
use lib.ListN.{length, get_or, take, replicate, length-replicate}
use Rattle.limits.specs.Limits.{vertex_limit, tetrahedron_limit, tetrahedron_width}
use Rattle.laws.specs.Words.{gather, every, among, distinct}
use Rattle.laws.specs.Lent.{laid}
use Rattle.laws.proofs.TestLaws.{and_left, and_right, and_both}
use Rattle.laws.proofs.EveryLaws.{every_implies, every_both, every_index, every_append, among-every}
use Rattle.faults.specs.declared.Fault.TheVariants.{Room}
use Rattle.std.specs.Prelude.{Ok, Err}
use Rattle.faults.specs.declared.Refusal.{Refusal}
use Rattle.faults.specs.Refusals.{Verdict, accepted, refused, refuse, refuse_if, and_then}
use Rattle.faults.proofs.Theorems.{answer_tells_verdict}
use Rattle.solids.specs.Solids.{Vertex, Tet, of_tet, Element, corners_of}
use Rattle.solids.specs.Cut.{cut, cut_mesh}
use Rattle.solids.specs.Fit.{proper}
use Rattle.solids.proofs.Theorems.{plain}
use Rattle.records.specs.Record.{as_record, used_of, element_of, record_finding, record_at, element_at, first_elements}
use Rattle.records.specs.WholeRecords.{is_number}
use Rattle.records.proofs.Theorems.{faultless_clean, first_all}
use Rattle.mesh.specs.declared.CutCounts.{CutCounts}
use Rattle.judging.specs.Judge.{judged}
use Rattle.mesh.specs.Cutting.{flat, cut_of, cut_verdict, CutDone}
use Rattle.tables.proofs.CleanRecordLaws.{records_inside}
use Rattle.judging.proofs.AcceptedTableLaws.{no_bad_record}
use Rattle.mesh.proofs.StoreLaws.{length-flat}
use Rattle.judging.proofs.Theorems.{accepted-elements, accepted-proper, accepted_tetrahedra}
use Rattle.records.proofs.TetrahedronRecord.{is_good, record_faultless}
use Rattle.converting.specs.Conversion.{cut_room}
use Rattle.converting.specs.ConversionLoops.{GoodTetrahedra}
use Rattle.converting.proofs.PutTextLaws.{take-laid}
use Rattle.converting.proofs.MeshTextLaws.{no_tet, tetrahedron_record_lem}

-- ---- a tetrahedron

good_clean : (t : Tet Vertex) → T (is_good vertex_limit t) → record_finding vertex_limit (as_record t) ≡ Ok tt
good_clean t h = faultless_clean vertex_limit (as_record t) (record_faultless vertex_limit t h)

-- ---- the cut of an element, and of a mesh

module _ (v limit : ℕ) (below : v ≤ limit) where
  wider : (x : ℕ) → T (is_number v x) → T (is_number limit x)
  wider x h =
      let up = leb→le x v (and_right (ltb 0 x) (leb x v) h) in
      and_both (ltb 0 x) (leb x limit) (and_left (ltb 0 x) (leb x v) h) (le→leb x limit (omega arith))

  -- a proper element whose corners are between 1 and v
  abbrev is_inside : Element → Bool
  is_inside e = proper e && every (is_number v) (corners_of e)

  element_good : (e : Element) → T (is_inside e) → T (every (is_good limit) (cut e))
  element_good e h =
      let p = plain e (and_left (proper e) (every (is_number v) (corners_of e)) h) in
      let inside = and_right (proper e) (every (is_number v) (corners_of e)) h in
      every_both (λ t. every (λ x. among x (corners_of e)) (of_tet t)) (λ t. distinct (of_tet t)) (is_good limit)
      (λ t own apart.
      and_both (every (is_number limit) (of_tet t)) (distinct (of_tet t))
      (every_implies (λ x. among x (corners_of e)) (is_number limit) (λ x m. wider x (among-every (is_number v) (corners_of e) inside x m)) (of_tet t) own)
      apart)
      (cut e) p.own p.different

  mesh_good : (es : List Element) → T (every is_inside es) → T (every (is_good limit) (gather cut es))
  mesh_good [] h = tt
  mesh_good (e ∷ es) h =
      every_append (is_good limit) (cut e) (gather cut es) (element_good e (and_left (is_inside e) (every is_inside es) h)) (mesh_good es (and_right (is_inside e) (every is_inside es) h))

  first-inside : (t : List ℕ) (n : ℕ) → ((k : ℕ) → k < n → T (every (is_number v) (used_of (record_at t k))))
      → T (every (λ e. every (is_number v) (corners_of e)) (first_elements t n))
  unfolding element_at element_of
  first-inside t n h = first_all t (λ e. every (is_number v) (corners_of e)) n h

-- ---- an accepted cut

-- an accepted cut is the cut of an accepted table
pub record FromTable (v n : ℕ) (t : List ℕ) (ts : List (Tet Vertex)) : Type 0 where
  pub elements : List Element
  pub sound : judged v n t ≡ accepted elements
  pub same : ts ≡ cut_mesh elements

pub cut_of_table : (v n : ℕ) (t : List ℕ) (room : ℕ) (ts : List (Tet Vertex)) → cut_of v n t room ≡ accepted ts → FromTable v n t ts
unfolding cut_of
cut_of_table v n t room ts = by (judged v n t) refl
  where
    roomy : (es : List Element) → judged v n t ≡ accepted es → (b : Bool) → refuse_if b (refuse Room 0) (accepted (cut_mesh es)) ≡ accepted ts → FromTable v n t ts
    roomy es q true e = let z : ◌≡◌ {A = ℕ} 0 1 = cc in absurd (omega arith)
    roomy es q false e = let z : cut_mesh es ≡ ts = cc in record { elements = es; sound = q; same = sym z }

    by : (x : Verdict (List Element)) → judged v n t ≡ x
        → and_then x (λ es. refuse_if (ltb room (tetrahedron_width * length (cut_mesh es))) (refuse Room 0) (accepted (cut_mesh es))) ≡ accepted ts → FromTable v n t ts
    by (accepted es) q e = roomy es q (ltb room (tetrahedron_width * length (cut_mesh es))) e
    by (refused r) q e = let z : ◌≡◌ {A = ℕ} 0 1 = cc in absurd (omega arith)

module _ (v n : ℕ) (t : List ℕ) (room : ℕ) (ts : List (Tet Vertex)) (e : cut_of v n t room ≡ accepted ts) where
  pub cut-few : length ts ≤ tetrahedron_limit
  cut-few = let f = cut_of_table v n t room ts e in rw f.same (accepted_tetrahedra v n t f.elements f.sound)

  cut_good : (limit : ℕ) → v ≤ limit → T (every (is_good limit) ts)
  unfolding cut_mesh
  cut_good limit below =
      let f = cut_of_table v n t room ts e in
      let es = f.elements in
      let inside = first-inside v limit below t n (records_inside v t n (no_bad_record v n t es f.sound)) in
      rw f.same
      (mesh_good v limit below es
      (every_both proper (λ x. every (is_number v) (corners_of x)) (is_inside v limit below) (λ x p q. and_both (proper x) (every (is_number v) (corners_of x)) p q) es
      (accepted-proper v n t es f.sound) (rw (accepted-elements v n t es f.sound) inside)))

  pub cut_tetrahedra : v ≤ vertex_limit → GoodTetrahedra (flat ts) (length ts)
  cut_tetrahedra below = record {
    few = cut-few;
    long = rw (length-flat ts) (omega arith);
    clean = λ k h. rw (tetrahedron_record_lem ts k h) (good_clean (get_or ts k no_tet) (every_index (is_good vertex_limit) ts no_tet k (cut_good vertex_limit below) h));
  }

-- ---- what cutting leaves

-- an accepted cut: its tetrahedra stand at the front of the table
pub record Stored (v n : ℕ) (t : List ℕ) (count : ℕ) (new : List ℕ) : Type 0 where
  pub tetrahedra : List (Tet Vertex)
  pub verdict : cut_of v n t cut_room ≡ accepted tetrahedra
  pub many : count ≡ length tetrahedra
  pub numbers : take (tetrahedron_width * count) new ≡ flat tetrahedra
  pub end : tetrahedron_width * count ≡ length (take (tetrahedron_width * count) new)

-- a table with room for every cut, before anything is cut
abbrev pub table : List ℕ
table = replicate cut_room 0

room : length table ≡ cut_room
room = length-replicate {A = ℕ} cut_room 0

module _ {v n : ℕ} {t new : List ℕ} where
  pub cut_refusal : {x : Refusal} → CutDone v n t table (Err x) new → cut_of v n t cut_room ≡ refused x
  cut_refusal {x} d = by (cut_of v n t cut_room) refl
    where
      q : cut_verdict (Err x) ≡ and_then (cut_of v n t cut_room) (λ ts. accepted (length ts ∷ []))
      q = answer_tells_verdict (0 ∷ []) _ _ (rw room at d.answer)

      by : (y : Verdict (List (Tet Vertex))) → cut_of v n t cut_room ≡ y → cut_of v n t cut_room ≡ refused x
      by (accepted ts) e = let z : ◌≡◌ {A = ℕ} 0 1 = let w = rw e at q in cc in absurd (omega arith)
      by (refused y) e = let w = rw e at q in let z : x ≡ y = cc in rw z e

  pub cut_stored : {c : CutCounts} → CutDone v n t table (Ok c) new → Stored v n t c.tetrahedra new
  cut_stored {c} d = by (cut_of v n t cut_room) refl
    where
      q : cut_verdict (Ok c) ≡ and_then (cut_of v n t cut_room) (λ ts. accepted (length ts ∷ []))
      q = answer_tells_verdict (0 ∷ []) _ _ (rw room at d.answer)

      by : (y : Verdict (List (Tet Vertex))) → cut_of v n t cut_room ≡ y → Stored v n t c.tetrahedra new
      by (accepted ts) e =
          let w = rw e at q in
          let z : c.tetrahedra ≡ length ts = cc in
          let o : new ≡ laid (flat ts) table = rw (room, e) at d.output in
          let k : tetrahedron_width * c.tetrahedra ≡ length (flat ts) = rw z (sym (length-flat ts)) in
          let f : take (tetrahedron_width * c.tetrahedra) new ≡ flat ts = rw (k, o) (take-laid (flat ts) table) in
          record { tetrahedra = ts; verdict = e; many = z; numbers = f; end = rw f k }
      by (refused y) e = let z : ◌≡◌ {A = ℕ} 0 1 = let w = rw e at q in cc in absurd (omega arith)
