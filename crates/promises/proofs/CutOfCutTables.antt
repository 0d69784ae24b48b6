-- The cut of a cut, for tables: the tetrahedra of an accepted table, given as TE records, are accepted and cut to themselves.
-- Assumes nothing.
use mathlib.Core.Path.{◌≡◌, sym, ap, subst, ◌∙◌}
use mathlib.Core.Bool.{Bool}
use mathlib.Core.List.{List, [], ◌∷◌, ◌++◌, map, append-nil}
use Prim.Native.Nat.{ℕ, ◌*◌, ◌≤◌, ◌<◌}
use native.Mathlib.Omega.{arith}
use lib.Dec.{T, eqb}
use lib.ListN.{length, get_or, length-append, length-map, get_or-map}
use Rattle.limits.specs.Limits.{element_limit, tetrahedron_width, element_width}
use Rattle.laws.specs.Words.{every, among, distinct, gather}
use Rattle.laws.specs.Lent.{laid}
use Rattle.laws.proofs.TestLaws.{and_left, and_right, and_both}
use Rattle.laws.proofs.EveryLaws.{every_index, every_indexed, every_both, every_implies, every_append, among-every}
use Rattle.std.specs.Prelude.{Ok}
use Rattle.faults.specs.Refusals.{accepted}
use Rattle.solids.specs.Solids.{Vertex, Tet, tet, Element, of_tet, corners_of}
use Rattle.solids.specs.Cut.{cut, cut_mesh}
use Rattle.solids.specs.Fit.{proper, fitting}
use Rattle.solids.specs.Listings.{as_element}
use Rattle.solids.proofs.Theorems.{plain, again-fitting, again_cut}
use Rattle.records.specs.Record.{as_record, element_of, record_finding, record_at, element_at, first_elements}
use Rattle.records.specs.WholeRecords.{is_number}
use Rattle.records.proofs.Theorems.{clean_faultless, faultless_clean, first_are, first_all, gathered_length, gathered_at}
use Rattle.judging.specs.Judge.{judged}
use Rattle.judging.specs.Acceptance.{Acceptable}
use Rattle.mesh.specs.Cutting.{flat, cut_of}
use Rattle.judging.proofs.Theorems.{accepted-elements, accepted-proper, accepted-fitting, accepted_acceptable, acceptable_accepted}
use Rattle.promises.specs.Tables.{as_table, BeginsWith, tetrahedra_in}
use Rattle.records.proofs.TetrahedronRecord.{record_wide, record_element, is_good, record_faultless}
use Rattle.promises.proofs.AnswerLaws.{accepted-first, DoneCut, done_tetrahedra}

-- ---- tetrahedra as a table

module _ (ts : List (Tet Vertex)) where
  abbrev d : Tet Vertex
  d = tet 0 0 0 0

  all_wide : T (every (λ u. eqb (length (as_record u)) element_width) ts)
  all_wide = every_indexed (λ u. eqb (length (as_record u)) element_width) d ts (λ k h. record_wide (get_or ts k d))

  pub table-long : length (as_table ts) ≡ element_width * length ts
  unfolding as_table
  table-long = gathered_length as_record ts all_wide

  -- the table of tetrahedra begins with them, whatever stands behind it
  pub table_begins : (rest : List ℕ) → BeginsWith ts (as_table ts ++ rest)
  unfolding as_table
  table_begins rest = record {
    long = let l = gathered_length as_record ts all_wide in simp length-append (omega arith);
    each = λ k h. gathered_at as_record d ts rest k all_wide h;
  }

  pub table_alone : BeginsWith ts (as_table ts)
  table_alone = subst (BeginsWith ts) (append-nil (as_table ts)) (table_begins [])

  module _ (t : List ℕ) (w : BeginsWith ts t) where
    table-elements : first_elements t (length ts) ≡ map as_element ts
    unfolding element_at
    table-elements =
        first_are t (length ts) (as_element d) (map as_element ts) (length-map ts as_element)
        (λ k h. ap element_of (w.each k h) ∙ record_element (get_or ts k d) ∙ sym (get_or-map as_element ts k d))

    table-clean : (limit : ℕ) → T (every (is_good limit) ts) → (k : ℕ) → k < length ts → record_finding limit (record_at t k) ≡ Ok tt
    table-clean limit g k h =
        ap (record_finding limit) (w.each k h)
        ∙ faultless_clean limit (as_record (get_or ts k d)) (record_faultless limit (get_or ts k d) (every_index (is_good limit) ts d k g h))

-- ---- the tetrahedra of a cut are such

-- vertex numbers up to a limit at an element's corners
abbrev in_limit : ℕ → Element → Bool
in_limit limit e = every (is_number limit) (corners_of e)

element_good : (limit : ℕ) (e : Element) → T (proper e) → T (in_limit limit e) → T (every (is_good limit) (cut e))
element_good limit e p h =
    every_both (λ u. every (λ v. among v (corners_of e)) (of_tet u)) (λ u. distinct (of_tet u)) (is_good limit)
    (λ u own apart.
    and_both (every (is_number limit) (of_tet u)) (distinct (of_tet u))
    (every_implies (λ v. among v (corners_of e)) (is_number limit) (λ v m. among-every (is_number limit) (corners_of e) h v m) (of_tet u) own) apart) (cut e)
    (plain e p).own (plain e p).different

pub mesh_good : (limit : ℕ) (es : List Element) → T (every proper es) → T (every (in_limit limit) es) → T (every (is_good limit) (cut_mesh es))
unfolding cut_mesh
mesh_good limit [] p h = tt
mesh_good limit (e ∷ es) p h =
    every_append (is_good limit) (cut e) (gather cut es)
    (element_good limit e (and_left (proper e) (every proper es) p) (and_left (in_limit limit e) (every (in_limit limit) es) h))
    (mesh_good limit es (and_right (proper e) (every proper es) p) (and_right (in_limit limit e) (every (in_limit limit) es) h))

acceptable_inside : (v n : ℕ) (t : List ℕ) → Acceptable v n t → T (every (in_limit v) (first_elements t n))
unfolding element_at element_of
acceptable_inside v n t a = first_all t (in_limit v) n (λ k h. (clean_faultless v (record_at t k) (a.clean k h)).inside)

module _ (v n : ℕ) (t : List ℕ) (es : List Element) (e : judged v n t ≡ accepted es) where
  -- vertex numbers of the cut are the mesh's, and no tetrahedron has one twice
  pub accepted_good : T (every (is_good v) (cut_mesh es))
  accepted_good =
      mesh_good v es (accepted-proper v n t es e)
      (subst (λ (l : List Element). T (every (in_limit v) l)) (sym (accepted-elements v n t es e)) (acceptable_inside v n t (accepted_acceptable v n t es e)))

  module _ (few : length (cut_mesh es) ≤ element_limit) (t' : List ℕ) (w : BeginsWith (cut_mesh es) t') where
    again_acceptable : Acceptable v (length (cut_mesh es)) t'
    again_acceptable = record {
      vertices = (accepted_acceptable v n t es e).vertices;
      elements = few;
      long = w.long;
      clean = table-clean (cut_mesh es) t' w v accepted_good;
      fit =
          subst (λ (l : List Element). T (fitting l)) (sym (table-elements (cut_mesh es) t' w))
          (again-fitting es (accepted-proper v n t es e) (accepted-fitting v n t es e));
    }

    -- accepted, with the tetrahedra for elements
    pub again-accepted : judged v (length (cut_mesh es)) t' ≡ accepted (map as_element (cut_mesh es))
    again-accepted = acceptable_accepted v (length (cut_mesh es)) t' again_acceptable ∙ ap accepted (table-elements (cut_mesh es) t' w)

    -- and cut to themselves, or refused for its room as the cut is
    pub again_alike : (room : ℕ) → cut_of v (length (cut_mesh es)) t' room ≡ cut_of v n t room
    unfolding cut_of
    again_alike room = rw (again-accepted, e, again_cut es (accepted-proper v n t es e))

-- the same of a cut that is done: the tetrahedra in its output, cut again into the same memory
module _ (v n : ℕ) (t old : List ℕ) (many : ℕ) (new : List ℕ) (d : DoneCut v n t old many new) (few : many ≤ element_limit) where
  abbrev es : List Element
  es = first_elements t n

  abbrev ts : List (Tet Vertex)
  ts = cut_mesh es

  e : judged v n t ≡ accepted es
  e = d.cuts.elements

  few_of_cut : length ts ≤ element_limit
  few_of_cut = let m = d.many in omega arith

  module _ (t' : List ℕ) where
    again-same : BeginsWith ts t' → cut_mesh (first_elements t' (length ts)) ≡ ts
    again-same w = ap cut_mesh (table-elements ts t' w) ∙ again_cut es (accepted-proper v n t es e)

    again_cuts : BeginsWith ts t' → DoneCut v (length ts) t' old (length ts) new
    again_cuts w =
        record {
          cuts = record {
            elements = accepted-first v (length ts) t' (map as_element ts) (again-accepted v n t es e few_of_cut t' w);
            fits = subst (λ (us : List (Tet Vertex)). tetrahedron_width * length us ≤ length old) (sym (again-same w)) d.cuts.fits;
          };
          many = ap length (sym (again-same w));
          output = d.output ∙ ap (λ (us : List (Tet Vertex)). laid (flat us) old) (sym (again-same w));
        }

    pub again-done : BeginsWith (tetrahedra_in many new) t' → DoneCut v many t' old many new
    again-done w =
        subst (λ (k : ℕ). DoneCut v k t' old k new) (sym d.many)
        (again_cuts (subst (λ (us : List (Tet Vertex)). BeginsWith us t') (done_tetrahedra v n t old many new d) w))
