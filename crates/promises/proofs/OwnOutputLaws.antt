-- A cut mesh as text, given as an input, is read back to the same vertices and its tetrahedra as TE records, which are cut to themselves: so it is
-- converted to itself. Assumes nothing.
use mathlib.Core.Path.{◌≡◌, sym, ◌∙◌, subst}
use mathlib.Core.Bool.{true}
use mathlib.Core.List.{List, map}
use Prim.Native.Nat.{ℕ, ◌+◌, ◌*◌, ◌-◌, ◌≤◌, ◌<◌}
use native.Mathlib.Omega.{arith}
use lib.IntN.{ℤ, pos}
use lib.ListN.{length, get_or, take}
use lib.Seq.{take_all}
use Rattle.limits.specs.Limits.{file_limit, vertex_width, element_width, element_limit}
use Rattle.laws.proofs.TestLaws.{T_true}
use Rattle.laws.proofs.EveryLaws.{every_index}
use Rattle.faults.specs.Refusals.{accepted}
use Rattle.volume.specs.Volume.{in_range, point_in_range, point_at}
use Rattle.solids.specs.Solids.{Vertex, Tet}
use Rattle.solids.specs.Cut.{cut_mesh}
use Rattle.solids.specs.Listings.{as_element}
use Rattle.judging.specs.Judge.{judged}
use Rattle.mesh.specs.Cutting.{cut_of}
use Rattle.judging.proofs.AcceptedTableLaws.{accepted-clean, accepted-vertices}
use Rattle.format.specs.File.{file_verdict}
use Rattle.format.specs.Records.{stored_vertices, stored_elements}
use Rattle.converting.specs.Conversion.{rooms, cut_room, cut_text, conversion}
use Rattle.converting.proofs.CutLaws.{FromTable, cut_of_table}
use Rattle.converting.proofs.ReadingLaws.{file-long, file_good}
use Rattle.promises.specs.Tables.{as_table}
use Rattle.promises.specs.ReadBack.{FileBack}
use Rattle.promises.proofs.CutOfCutTables.{table_alone, table-long, again-accepted, again_alike}
use Rattle.promises.proofs.ReadBackFile.{Sound, file-back}
use Rattle.promises.proofs.ReadBackCalls.{point-ranged}

module _
    (input cs : List ℕ)
    (ts : List (Tet Vertex))
    (read : file_verdict rooms input ≡ accepted cs)
    (cut : cut_of (get_or cs 0 0) (get_or cs 1 0) (stored_elements rooms input) cut_room ≡ accepted ts)
  where
    abbrev v : ℕ
    v = get_or cs 0 0

    abbrev n : ℕ
    n = get_or cs 1 0

    abbrev t : List ℕ
    t = stored_elements rooms input

    abbrev table : List ℤ
    table = stored_vertices rooms input

    from : FromTable v n t ts
    from = cut_of_table v n t cut_room ts cut

    -- each vertex of the file is within the limits
    inside : (k m : ℕ) → k < v → m < vertex_width → in_range (get_or table (3 * (k + 1 - 1) + m) (pos 0)) ≡ true
    inside k m h l =
        T_true (in_range (get_or table (3 * (k + 1 - 1) + m) (pos 0)))
        (every_index in_range table (pos 0) (3 * (k + 1 - 1) + m) (file_good input cs read).ranged (omega (arith, file-long input cs read)))

    point-inside : (k : ℕ) → k < v → point_in_range (point_at table (k + 1)) ≡ true
    unfolding point_in_range point_at
    point-inside k h =
        let x : in_range (get_or table (3 * (k + 1 - 1)) (pos 0)) ≡ true = subst (λ (m : ℕ). in_range (get_or table m (pos 0)) ≡ true) (omega arith) (inside k 0 h (omega arith)) in
        rw (x, inside k 1 h (omega arith), inside k 2 h (omega arith))

    module _ (few : length ts ≤ element_limit) where
      few-cut : length (cut_mesh from.elements) ≤ element_limit
      few-cut = subst (λ (us : List (Tet Vertex)). length us ≤ element_limit) from.same few

      -- the tetrahedra as TE records are accepted, and are cut to themselves
      again : judged v (length ts) (as_table ts) ≡ accepted (map as_element ts)
      again =
          subst (λ (us : List (Tet Vertex)). judged v (length us) (as_table us) ≡ accepted (map as_element us)) (sym from.same)
          (again-accepted v n t from.elements from.sound few-cut (as_table (cut_mesh from.elements)) (table_alone (cut_mesh from.elements)))

      recut : cut_of v (length ts) (as_table ts) cut_room ≡ accepted ts
      recut =
          subst (λ (us : List (Tet Vertex)). cut_of v (length us) (as_table us) cut_room ≡ cut_of v n t cut_room) (sym from.same)
          (again_alike v n t from.elements from.sound few-cut (as_table (cut_mesh from.elements)) (table_alone (cut_mesh from.elements)) cut_room)
          ∙ cut

      sound : Sound v (length ts) (as_table ts) table
      sound = record {
        vertices = accepted-vertices v (length ts) (as_table ts) (map as_element ts) again;
        elements = few;
        vertex_room = (file_good input cs read).long;
        element_room = (table_alone ts).long;
        ranged = λ k h. point-ranged table k (point-inside k h);
        clean = accepted-clean v (length ts) (as_table ts) (map as_element ts) again;
      }

      module _ (short : length (cut_text table v ts) ≤ file_limit) where
        back : FileBack rooms v (length ts) (as_table ts) table
        unfolding cut_text as_table
        back =
            file-back rooms v (length ts) (as_table ts) table sound (omega (arith, (file_good input cs read).few)) (omega (arith, few)) short

        same-vertices : take (vertex_width * v) table ≡ table
        same-vertices = take_all (vertex_width * v) table (omega (arith, file-long input cs read))

        same-elements : take (element_width * length ts) (as_table ts) ≡ as_table ts
        same-elements = take_all (element_width * length ts) (as_table ts) (omega (arith, table-long ts))

        -- the text is converted to itself
        pub converted_again : conversion (cut_text table v ts) ≡ accepted (cut_text table v ts)
        unfolding conversion cut_text as_table
        converted_again =
            rw (back.verdict, back.elements ∙ same-elements, back.vertices ∙ same-vertices) (rw recut)
