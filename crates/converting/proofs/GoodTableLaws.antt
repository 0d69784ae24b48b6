-- Laws of the two tables that are written: the line that a writer gives for one record of them.
-- Assumes nothing.
use mathlib.Core.Path.{◌≡◌}
use mathlib.Core.Bool.{true, ◌&&◌}
use mathlib.Core.List.{List}
use Prim.Native.Nat.{ℕ, ◌+◌, ◌*◌, ◌≤◌, ◌<◌}
use native.Mathlib.Omega.{arith}
use lib.IntN.{ℤ, pos}
use lib.ListN.{length, get_or}
use Rattle.limits.specs.Limits.{vertex_limit, vertex_width}
use Rattle.laws.proofs.TestLaws.{T_true}
use Rattle.laws.proofs.EveryLaws.{every_index}
use Rattle.volume.specs.Volume.{in_range}
use Rattle.records.specs.Record.{kind_of, record_finding}
use Rattle.writing.specs.Written.{write_vertex_verdict, write_element_verdict}
use Rattle.writing.specs.Writing.{WriteDone}
use Rattle.std.specs.Prelude.{Result, Ok}
use Rattle.faults.specs.declared.Refusal.{Refusal}
use Rattle.writing.proofs.Theorems.{Written, vertex-written, vertex_line_short, element-written, element_line_by_kind}
use Rattle.converting.specs.Converting.{longest_vertex, longest_tetrahedron}
use Rattle.converting.specs.ConversionLoops.{vertex_text, tetrahedron_record, tetrahedron_text, GoodVertices, GoodTetrahedra}

module _ (t : List ℤ) {n : ℕ} (k : ℕ) (g : GoodVertices t n) (below : k < n) where
  coordinate : (i : ℕ) → i < length t → in_range (get_or t i (pos 0)) ≡ true
  coordinate i h = T_true (in_range (get_or t i (pos 0))) (every_index in_range t (pos 0) i g.ranged h)

  -- the coordinates of a vertex of the table are within the limits
  vertex-ranged :
      (in_range (get_or t (vertex_width * k) (pos 0)) && (in_range (get_or t (vertex_width * k + 1) (pos 0)) && in_range (get_or t (vertex_width * k + 2) (pos 0)))) ≡ true
  vertex-ranged =
      rw
      (coordinate (vertex_width * k) (omega (arith, g.long)), coordinate (vertex_width * k + 1) (omega (arith, g.long)), coordinate (vertex_width * k + 2) (omega (arith, g.long)))

  -- `VX` with three coordinates within the limits
  pub vertex-short : length (vertex_text t k) ≤ longest_vertex
  unfolding vertex_text
  vertex-short = vertex_line_short _ _ _ vertex-ranged

  -- what is written of a vertex
  pub vertex_wrote : {x y z : ℤ} {answer : Result ℕ Refusal} (old : List ℕ) {new : List ℕ}
      → x ≡ get_or t (vertex_width * k) (pos 0) → y ≡ get_or t (vertex_width * k + 1) (pos 0) → z ≡ get_or t (vertex_width * k + 2) (pos 0)
      → longest_vertex ≤ length old → WriteDone (write_vertex_verdict x y z (length old)) old answer new → Written answer old new (vertex_text t k)
  unfolding vertex_text
  vertex_wrote {answer = answer} old {new} p q u room w =
      let short = vertex-short in
      vertex-written answer old new _ _ _ vertex-ranged (rw (p, q, u) at w) (omega arith)

module _ (t : List ℕ) {n : ℕ} (k : ℕ) (g : GoodTetrahedra t n) (below : k < n) where
  clean : record_finding vertex_limit (tetrahedron_record t k) ≡ Ok tt
  clean = g.clean k below

  -- `TE` with four numbers of four digits
  pub tetrahedron-short : length (tetrahedron_text t k) ≤ longest_tetrahedron
  unfolding tetrahedron_text tetrahedron_record kind_of
  tetrahedron-short = element_line_by_kind (tetrahedron_record t k) clean

  -- what is written of a tetrahedron
  pub tetrahedron_wrote : {element : List ℕ} {answer : Result ℕ Refusal} (old : List ℕ) {new : List ℕ} → element ≡ tetrahedron_record t k
      → longest_tetrahedron ≤ length old → WriteDone (write_element_verdict element (length old)) old answer new → Written answer old new (tetrahedron_text t k)
  unfolding tetrahedron_text
  tetrahedron_wrote {answer = answer} old {new} p room w =
      let short = tetrahedron-short in
      element-written answer old new (tetrahedron_record t k) clean (rw p at w) (omega arith)
