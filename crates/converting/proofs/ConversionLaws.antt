-- The conversion in the code's two steps: a file that was read is cut and written, and a table that was cut is written.
-- Assumes nothing.
use mathlib.Core.Path.{◌≡◌, refl}
use mathlib.Core.List.{List}
use Prim.Native.Nat.{ℕ, ◌*◌, ◌/◌, ◌≤◌}
use native.Mathlib.Omega.{arith}
use lib.IntN.{ℤ}
use Rattle.std.proofs.Math.Nat.{mul-div_cancel_left}
use lib.ListN.{length, take, length-take}
use mir.Syntax.{w64}
use mir.Val.{Fits}
use Rattle.limits.specs.Limits.{vertex_limit, vertex_width, tetrahedron_width, element_width}
use Rattle.faults.specs.declared.Refusal.{Refusal}
use Rattle.faults.specs.Refusals.{Verdict, accepted, refused, and_then}
use Rattle.solids.specs.Solids.{Vertex, Tet}
use Rattle.mesh.specs.Cutting.{cut_of}
use Rattle.format.specs.File.{file_verdict}
use Rattle.format.specs.Records.{stored_vertices, stored_elements}
use Rattle.writing.specs.Written.{in_room}
use Rattle.converting.specs.Conversion.{rooms, cut_room, cut_text, conversion}
use Rattle.std.specs.Prelude.{Result, Err}
use Rattle.converting.specs.Converting.{conversion_into, Left, ConvertDone}
use Rattle.converting.specs.ConversionLoops.{mesh_text, GoodVertices, GoodTetrahedra, cut_verdict}
use Rattle.converting.proofs.MeshTextLaws.{cut_text_lem}
use Rattle.converting.proofs.ConvertLaws.{left_refused}
use Rattle.converting.proofs.CutLaws.{Stored, cut-few, cut_tetrahedra}
use Rattle.converting.proofs.ReadingLaws.{Read}

-- ---- a table that was cut

-- as much of a list as it has
part-within : {A : Type 0} {n : ℕ} (l : List A) → n ≡ length (take n l) → n ≤ length l
part-within {A} {n} l e = let h = length-take n l in omega arith

module _ {v n : ℕ} {t : List ℕ} {count : ℕ} {new : List ℕ} (s : Stored v n t count new) where
  few : length s.tetrahedra ≤ 6144
  few = cut-few v n t cut_room s.tetrahedra s.verdict

  pub cutting_fits : Fits w64 (tetrahedron_width * count)
  cutting_fits = record { fits = omega (arith, few, s.many) }

  pub cutting_room : tetrahedron_width * count ≤ length new
  cutting_room = part-within new s.end

  -- the table that is written has as many tetrahedra as were cut
  pub cutting-count : length (take (tetrahedron_width * count) new) / tetrahedron_width ≡ count
  cutting-count = rw (← s.end) (mul-div_cancel_left count (omega arith))

  pub cutting_good : v ≤ vertex_limit
      → GoodTetrahedra (take (tetrahedron_width * count) new) (length (take (tetrahedron_width * count) new) / tetrahedron_width)
  cutting_good h = rw (cutting-count, s.numbers, s.many) (cut_tetrahedra v n t cut_room s.tetrahedra s.verdict h)

module _ (vertices : List ℤ) (v : ℕ) (elements : List ℕ) (n : ℕ) (old : List ℕ) where
  pub cutting_refused : {r : Refusal} → cut_of v n elements cut_room ≡ refused r → Left (cut_verdict vertices v elements n (length old)) old (Err r) old
  unfolding cut_verdict
  cutting_refused e = left_refused old (rw e) refl

  pub cutting_written : {count : ℕ} {numbers new : List ℕ} {r : Result ℕ Refusal} (s : Stored v n elements count numbers)
      → Left (in_room (length old) (mesh_text vertices v (take (tetrahedron_width * count) numbers) (length (take (tetrahedron_width * count) numbers) / tetrahedron_width))) old r new
      → Left (cut_verdict vertices v elements n (length old)) old r new
  unfolding cut_verdict
  cutting_written s w = rw (s.verdict, cut_text_lem vertices v s.tetrahedra) (rw (cutting-count s, s.numbers, s.many) at w)

-- ---- a file that was read

-- ROOM comes last
room_last : (room : ℕ) (f : List (Tet Vertex) → List ℕ) (x : Verdict (List (Tet Vertex)))
    → and_then (and_then x (λ ts. accepted (f ts))) (in_room room) ≡ and_then x (λ ts. in_room room (f ts))
room_last room f (accepted ts) = refl
room_last room f (refused r) = refl

module _ {input : List ℕ} {v n : ℕ} {vertices : List ℤ} {elements : List ℕ} (s : Read input v n vertices elements) where
  -- the table that is cut has as many vertices as were read
  pub vertices-count : length (take (vertex_width * v) vertices) / vertex_width ≡ v
  vertices-count = rw (← s.vertex_end) (mul-div_cancel_left v (omega arith))

module _ (input old : List ℕ) where
  pub reading-refused : {r : Refusal} → file_verdict rooms input ≡ refused r → ConvertDone input old (Err r) old
  unfolding conversion_into conversion
  reading-refused e = record { left = left_refused old (rw e) refl }

  pub reading-written : {v n : ℕ} {vertices : List ℤ} {elements new : List ℕ} {r : Result ℕ Refusal} (s : Read input v n vertices elements)
      → Left (cut_verdict (take (vertex_width * v) vertices) (length (take (vertex_width * v) vertices) / vertex_width) (take (element_width * n) elements) n (length old)) old r new
      → ConvertDone input old r new
  unfolding conversion_into conversion cut_verdict
  reading-written {v} {n} s w = record {
    left =
        rw (s.verdict, room_last (length old) (cut_text (stored_vertices rooms input) v) (cut_of v n (stored_elements rooms input) cut_room))
        (rw (vertices-count s, s.vertex_numbers, s.element_numbers) at w);
  }

module _ {input : List ℕ} {v n : ℕ} {vertices : List ℤ} {elements : List ℕ} (s : Read input v n vertices elements) where
  pub vertices-fit : Fits w64 (vertex_width * v)
  vertices-fit = record { fits = omega (arith, s.good.few) }

  pub elements-fit : Fits w64 (element_width * n)
  elements-fit = record { fits = omega (arith, s.few) }

  pub vertices-within : vertex_width * v ≤ length vertices
  vertices-within = part-within vertices s.vertex_end

  pub elements-within : element_width * n ≤ length elements
  elements-within = part-within elements s.element_end

  pub vertices_good : GoodVertices (take (vertex_width * v) vertices) (length (take (vertex_width * v) vertices) / vertex_width)
  vertices_good = rw (vertices-count s, s.vertex_numbers) s.good
