-- How long the text of a conversion is at most. Assumes nothing.
use mathlib.Core.Path.{◌≡◌, refl}
use mathlib.Core.List.{List, ◌++◌}
use Prim.Native.Nat.{ℕ, zero, suc, ◌*◌, ◌≤◌, ◌<◌, zero-le}
use native.Mathlib.Nat.{mul-suc}
use native.Mathlib.Omega.{arith}
use lib.IntN.{ℤ}
use lib.ListN.{length, get_or, length-append}
use Rattle.faults.specs.Refusals.{Verdict, accepted, refused, and_then}
use Rattle.solids.specs.Solids.{Vertex, Tet}
use Rattle.mesh.specs.Cutting.{flat, cut_of}
use Rattle.format.specs.File.{file_verdict}
use Rattle.format.specs.Records.{stored_vertices, stored_elements}
use Rattle.writing.specs.Written.{closed, end_line}
use Rattle.writing.proofs.Theorems.{end_line_short}
use Rattle.converting.specs.Conversion.{rooms, cut_room, cut_text, conversion}
use Rattle.converting.specs.Converting.{longest_vertex, longest_tetrahedron, longest_output}
use Rattle.converting.specs.ConversionLoops.{vertex_text, tetrahedron_text, text_to, mesh_text, GoodVertices, GoodTetrahedra}
use Rattle.converting.proofs.MeshTextLaws.{cut_text_lem}
use Rattle.converting.proofs.GoodTableLaws.{vertex-short, tetrahedron-short}
use Rattle.converting.proofs.CutLaws.{cut_tetrahedra}
use Rattle.converting.proofs.ReadingLaws.{file_good}

-- texts of at most so many bytes each
text_short : (f : ℕ → List ℕ) (most n : ℕ) → ((k : ℕ) → k < n → length (f k) ≤ most) → length (text_to f n) ≤ most * n
unfolding text_to
text_short f most zero h = zero-le
text_short f most (suc n) h =
    let first = text_short f most n (λ k l. h k (omega arith)) in
    let last = h n (omega arith) in
    rw (length-append (text_to f n) (f n), mul-suc most n) (omega arith)

mesh_short : (vertices : List ℤ) (v : ℕ) (tetrahedra : List ℕ) (n : ℕ) → GoodVertices vertices v → GoodTetrahedra tetrahedra n
    → length (mesh_text vertices v tetrahedra n) ≤ longest_output
unfolding mesh_text
mesh_short vertices v tetrahedra n g h =
    let a = text_short (vertex_text vertices) longest_vertex v (λ k l. vertex-short vertices k g l) in
    let b = text_short (tetrahedron_text tetrahedra) longest_tetrahedron n (λ k l. tetrahedron-short tetrahedra k h l) in
    let c = end_line_short v n g.few h.few in
    rw
    (length-append (text_to (vertex_text vertices) v) (text_to (tetrahedron_text tetrahedra) n ++ closed (end_line v n)), length-append (text_to (tetrahedron_text tetrahedra) n) (closed (end_line v n)))
    (omega (arith, g.few, h.few))

-- no conversion gives a longer text
pub conversion-short : (input text : List ℕ) → conversion input ≡ accepted text → length text ≤ longest_output
unfolding conversion
conversion-short input text = by (file_verdict rooms input) refl
  where
    cutting : (v n : ℕ) → GoodVertices (stored_vertices rooms input) v → (y : Verdict (List (Tet Vertex))) → cut_of v n (stored_elements rooms input) cut_room ≡ y
        → and_then y (λ ts. accepted (cut_text (stored_vertices rooms input) v ts)) ≡ accepted text → length text ≤ longest_output
    cutting v n g (accepted ts) q e =
        let z : cut_text (stored_vertices rooms input) v ts ≡ text = cc in
        rw (← z, cut_text_lem (stored_vertices rooms input) v ts)
        (mesh_short (stored_vertices rooms input) v (flat ts) (length ts) g (cut_tetrahedra v n (stored_elements rooms input) cut_room ts q g.few))
    cutting v n g (refused r) q e = let z : ◌≡◌ {A = ℕ} 0 1 = cc in absurd (omega arith)

    by : (x : Verdict (List ℕ)) → file_verdict rooms input ≡ x
        → and_then x (λ counts. and_then (cut_of (get_or counts 0 0) (get_or counts 1 0) (stored_elements rooms input) cut_room) λ ts. accepted (cut_text (stored_vertices rooms input) (get_or counts 0 0) ts)) ≡ accepted text
        → length text ≤ longest_output
    by (accepted cs) q e = cutting (get_or cs 0 0) (get_or cs 1 0) (file_good input cs q) (cut_of (get_or cs 0 0) (get_or cs 1 0) (stored_elements rooms input) cut_room) refl e
    by (refused r) q e = let z : ◌≡◌ {A = ℕ} 0 1 = cc in absurd (omega arith)
