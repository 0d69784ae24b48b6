-- Cutting a table: it is judged, then ROOM for the output; the output is then the cut of its elements.
use Rattle.std.specs.Prelude.{Result, Ok, Err, List, [], ◌∷◌, ◌≡◌, ℕ, ◌*◌, ltb, length}
use Rattle.limits.specs.Limits.{tetrahedron_width}
use Rattle.laws.specs.Words.{gather}
use Rattle.laws.specs.Lent.{laid}
use Rattle.faults.specs.declared.Fault.TheVariants.{Room}
use Rattle.faults.specs.declared.Refusal.{Refusal}
use Rattle.faults.specs.Refusals.{Verdict, accepted, refused, refuse, refuse_if, and_then, records_of, answer_of}
use Rattle.solids.specs.Solids.{Vertex, Tet, of_tet}
use Rattle.solids.specs.Cut.{cut_mesh}
use Rattle.mesh.specs.declared.CutCounts.{CutCounts}
use Rattle.judging.specs.Judge.{judged}

-- tetrahedra as numbers, one after the other
unfoldable pub flat : List (Tet Vertex) → List ℕ
flat ts = gather of_tet ts

-- the tetrahedra of a table that is judged sound and whose cut has room, or the first fault
unfoldable pub cut_of : (vertex_count element_count : ℕ) → List ℕ → (room : ℕ) → Verdict (List (Tet Vertex))
cut_of v n t room =
    and_then (judged v n t) λ es. refuse_if (ltb room (tetrahedron_width * length (cut_mesh es))) (refuse Room 0) (accepted (cut_mesh es))

-- the answer of cutting as a verdict: its one value is the number of tetrahedra
abbrev pub cut_verdict : Result CutCounts Refusal → Verdict (List ℕ)
cut_verdict (Ok c) = accepted (c.tetrahedra ∷ [])
cut_verdict (Err r) = refused r

-- cutting: the answer, and the output afterwards, for every two counts, every table and every output
pub record CutDone (v n : ℕ) (t old : List ℕ) (r : Result CutCounts Refusal) (new : List ℕ) : Type 0 where
  pub answer :
      answer_of (0 ∷ []) (cut_verdict r) ≡ answer_of (0 ∷ []) (and_then (cut_of v n t (length old)) λ ts. accepted (length ts ∷ []))
  pub output : new ≡ laid (records_of flat (cut_of v n t (length old))) old
