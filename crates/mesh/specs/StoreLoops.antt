-- A shape that only the private `store_cut` wants; proofs/CutAnswerLaws.antt says that it is what cutting does with the tetrahedra of a judged table.
use Rattle.std.specs.Prelude.{Result, ◌≡◌, List, [], ◌∷◌, ℕ, ◌*◌, ltb, length}
use Rattle.limits.specs.Limits.{tetrahedron_width}
use Rattle.laws.specs.Lent.{laid}
use Rattle.faults.specs.declared.Fault.TheVariants.{Room}
use Rattle.faults.specs.declared.Refusal.{Refusal}
use Rattle.faults.specs.Refusals.{Verdict, accepted, refuse, refuse_if, and_then, records_of}
use Rattle.solids.specs.Solids.{Vertex, Tet}
use Rattle.mesh.specs.declared.CutCounts.{CutCounts}
use Rattle.mesh.specs.Cutting.{flat, cut_verdict}

-- tetrahedra that have room, or ROOM
unfoldable pub roomed : ℕ → List (Tet Vertex) → Verdict (List (Tet Vertex))
roomed room ts = refuse_if (ltb room (tetrahedron_width * length ts)) (refuse Room 0) (accepted ts)

-- tetrahedra stored where they have room: the answer, and the output afterwards
pub record CutStored (ts : List (Tet Vertex)) (old : List ℕ) (r : Result CutCounts Refusal) (new : List ℕ) : Type 0 where
  pub answer : cut_verdict r ≡ and_then (roomed (length old) ts) (λ us. accepted (length us ∷ []))
  pub output : new ≡ laid (records_of flat (roomed (length old) ts)) old
