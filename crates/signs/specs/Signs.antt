-- The sign report: a table is judged as for cutting, without the output; then the vertex table: ROOM, RANGE; then four counts.
use Rattle.std.specs.Prelude.{◌≡◌, Result, Ok, Err, Bool, true, false, not, List, [], ◌∷◌, ℕ, eqb, ℤ, pos, nat_abs}
use Rattle.std.specs.Int.Signed.{lt_z}
use Rattle.laws.specs.Words.{count, every}
use Rattle.faults.specs.declared.Refusal.{Refusal}
use Rattle.faults.specs.Refusals.{Verdict, accepted, refused, and_then, answer_of}
use Rattle.volume.specs.Volume.{sixfold_at}
use Rattle.vertices.specs.Vertices.{vertices_judged}
use Rattle.solids.specs.Solids.{Vertex, Tet, tet, Element}
use Rattle.solids.specs.Cut.{cut, cut_mesh}
use Rattle.signs.specs.declared.SignCounts.{SignCounts}
use Rattle.judging.specs.Judge.{judged}

-- the sixfold volume of a tetrahedron of the cut, its vertices taken from the vertex table
unfoldable pub volume_in : List ℤ → Tet Vertex → ℤ
volume_in table (tet a b c d) = sixfold_at table a b c d

-- positive, zero and negative tetrahedra
unfoldable pub is_positive : List ℤ → Tet Vertex → Bool
is_positive table t = lt_z (pos 0) (volume_in table t)

unfoldable pub is_zero : List ℤ → Tet Vertex → Bool
is_zero table t = eqb (nat_abs (volume_in table t)) 0

unfoldable pub is_negative : List ℤ → Tet Vertex → Bool
is_negative table t = lt_z (volume_in table t) (pos 0)

-- an element with these tetrahedra is sound when all of them are positive
unfoldable pub sound : List ℤ → List (Tet Vertex) → Bool
sound table ts = every (is_positive table) ts

-- positive, zero and negative tetrahedra of the cut, and unsound elements
unfoldable pub sign_counts : List ℤ → List Element → List ℕ
sign_counts table es =
    count (is_positive table) (cut_mesh es)
    ∷ count (is_zero table) (cut_mesh es)
    ∷ count (is_negative table) (cut_mesh es)
    ∷ count (λ e. not (sound table (cut e))) es
    ∷ []

-- the four counts, or the first fault
unfoldable pub signs_of : (vertex_count element_count : ℕ) → List ℕ → List ℤ → Verdict (List ℕ)
signs_of v n t table =
    and_then (judged v n t) λ es.
    and_then (vertices_judged table v) λ points.
    accepted (sign_counts points es)

-- the answer of the sign report as a verdict
abbrev pub sign_verdict : Result SignCounts Refusal → Verdict (List ℕ)
sign_verdict (Ok c) = accepted (c.positive ∷ c.zero ∷ c.negative ∷ c.unsound ∷ [])
sign_verdict (Err r) = refused r

-- the sign report: the answer for every two counts and every two tables
pub record SignDone (v n : ℕ) (t : List ℕ) (table : List ℤ) (r : Result SignCounts Refusal) : Type 0 where
  pub answer : answer_of (0 ∷ 0 ∷ 0 ∷ 0 ∷ []) (sign_verdict r) ≡ answer_of (0 ∷ 0 ∷ 0 ∷ 0 ∷ []) (signs_of v n t table)

-- accepted
abbrev pub is_accepted : {A : Type 0} → Verdict A → Bool
is_accepted (accepted v) = true
is_accepted (refused r) = false

-- demand 2's accepted tables are those the sign report accepts
unfoldable pub accepted_tables : (vertex_count element_count : ℕ) → List ℕ → List ℤ → Bool
accepted_tables v n t table = is_accepted (signs_of v n t table)
