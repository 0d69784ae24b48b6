-- What is promised of several entries together, in the words of specs/ alone. A reader starts here.
-- Assumes nothing.
--   v, n, t     the vertex count, the element count and the element table that an entry is given; es its elements where it is accepted
--   old, new    the lent output before and after a cut
use mathlib.Core.Path.{◌≡◌, subst}
use mathlib.Core.Bool.{cond}
use mathlib.Core.List.{List, [], ◌++◌, map, Memᴰ}
use mathlib.Core.Logic.{◌≢◌}
use Prim.Native.Nat.{ℕ, ◌+◌, ◌*◌, ◌≤◌, ◌<◌}
use lib.Dec.{T, ltb}
use lib.IntN.{ℤ}
use lib.ListN.{length, get_or}
use Rattle.std.specs.Prelude.{Result, Ok}
use Rattle.limits.specs.Limits.{file_limit, element_limit, element_width}
use Rattle.laws.specs.Words.{every, among}
use Rattle.laws.specs.Lent.{laid}
use Rattle.laws.proofs.EveryLaws.{every_implies}
use Rattle.laws.proofs.TestLaws.{and_left}
use Rattle.faults.specs.declared.Refusal.{Refusal}
use Rattle.faults.specs.Refusals.{accepted, refused, and_then}
use Rattle.faults.specs.Spots.{subject_of, table_spot, spot_of, refuser_of}
use Rattle.faults.specs.declared.Spot.TheVariants as spot
use Rattle.solids.specs.Solids.{Place, Vertex, Face, four, Tet, Element, of_face, of_tet, faces_of}
use Rattle.solids.specs.Rotations.{is_rotation}
use Rattle.solids.specs.Cut.{cut_face, cut, cut_mesh}
use Rattle.solids.specs.Fit.{same_set}
use Rattle.solids.specs.Surface.{SurfaceCut, CutAlike}
use Rattle.solids.specs.Listings.{is_order, as_element}
use Rattle.solids.proofs.Theorems.{again_cut}
use Rattle.records.specs.Record.{kind_of, used_of, solid_of, element_of, record_finding, record_at, element_at, first_elements}
use Rattle.records.specs.WholeRecords.{is_number, Whole, WholeTable}
use Rattle.records.proofs.Theorems.{whole-proper}
use Rattle.mesh.specs.declared.CutCounts.{CutCounts}
use Rattle.signs.specs.declared.SignCounts.{SignCounts}
use Rattle.judging.specs.Judge.{judged, JudgeDone}
use Rattle.mesh.specs.Cutting.{flat, cut_of, CutDone}
use Rattle.signs.specs.Signs.{SignDone, is_accepted}
use Rattle.judging.proofs.Theorems.{judge_unique, accepted-proper, accepted-surface}
use Rattle.mesh.proofs.Theorems.{cut_unique}
use Rattle.signs.proofs.Theorems.{sign_unique, one_cut}
use Rattle.promises.specs.Tables.{RecordRelisted, TableRelisted, relisted_record, relisted_table, TableReordered, reordered, blocks_in_order, as_table, BeginsWith, tetrahedra_in, SurfaceIsCut}
use Rattle.format.specs.File.{file_verdict}
use Rattle.format.specs.declared.Rooms.{Rooms}
use Rattle.converting.specs.Conversion.{rooms, conversion}
use Rattle.promises.proofs.AnswerLaws as AnswerLaws
use Rattle.promises.proofs.ReadSpotLaws as ReadSpotLaws
use Rattle.promises.proofs.CutSpotLaws as CutSpotLaws
use Rattle.promises.proofs.RelistedTables as RelistedTables
use Rattle.promises.proofs.RelistedRecords as RelistedRecords
use Rattle.promises.proofs.ReorderedTables as ReorderedTables
use Rattle.records.proofs.TetrahedronRecord.{is_good}
use Rattle.promises.proofs.CutOfCutTables as CutOfCutTables
use Rattle.promises.proofs.SurfaceOfTables as SurfaceOfTables

-- ---- the output: a done answer counts the cut of the table's elements, and its tetrahedra stand in the lent memory

pub output-judged : (v n : ℕ) (t old : List ℕ) (c : CutCounts) (new : List ℕ) → CutDone v n t old (Ok c) new
    → judged v n t ≡ accepted (first_elements t n)
output-judged v n t old c new d = (AnswerLaws.answer-done v n t old c.tetrahedra new d).cuts.elements

pub output-count : (v n : ℕ) (t old : List ℕ) (c : CutCounts) (new : List ℕ) → CutDone v n t old (Ok c) new
    → c.tetrahedra ≡ length (cut_mesh (first_elements t n))
output-count v n t old c new d = (AnswerLaws.answer-done v n t old c.tetrahedra new d).many

pub output_is_cut : (v n : ℕ) (t old : List ℕ) (c : CutCounts) (new : List ℕ) → CutDone v n t old (Ok c) new
    → tetrahedra_in c.tetrahedra new ≡ cut_mesh (first_elements t n)
output_is_cut v n t old c new d = AnswerLaws.done_tetrahedra v n t old c.tetrahedra new (AnswerLaws.answer-done v n t old c.tetrahedra new d)

-- ---- 1 and 2. The surface: for every accepted table the surface of the cut is the cut of the surface

pub table-surface : (v n : ℕ) (t : List ℕ) (es : List Element) → judged v n t ≡ accepted es → SurfaceIsCut es (cut_mesh es)
table-surface v n t es e = SurfaceOfTables.surface_is_cut es (accepted-surface v n t es e)

-- and of the numbers that a done cut leaves in lent memory
pub output-surface : (v n : ℕ) (t old : List ℕ) (c : CutCounts) (new : List ℕ) → CutDone v n t old (Ok c) new
    → SurfaceIsCut (first_elements t n) (tetrahedra_in c.tetrahedra new)
output-surface v n t old c new d = SurfaceOfTables.done-surface v n t old c.tetrahedra new (AnswerLaws.answer-done v n t old c.tetrahedra new d)

-- it says as much as the equation of counts from which it comes
pub surface-same : (es : List Element) → SurfaceIsCut es (cut_mesh es) → SurfaceCut es
surface-same = SurfaceOfTables.cut_is_surface

-- ---- 3. Relisting

-- an element record relisted by a rotation of its solid has the identical cut
pub relisted_record_cut : (r r' : List ℕ) → RecordRelisted r r' → Whole r → cut (element_of r') ≡ cut (element_of r)
relisted_record_cut r r' w h = RelistedTables.relists_cut w.corners (whole-proper r h)

-- and the same first fault
pub relisted_record_finding : (limit : ℕ) (r r' : List ℕ) → RecordRelisted r r' → record_finding limit r' ≡ record_finding limit r
relisted_record_finding limit r r' w = RelistedTables.finding_relisted r r' w limit

-- every record without a fault can be relisted by every rotation of its solid, and all records of a table, each by its own
pub relisted_record_lem : (r : List ℕ) → Whole r → (ρ : List Place) → T (is_rotation (solid_of (kind_of r)) ρ) → RecordRelisted r (relisted_record ρ r)
relisted_record_lem = RelistedRecords.relisted_record_lem

pub relisted-table : (n : ℕ) (t : List ℕ) → WholeTable t n → (ρs : List (List Place)) → length ρs ≡ n
    → ((k : ℕ) → k < n → T (is_rotation (solid_of (kind_of (record_at t k))) (get_or ρs k []))) → TableRelisted n t (relisted_table ρs t)
relisted-table = RelistedRecords.relisted-table

-- a table in which any records are relisted is accepted exactly if it was, and refused with the same refusal
pub relisted-accepted : (v n : ℕ) (t t' : List ℕ) → TableRelisted n t t' → is_accepted (judged v n t') ≡ is_accepted (judged v n t)
relisted-accepted = RelistedTables.relisted-accepted

pub relisted-refused : (v n : ℕ) (t t' : List ℕ) → TableRelisted n t t' → (x : Refusal) → judged v n t ≡ refused x → judged v n t' ≡ refused x
relisted-refused = RelistedTables.relisted-refused

-- with identical output: the same tetrahedra in the same order, or the same refusal, also for its room
pub relisted-cut : (v n : ℕ) (t t' : List ℕ) → TableRelisted n t t' → (room : ℕ) → cut_of v n t' room ≡ cut_of v n t room
relisted-cut = RelistedTables.relisted-cut

-- of the functions: `judge_mesh`, `cut_mesh` and `sign_report` answer the same and leave the same memory
pub relisted_judge_mesh : (v n : ℕ) (t t' : List ℕ) → TableRelisted n t t' → (r s : Result (Unit {0}) Refusal) → JudgeDone v n t r → JudgeDone v n t' s → r ≡ s
relisted_judge_mesh v n t t' w r s p q = judge_unique v n t' r s (RelistedTables.relisted_judge_done v n t t' w r p) q

pub relisted_cut_mesh : (v n : ℕ) (t t' : List ℕ) → TableRelisted n t t' → (old : List ℕ) (r s : Result CutCounts Refusal) (new new' : List ℕ)
    → CutDone v n t old r new → CutDone v n t' old s new' → (r ≡ s) × (new ≡ new')
relisted_cut_mesh v n t t' w old r s new new' p q = cut_unique v n t' old r s new new' (RelistedTables.relisted_cut_done v n t t' w old r new p) q

pub relisted_sign_report : (v n : ℕ) (t t' : List ℕ) → TableRelisted n t t' → (table : List ℤ) (r s : Result SignCounts Refusal)
    → SignDone v n t table r → SignDone v n t' table s → r ≡ s
relisted_sign_report v n t t' w table r s p q = sign_unique v n t' table r s (RelistedTables.relisted_sign_done v n t t' w table r p) q

-- ---- 4. Reordering

-- every order of the records of a table is one of these
pub reordered-table : (n : ℕ) (σ t : List ℕ) → T (is_order n σ) → element_width * n ≤ length t → TableReordered n σ t (reordered σ t)
reordered-table = ReorderedTables.reordered-table

-- a table with its records in another order is accepted exactly if it was
pub reordered-accepted : (v n : ℕ) (σ t t' : List ℕ) → TableReordered n σ t t' → is_accepted (judged v n t') ≡ is_accepted (judged v n t)
reordered-accepted v n σ t t' w = ReorderedTables.reordered-accepted n σ t t' w v

-- and its cut is the same blocks in the new order, or lacks room as the cut did
pub reordered-cut : (v n : ℕ) (σ t t' : List ℕ) → TableReordered n σ t t' → (es : List Element) → judged v n t ≡ accepted es → (room : ℕ)
    → cut_of v n t' room ≡ (and_then (cut_of v n t room) λ ts. accepted (blocks_in_order σ es))
reordered-cut v n σ t t' w es e room = ReorderedTables.reordered_blocks n σ t t' w v es e room

-- of the functions: `judge_mesh` and `cut_mesh` are done with the one table exactly if they are with the other
pub reordered_judge_mesh : (v n : ℕ) (σ t t' : List ℕ) → TableReordered n σ t t' → (r s : Result (Unit {0}) Refusal) → JudgeDone v n t r → JudgeDone v n t' s
    → (r ≡ Ok tt → s ≡ Ok tt) × (s ≡ Ok tt → r ≡ Ok tt)
reordered_judge_mesh v n σ t t' w r s p q = (
  λ e.
      judge_unique v n t' s (Ok tt) q
      (AnswerLaws.accepted_judge v n t' (first_elements t' n)
      (ReorderedTables.reordered_there n σ t t' w v (first_elements t n) (AnswerLaws.judge_accepted v n t (subst (JudgeDone v n t) e p)))),
  λ e.
      judge_unique v n t r (Ok tt) p
      (AnswerLaws.accepted_judge v n t (first_elements t n)
      (ReorderedTables.reordered_home n σ t t' w v (first_elements t' n) (AnswerLaws.judge_accepted v n t' (subst (JudgeDone v n t') e q)))),
)

-- the answer of `cut_mesh` is the same, and its output the same blocks in the new order
pub reordered_cut_mesh : (v n : ℕ) (σ t t' : List ℕ) → TableReordered n σ t t' → (old : List ℕ) (c : CutCounts) (s : Result CutCounts Refusal) (new new' : List ℕ)
    → CutDone v n t old (Ok c) new → CutDone v n t' old s new'
    → (s ≡ Ok c) × (new' ≡ laid (flat (blocks_in_order σ (first_elements t n))) old)
reordered_cut_mesh v n σ t t' w old c s new new' p q =
    cut_unique v n t' old s (Ok c) new' (laid (flat (blocks_in_order σ (first_elements t n))) old) q
    (AnswerLaws.done-answer v n t' old c.tetrahedra (laid (flat (blocks_in_order σ (first_elements t n))) old)
    (ReorderedTables.done_there n σ t t' w v old c.tetrahedra new (AnswerLaws.answer-done v n t old c.tetrahedra new p)))

-- and where it is done with the new table, it is with the old one
pub reordered_cut_mesh_back : (v n : ℕ) (σ t t' : List ℕ) → TableReordered n σ t t' → (old : List ℕ) (r : Result CutCounts Refusal) (c : CutCounts) (new new' : List ℕ)
    → CutDone v n t old r new → CutDone v n t' old (Ok c) new' → r ≡ Ok c
reordered_cut_mesh_back v n σ t t' w old r c new new' p q =
    (cut_unique v n t old r (Ok c) new (laid (flat (cut_mesh (first_elements t n))) old) p
    (AnswerLaws.done-answer v n t old c.tetrahedra (laid (flat (cut_mesh (first_elements t n))) old)
    (ReorderedTables.done_home n σ t t' w v old c.tetrahedra new' (AnswerLaws.answer-done v n t' old c.tetrahedra new' q)))).0

-- ---- 5. The cut of a cut

-- the table of tetrahedra as TE records is one that begins with them, whatever stands behind it
pub table_begins : (ts : List (Tet Vertex)) → BeginsWith ts (as_table ts)
table_begins = CutOfCutTables.table_alone

pub memory_begins : (ts : List (Tet Vertex)) (rest : List ℕ) → BeginsWith ts (as_table ts ++ rest)
memory_begins = CutOfCutTables.table_begins

-- an accepted table of at most 1,024 tetrahedra: these, given as TE records, are accepted with the same vertex count
pub again-accepted : (v n : ℕ) (t : List ℕ) (es : List Element) → judged v n t ≡ accepted es → length (cut_mesh es) ≤ element_limit
    → (t' : List ℕ) → BeginsWith (cut_mesh es) t' → judged v (length (cut_mesh es)) t' ≡ accepted (map as_element (cut_mesh es))
again-accepted = CutOfCutTables.again-accepted

-- and are cut to themselves
pub again_itself : (v n : ℕ) (t : List ℕ) (es : List Element) → judged v n t ≡ accepted es → cut_mesh (map as_element (cut_mesh es)) ≡ cut_mesh es
again_itself v n t es e = again_cut es (accepted-proper v n t es e)

-- with whatever room: the same tetrahedra, or the same refusal
pub again_cut_alike : (v n : ℕ) (t : List ℕ) (es : List Element) → judged v n t ≡ accepted es → length (cut_mesh es) ≤ element_limit
    → (t' : List ℕ) → BeginsWith (cut_mesh es) t' → (room : ℕ) → cut_of v (length (cut_mesh es)) t' room ≡ cut_of v n t room
again_cut_alike = CutOfCutTables.again_alike

-- of the functions: the tetrahedra that `cut_mesh` left in memory, given to it again as TE records with the same memory as before, give the same
-- answer and the same memory, and `judge_mesh` is done with them
pub again_cut_mesh : (v n : ℕ) (t old : List ℕ) (c : CutCounts) (new : List ℕ) → CutDone v n t old (Ok c) new → c.tetrahedra ≤ element_limit
    → (t' : List ℕ) → BeginsWith (tetrahedra_in c.tetrahedra new) t' → (s : Result CutCounts Refusal) (new' : List ℕ) → CutDone v c.tetrahedra t' old s new'
    → (s ≡ Ok c) × (new' ≡ new)
again_cut_mesh v n t old c new d few t' w s new' q =
    let k = c.tetrahedra in
    cut_unique v k t' old s (Ok c) new' new q
    (AnswerLaws.done-answer v k t' old k new (CutOfCutTables.again-done v n t old k new (AnswerLaws.answer-done v n t old k new d) few t' w))

pub again_judge_mesh : (v n : ℕ) (t old : List ℕ) (c : CutCounts) (new : List ℕ) → CutDone v n t old (Ok c) new → c.tetrahedra ≤ element_limit
    → (t' : List ℕ) → BeginsWith (tetrahedra_in c.tetrahedra new) t' → (s : Result (Unit {0}) Refusal) → JudgeDone v c.tetrahedra t' s → s ≡ Ok tt
again_judge_mesh v n t old c new d few t' w s q =
    let k = c.tetrahedra in
    judge_unique v k t' s (Ok tt) q
    (AnswerLaws.accepted_judge v k t' (first_elements t' k)
    (CutOfCutTables.again-done v n t old k new (AnswerLaws.answer-done v n t old k new d) few t' w).cuts.elements)

-- ---- 6. Corollaries

-- two neighbours cut their common face into the same triangles, run round in opposite directions, two where it has four corners
pub neighbours_agree : (v n : ℕ) (t : List ℕ) (es : List Element) → judged v n t ≡ accepted es → (i j : ℕ) → i < n → j < n → i ≢ j
    → (F G : Face Vertex) → Memᴰ F (faces_of (element_at t i)) → Memᴰ G (faces_of (element_at t j)) → T (same_set (of_face F) (of_face G)) → CutAlike F G
neighbours_agree = SurfaceOfTables.neighbours

pub two_triangles : (p q r s : Vertex) → length (cut_face (four p q r s)) ≡ 2
two_triangles = SurfaceOfTables.two_triangles

-- each tetrahedron of the cut is of the cut of one of the table's elements
pub of_an_element : (v n : ℕ) (t : List ℕ) (es : List Element) → judged v n t ≡ accepted es → (u : Tet Vertex) → Memᴰ u (cut_mesh es)
    → (k : ℕ) × (k < n) × Memᴰ u (cut (element_at t k))
of_an_element = SurfaceOfTables.owned_by

-- and uses no vertex that its element has not
pub no_other_vertex : (v n : ℕ) (t : List ℕ) (es : List Element) → judged v n t ≡ accepted es → (k : ℕ) → k < n → (u : Tet Vertex)
    → Memᴰ u (cut (element_at t k)) → T (every (λ x. among x (used_of (record_at t k))) (of_tet u))
no_other_vertex = SurfaceOfTables.own_at

-- so every vertex number of the output is between 1 and the vertex count
pub no_new_vertex : (v n : ℕ) (t : List ℕ) (es : List Element) → judged v n t ≡ accepted es → T (every (λ u. every (is_number v) (of_tet u)) (cut_mesh es))
no_new_vertex v n t es e =
    every_implies (is_good v) (λ u. every (is_number v) (of_tet u)) (λ u h. and_left (every (is_number v) (of_tet u)) _ h) (cut_mesh es)
    (CutOfCutTables.accepted_good v n t es e)

-- the cut reads no coordinate: whatever two vertex tables stand beside an element table, cutting gives one answer and one output (its contract takes none)
pub no-coordinate : (vertices vertices' : List ℤ) (v n : ℕ) (t old : List ℕ) (r s : Result CutCounts Refusal) (new new' : List ℕ)
    → CutDone v n t old r new → CutDone v n t old s new' → (r ≡ s) × (new ≡ new')
no-coordinate vertices vertices' = cut_unique

-- and the sign report, which does read coordinates, counts the tetrahedra of that one cut with every vertex table that it accepts
pub signs_of_one_cut : (v n : ℕ) (t : List ℕ) (vertices : List ℤ) (c : SignCounts) → SignDone v n t vertices (Ok c)
    → c.positive + c.zero + c.negative ≡ length (cut_mesh (first_elements t n))
signs_of_one_cut = one_cut

-- ---- where a refusal lies, in the words of a person

-- where reading refused: the file itself where it is too long, else the line that the refusal names
pub read_spot : (lent : Rooms) (file : List ℕ) (r : Refusal) → file_verdict lent file ≡ refused r
    → spot_of (refuser_of r.fault) r ≡ cond (ltb file_limit (length file)) spot.Whole (spot.Line r.place)
read_spot = ReadSpotLaws.read_spot

-- where cutting refused what reading accepted: both elements of JOIN, else the element that the refusal names
pub cut_spot : (input counts : List ℕ) (r : Refusal) → file_verdict rooms input ≡ accepted counts → conversion input ≡ refused r
    → spot_of (refuser_of r.fault) r ≡ table_spot (subject_of r.fault) r
cut_spot = CutSpotLaws.cut_spot
