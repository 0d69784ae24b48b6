-- What is promised of judging a table, in the words of specs/ alone. A reader starts here.
-- Assumes nothing.
use mathlib.Core.Path.{◌≡◌, refl, sym, ◌∙◌}
use mathlib.Core.List.{List, []}
use Rattle.std.specs.Prelude.{Result, Ok, Err}
use Prim.Native.Nat.{ℕ, ◌≤◌}
use lib.Dec.{T}
use lib.ListN.{length}
use Rattle.laws.specs.Words.{every}
use Rattle.faults.specs.declared.Fault.TheVariants.{Join}
use Rattle.faults.specs.declared.Refusal.{Refusal}
use Rattle.faults.specs.Refusals.{accepted, refused}
use Rattle.faults.proofs.Theorems.{answer_tells_verdict}
use Rattle.solids.specs.Solids.{Element}
use Rattle.solids.specs.Cut.{cut_mesh}
use Rattle.solids.specs.Fit.{proper, fitting}
use Rattle.solids.specs.Surface.{SurfaceCut}
use Rattle.solids.proofs.Theorems.{mesh_most, surface-cut}
use Rattle.records.specs.Record.{first_elements}
use Rattle.judging.specs.Judge.{judged, judge_verdict, JudgeDone}
use Rattle.judging.specs.Judgement.{Recorded, Judging}
use Rattle.judging.specs.Acceptance.{Acceptable}
use Rattle.judging.proofs.AcceptedTableLaws as AcceptedTableLaws
use Rattle.judging.proofs.AcceptanceLaws as AcceptanceLaws
use Rattle.judging.proofs.JudgeAnswerLaws as JudgeAnswerLaws

-- ---- uniqueness: two answers that the contract allows are equal

tells_judge : (r s : Result (Unit {0}) Refusal) → judge_verdict r ≡ judge_verdict s → r ≡ s
tells_judge (Ok u) (Ok v) e = refl
tells_judge (Ok u) (Err y) e = cc
tells_judge (Err x) (Ok v) e = cc
tells_judge (Err x) (Err y) e = cc

pub judge_unique : (v n : ℕ) (t : List ℕ) (r s : Result (Unit {0}) Refusal) → JudgeDone v n t r → JudgeDone v n t s → r ≡ s
judge_unique v n t r s p q = tells_judge r s (answer_tells_verdict [] (judge_verdict r) (judge_verdict s) (p.answer ∙ sym q.answer))

-- ---- what an answer tells of its table

-- it is accepted, its records whole and without a fault; or the refusal is the page's
pub judge_told : (v n : ℕ) (t : List ℕ) (r : Result (Unit {0}) Refusal) → JudgeDone v n t r → Judging v n t r
judge_told = JudgeAnswerLaws.judge_told

-- a table that is refused for a pair has whole records without a fault: JOIN is looked for last
pub join_recorded : (v n : ℕ) (t : List ℕ) (x : Refusal) → judged v n t ≡ refused x → x.fault ≡ Join → Recorded v n t
join_recorded = AcceptedTableLaws.join_recorded

-- ---- what an accepted table is

-- its elements are the table's, at most 1,024, proper, and fit
pub accepted-elements : (v n : ℕ) (t : List ℕ) (es : List Element) → judged v n t ≡ accepted es → es ≡ first_elements t n
accepted-elements = AcceptedTableLaws.accepted-elements

pub accepted-few : (v n : ℕ) (t : List ℕ) (es : List Element) → judged v n t ≡ accepted es → length es ≤ 1024
accepted-few = AcceptedTableLaws.accepted-few

pub accepted-proper : (v n : ℕ) (t : List ℕ) (es : List Element) → judged v n t ≡ accepted es → T (every proper es)
accepted-proper = AcceptedTableLaws.accepted-proper

pub accepted-fitting : (v n : ℕ) (t : List ℕ) (es : List Element) → judged v n t ≡ accepted es → T (fitting es)
accepted-fitting = AcceptedTableLaws.accepted-fitting

-- a table is accepted exactly if it is what the page asks
pub accepted_acceptable : (v n : ℕ) (t : List ℕ) (es : List Element) → judged v n t ≡ accepted es → Acceptable v n t
accepted_acceptable = AcceptanceLaws.accepted_acceptable

pub acceptable_accepted : (v n : ℕ) (t : List ℕ) → Acceptable v n t → judged v n t ≡ accepted (first_elements t n)
acceptable_accepted = AcceptanceLaws.acceptable_accepted

-- at most 6,144 tetrahedra
pub accepted_tetrahedra : (v n : ℕ) (t : List ℕ) (es : List Element) → judged v n t ≡ accepted es → length (cut_mesh es) ≤ 6144
accepted_tetrahedra v n t es e = mesh_most es (accepted-proper v n t es e) (accepted-few v n t es e)

-- demand 3: for every accepted table the surface of the cut is the cut of the surface
pub accepted-surface : (v n : ℕ) (t : List ℕ) (es : List Element) → judged v n t ≡ accepted es → SurfaceCut es
accepted-surface v n t es e = surface-cut es (accepted-proper v n t es e) (accepted-fitting v n t es e)
