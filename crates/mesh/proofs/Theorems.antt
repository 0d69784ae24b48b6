-- What is promised of cutting, in the words of specs/ alone. A reader starts here.
-- Assumes nothing.
use mathlib.Core.Path.{◌≡◌, sym, ap, ◌∙◌}
use mathlib.Core.List.{List, [], ◌∷◌}
use Prim.Native.Nat.{ℕ}
use native.Mathlib.Omega.{arith}
use Rattle.std.specs.Prelude.{Result, Ok, Err}
use Rattle.faults.specs.declared.Refusal.{Refusal}
use Rattle.faults.proofs.Theorems.{answer_tells_verdict}
use Rattle.mesh.specs.declared.CutCounts.{CutCounts}
use Rattle.mesh.specs.Cutting.{cut_verdict, CutDone}

-- ---- uniqueness: two answers, and two outputs, that a contract allows are equal

tells_cut : (r s : Result CutCounts Refusal) → cut_verdict r ≡ cut_verdict s → r ≡ s
tells_cut (Ok c) (Ok d) e = let z : c.tetrahedra ≡ d.tetrahedra = cc in λ i. Ok (record { tetrahedra = z i })
tells_cut (Ok c) (Err y) e = let z : ◌≡◌ {A = ℕ} 0 1 = cc in absurd (omega arith)
tells_cut (Err x) (Ok d) e = let z : ◌≡◌ {A = ℕ} 0 1 = cc in absurd (omega arith)
tells_cut (Err x) (Err y) e = let z : x ≡ y = cc in ap Err z

pub cut_unique : (v n : ℕ) (t old : List ℕ) (r s : Result CutCounts Refusal) (new new' : List ℕ) → CutDone v n t old r new → CutDone v n t old s new'
    → (r ≡ s) × (new ≡ new')
cut_unique v n t old r s new new' p q = (
  tells_cut r s (answer_tells_verdict (0 ∷ []) (cut_verdict r) (cut_verdict s) (p.answer ∙ sym q.answer)),
  p.output ∙ sym q.output,
)
