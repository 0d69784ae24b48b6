-- What is promised of the sign report, in the words of specs/ alone. A reader starts here.
-- Assumes nothing.
use mathlib.Core.Path.{◌≡◌, sym, ap, ◌∙◌}
use mathlib.Core.List.{List, [], ◌∷◌}
use Prim.Native.Nat.{ℕ, ◌+◌}
use native.Mathlib.Omega.{arith}
use lib.IntN.{ℤ}
use lib.ListN.{length}
use Rattle.std.specs.Prelude.{Result, Ok, Err}
use Rattle.faults.specs.declared.Refusal.{Refusal}
use Rattle.faults.proofs.Theorems.{answer_tells_verdict}
use Rattle.solids.specs.Cut.{cut_mesh}
use Rattle.records.specs.Record.{first_elements}
use Rattle.judging.proofs.Theorems.{accepted-elements}
use Rattle.signs.specs.declared.SignCounts.{SignCounts}
use Rattle.signs.specs.Signs.{signs_of, sign_verdict, SignDone}
use Rattle.signs.proofs.SignCountLaws.{counts_total}
use Rattle.signs.proofs.SignedLaws.{reported}

-- ---- uniqueness: two answers that the contract allows are equal

tells_sign : (r s : Result SignCounts Refusal) → sign_verdict r ≡ sign_verdict s → r ≡ s
tells_sign (Ok c) (Ok d) e =
    let p : c.positive ≡ d.positive = cc in
    let z : c.zero ≡ d.zero = cc in
    let n : c.negative ≡ d.negative = cc in
    let u : c.unsound ≡ d.unsound = cc in
    λ i. Ok (record { positive = p i; zero = z i; negative = n i; unsound = u i })
tells_sign (Ok c) (Err y) e = let z : ◌≡◌ {A = ℕ} 0 1 = cc in absurd (omega arith)
tells_sign (Err x) (Ok d) e = let z : ◌≡◌ {A = ℕ} 0 1 = cc in absurd (omega arith)
tells_sign (Err x) (Err y) e = let z : x ≡ y = cc in ap Err z

pub sign_unique : (v n : ℕ) (t : List ℕ) (table : List ℤ) (r s : Result SignCounts Refusal) → SignDone v n t table r → SignDone v n t table s → r ≡ s
sign_unique v n t table r s p q =
    tells_sign r s (answer_tells_verdict (0 ∷ 0 ∷ 0 ∷ 0 ∷ []) (sign_verdict r) (sign_verdict s) (p.answer ∙ sym q.answer))

-- ---- whatever the vertex table, the report counts the tetrahedra of one cut

pub one_cut : (v n : ℕ) (t : List ℕ) (table : List ℤ) (c : SignCounts) → SignDone v n t table (Ok c)
    → c.positive + c.zero + c.negative ≡ length (cut_mesh (first_elements t n))
one_cut v n t table c d =
    let counts = c.positive ∷ c.zero ∷ c.negative ∷ c.unsound ∷ [] in
    let p = reported v n t table counts (answer_tells_verdict (0 ∷ 0 ∷ 0 ∷ 0 ∷ []) (sign_verdict (Ok c)) (signs_of v n t table) d.answer) in
    counts_total table p.elements c p.are ∙ ap (λ es. length (cut_mesh es)) (accepted-elements v n t p.elements p.accepts)
