-- The place of the lowest number of a list: that of the first number which no other is below.
-- Assumes nothing.
use Rattle.std.proofs.Common.{◌≡◌, ◌≢◌, sym, ap, List, [], ◌∷◌, Bool, ℕ, zero, suc, ◌+◌, ◌≤◌, ◌<◌, length, get_or, arith, ltb}
use Rattle.std.specs.List.{IsFirstBest}
use Rattle.std.specs.Cmp.{IsStrictWeakOrder}
use Rattle.std.proofs.lemmas.List.MinMax.{IsStrictWeakOrder-by_number}
use borrow.Author.Tests.{eq-eqb, ne_eqb, ltb-false, ltb-true}
use Rattle.laws.specs.Words.{lowest}
use Rattle.solids.specs.Cut.{place_of, first}

-- whether a number is below another
abbrev pub below : ℕ → ℕ → Bool
below x y = ltb x y

pub order : IsStrictWeakOrder below
order = IsStrictWeakOrder-by_number (λ x. x)

-- the first place of a number
place-at : (m : ℕ) (vs : List ℕ) (b : ℕ) → b < length vs → get_or vs b 0 ≡ m → ((k : ℕ) → k < b → get_or vs k 0 ≢ m) → place_of m vs ≡ suc b
place-at m [] b h e n = absurd (omega arith)
place-at m (v ∷ vs) zero h e n = rw (eq-eqb m v (sym e))
place-at m (v ∷ vs) (suc b) h e n = rw (ne_eqb m v (λ q. n 0 (omega arith) (sym q))) (ap suc (place-at m vs b (omega arith) e (λ k l. n (suc k) (omega arith))))

-- no number is below the lowest
lowest-le : (vs : List ℕ) (k : ℕ) → k < length vs → lowest vs ≤ get_or vs k 0
lowest-le [] k h = absurd (omega arith)
lowest-le (v ∷ []) zero h = omega arith
lowest-le (v ∷ []) (suc k) h = absurd (omega arith)
lowest-le (v ∷ (w ∷ ws)) zero h = omega arith
lowest-le (v ∷ (w ∷ ws)) (suc k) h = let l = lowest-le (w ∷ ws) k (omega arith) in omega arith

-- a number that none is below is not above the lowest
le-lowest : (x : ℕ) (vs : List ℕ) → 0 < length vs → ((k : ℕ) → k < length vs → x ≤ get_or vs k 0) → x ≤ lowest vs
le-lowest x [] h l = absurd (omega arith)
le-lowest x (v ∷ []) h l = l 0 (omega arith)
le-lowest x (v ∷ (w ∷ ws)) h l = let a = l 0 (omega arith) in let b = le-lowest x (w ∷ ws) (omega arith) (λ k q. l (suc k) (omega arith)) in omega arith

-- the place of the first of the lowest numbers
pub first-best : (vs : List ℕ) (b : ℕ) → IsFirstBest below vs (length vs) b → b + 1 ≡ first vs
first-best vs b h =
    let up : (k : ℕ) → k < length vs → get_or vs b 0 ≤ get_or vs k 0 = λ k l. ltb-false (get_or vs k 0) (get_or vs b 0) (h.1 k 0 l) in
    let low : lowest vs ≤ get_or vs b 0 = lowest-le vs b h.0 in
    let high : get_or vs b 0 ≤ lowest vs = le-lowest (get_or vs b 0) vs (omega (arith, h.0)) up in
    let e : place_of (lowest vs) vs ≡ suc b =
    place-at (lowest vs) vs b h.0 (omega arith) (λ k l q. let a = ltb-true (get_or vs b 0) (get_or vs k 0) (h.2 k 0 l) in omega arith) in
    omega arith
