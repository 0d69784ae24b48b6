-- Where no element of a table has a misfit, every two of its elements fit.
-- Assumes nothing.
use mathlib.Core.Path.{◌≡◌, refl, sym, ◌∙◌, subst}
use mathlib.Core.Bool.{Bool, true, false, cond, not}
use mathlib.Core.List.{List, [], ◌∷◌, ◌++◌}
use Prim.Native.Nat.{ℕ, zero, suc, ◌≤◌, ◌<◌, zero-le}
use Rattle.std.specs.Prelude.{Option, Some, None, MatchOption}
use native.Mathlib.Numerals.{add-one}
use native.Mathlib.Omega.{arith}
use lib.Dec.{T, eqb, ltb}
use borrow.Author.Tests.{ne_eqb, ltb-true, ltb-false, not-false}
use Rattle.laws.specs.Words.{every}
use Rattle.laws.proofs.TestLaws.{and_left, and_right, true-T}
use Rattle.laws.specs.Searches.{least}
use Rattle.laws.proofs.SearchLaws.{least_all, least-none, least_found, least-most}
use Rattle.laws.proofs.TestLaws.{and_both}
use Rattle.laws.proofs.EveryLaws.{every_append}
use Rattle.solids.specs.Solids.{Element}
use Rattle.solids.specs.Fit.{fits, fitting}
use Rattle.records.specs.Record.{element_at, first_elements}
use Rattle.records.proofs.Theorems.{first_all}
use Rattle.judging.specs.Judge.{pair_fits, misfit, bad_element}
use Rattle.judging.specs.FirstPair.{from_one, BadPair}

-- one element more, which all fit
fitting_more : (es : List Element) (x : Element) → T (fitting es) → T (every (λ e. fits e x) es) → T (fitting (es ++ (x ∷ [])))
unfolding fitting
fitting_more [] x f h = tt
fitting_more (e ∷ es) x f h =
    and_both (every (fits e) (es ++ (x ∷ []))) (fitting (es ++ (x ∷ [])))
    (every_append (fits e) es (x ∷ []) (and_left (every (fits e) es) (fitting es) f)
    (and_both (fits e x) true (and_left (fits e x) (every (λ d. fits d x) es) h) tt))
    (fitting_more es x (and_right (every (fits e) es) (fitting es) f) (and_right (fits e x) (every (λ d. fits d x) es) h))

-- the first number below n that passes a test is the least one
pub first_least : (p : ℕ → Bool) (n : ℕ) (r : Option ℕ)
    → MatchOption r ((k : ℕ) → 0 ≤ k → k < n → p k ≡ false) (λ i. (0 ≤ i) × (i < n) × (p i ≡ true) × ((k : ℕ) → 0 ≤ k → k < i → p k ≡ false))
    → from_one r ≡ least p n
first_least p n None h = sym (least-none p n (λ k. h k zero-le))
first_least p n (Some i) h = sym (least_found p (least-none p i (λ k. h.3 k zero-le)) h.2 h.1)

-- the least number below n that passes a test is one that does
pub least_passes : (p : ℕ → Bool) (n k : ℕ) → least p n ≡ suc k → p k ≡ true
unfolding least
least_passes p zero k e = cc
least_passes p (suc n) k e = go (least p n) (p n) refl refl e (least_passes p n k)
  where
    go : (l : ℕ) (b : Bool) → least p n ≡ l → p n ≡ b → cond (eqb l 0) (cond b (suc n) 0) l ≡ suc k → (least p n ≡ suc k → p k ≡ true) → p k ≡ true
    go zero true q r f rest = let z : n ≡ k = omega arith in subst (λ (m : ℕ). p m ≡ true) z r
    go zero false q r f rest = absurd (omega arith)
    go (suc l) b q r f rest = rest (q ∙ (rw (ne_eqb (suc l) 0 (λ z. omega arith)) at f))

module _ (t : List ℕ) where
  -- what a search that found an element, and then its lowest misfit, says of them
  pub pair-found : (n j i : ℕ) → suc j ≡ bad_element t n → suc i ≡ misfit t j → BadPair t n j i
  unfolding bad_element misfit
  pair-found n j i e f = record {
    inside = omega (arith, least-most (λ m. ltb 0 (misfit t m)) n);
    early = omega (arith, least-most (λ m. not (pair_fits t m j)) j);
    element = rw (add-one j) (sym e);
    lowest = rw (add-one i) (sym f);
  }

  -- an element that is found has a misfit
  pub found-some : (n j : ℕ) → suc j ≡ bad_element t n → 0 ≡ misfit t j → ⊥
  unfolding bad_element
  found-some n j e f = let h = ltb-true 0 (misfit t j) (least_passes (λ m. ltb 0 (misfit t m)) n j (sym e)) in omega arith

  -- no element below n has a misfit: each pair below n fits
  pub none-bad : (n : ℕ) → bad_element t n ≡ 0 → (i j : ℕ) → i < j → j < n → T (pair_fits t i j)
  unfolding bad_element misfit
  none-bad n h i j k l =
      let m : misfit t j ≤ 0 = ltb-false 0 (misfit t j) (least_all (λ y. ltb 0 (misfit t y)) n h j l) in
      let z : misfit t j ≡ 0 = omega arith in
      true-T (not-false (pair_fits t i j) (least_all (λ x. not (pair_fits t x j)) j z i k))

  fitting-first : (n : ℕ) → ((i j : ℕ) → i < j → j < n → T (pair_fits t i j)) → T (fitting (first_elements t n))
  unfolding fitting first_elements pair_fits
  fitting-first zero h = tt
  fitting-first (suc n) h =
      fitting_more (first_elements t n) (element_at t n) (fitting-first n (λ i j k l. h i j k (omega arith)))
      (first_all t (λ e. fits e (element_at t n)) n (λ i k. h i n k (omega arith)))

  -- every two of the first n elements fit
  pub none_bad_fitting : (n : ℕ) → bad_element t n ≡ 0 → T (fitting (first_elements t n))
  none_bad_fitting n h = fitting-first n (none-bad n h)
