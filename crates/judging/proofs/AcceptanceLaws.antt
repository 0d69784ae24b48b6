-- A table is accepted exactly if it is what the page asks: from each record and each pair to the judgement.
-- Assumes nothing.
use mathlib.Core.Path.{◌≡◌, refl, sym, ◌∙◌, subst}
use mathlib.Core.Bool.{Bool, true, false, not}
use mathlib.Core.List.{List, [], ◌∷◌, ◌++◌}
use Prim.Native.Nat.{ℕ, zero, suc, ◌*◌, ◌≤◌, ◌<◌}
use native.Mathlib.Omega.{arith}
use lib.Dec.{T, eqb, ltb}
use lib.ListN.{length}
use borrow.Author.Tests.{eqb-true, eqb-false, le-ltb}
use Rattle.limits.specs.Limits.{element_limit, element_width}
use Rattle.laws.specs.Words.{every}
use Rattle.laws.proofs.TestLaws.{and_left, and_right, and_both, T_true}
use Rattle.laws.proofs.EveryLaws.{every_front, every_rest}
use Rattle.laws.proofs.SearchLaws.{least-none}
use Rattle.std.specs.Prelude.{Ok}
use Rattle.faults.specs.Refusals.{accepted}
use Rattle.solids.specs.Solids.{Element}
use Rattle.solids.specs.Fit.{proper, fits, fitting}
use Rattle.records.specs.Record.{record_finding, record_count, record_at, element_at, first_elements}
use Rattle.tables.proofs.CleanRecordLaws.{none_at_fault}
use Rattle.tables.proofs.JudgedRecordLaws.{all_clean}
use Rattle.judging.specs.Judge.{pair_fits, misfit, bad_element, judged}
use Rattle.judging.specs.Acceptance.{Acceptable}
use Rattle.records.proofs.Theorems.{clean-whole, first-each, first-proper}
use Rattle.judging.proofs.TableVerdictLaws.{records_passed, all_fit}
use Rattle.judging.proofs.AcceptedTableLaws.{accepted-elements, accepted-vertices, accepted-count, accepted-long, accepted-clean, accepted-fitting}

-- the elements before one more fit, and all of them fit it
fitting_before : (es : List Element) (x : Element) → T (fitting (es ++ (x ∷ []))) → T (fitting es) × T (every (λ e. fits e x) es)
unfolding fitting
fitting_before [] x h = (tt, tt)
fitting_before (e ∷ es) x h =
    let all = and_left (every (fits e) (es ++ (x ∷ []))) (fitting (es ++ (x ∷ []))) h in
    let rest = fitting_before es x (and_right (every (fits e) (es ++ (x ∷ []))) (fitting (es ++ (x ∷ []))) h) in (
      and_both (every (fits e) es) (fitting es) (every_front (fits e) es (x ∷ []) all) rest.0,
      and_both (fits e x) (every (λ d. fits d x) es) (and_left (fits e x) true (every_rest (fits e) es (x ∷ []) all)) rest.1,
    )

module _ (t : List ℕ) where
  -- every two of the first n elements fit: each pair below n fits
  pub fitting_pairs : (n : ℕ) → T (fitting (first_elements t n)) → (i j : ℕ) → i < j → j < n → T (pair_fits t i j)
  unfolding first_elements pair_fits
  fitting_pairs zero h i j k l = absurd (omega arith)
  fitting_pairs (suc n) h i j k l = go (eqb j n) refl (fitting_pairs n both.0 i j k)
    where
      both : T (fitting (first_elements t n)) × T (every (λ e. fits e (element_at t n)) (first_elements t n))
      both = fitting_before (first_elements t n) (element_at t n) h

      go : (b : Bool) → eqb j n ≡ b → (j < n → T (fits (element_at t i) (element_at t j))) → T (fits (element_at t i) (element_at t j))
      go true e rest =
          let q = eqb-true j n e in
          subst (λ (m : ℕ). T (fits (element_at t i) (element_at t m))) (sym q) (first-each t (λ x. fits x (element_at t n)) n both.1 i (omega arith))
      go false e rest = let q = eqb-false j n e in rest (omega arith)

  -- and none is bad
  none_misfits : (n : ℕ) → T (fitting (first_elements t n)) → bad_element t n ≡ 0
  unfolding bad_element misfit
  none_misfits n h =
      least-none (λ j. ltb 0 (misfit t j)) n λ j l.
      le-ltb 0 (misfit t j)
      (let z : misfit t j ≡ 0 = least-none (λ i. not (pair_fits t i j)) j (λ i k. rw (T_true (pair_fits t i j) (fitting_pairs n h i j k l))) in omega arith)

-- what the page asks is enough
pub acceptable_accepted : (v n : ℕ) (t : List ℕ) → Acceptable v n t → judged v n t ≡ accepted (first_elements t n)
unfolding record_count
acceptable_accepted v n t a =
    (records_passed v n t (first_elements t n) (all_clean v n t a.vertices a.elements (let l = a.long in omega arith) (none_at_fault v t n a.clean))).verdict
    ∙ all_fit t n (first_elements t n) (none_misfits t n a.fit)

-- and is so of every table that is accepted
pub accepted_acceptable : (v n : ℕ) (t : List ℕ) (es : List Element) → judged v n t ≡ accepted es → Acceptable v n t
accepted_acceptable v n t es e = record {
  vertices = accepted-vertices v n t es e;
  elements = accepted-count v n t es e;
  long = accepted-long v n t es e;
  clean = accepted-clean v n t es e;
  fit = subst (λ (l : List Element). T (fitting l)) (accepted-elements v n t es e) (accepted-fitting v n t es e);
}

-- records without a fault hold proper elements
pub clean-proper : (v n : ℕ) (t : List ℕ) → n ≤ element_limit → element_width * n ≤ length t → ((k : ℕ) → k < n → record_finding v (record_at t k) ≡ Ok tt)
    → T (every proper (first_elements t n))
clean-proper v n t few long clean =
    first-proper t n (record { few = few; long = long; whole = λ k h. clean-whole v (record_at t k) (clean k h) })

pub acceptable_proper : (v n : ℕ) (t : List ℕ) → Acceptable v n t → T (every proper (first_elements t n))
acceptable_proper v n t a = clean-proper v n t a.elements a.long a.clean
