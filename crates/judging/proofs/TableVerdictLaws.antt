-- The verdict on a table: what its records leave to its pairs, and what its pairs come to.
-- Assumes nothing.
use mathlib.Core.Path.{◌≡◌, refl, sym, ap, ◌∙◌, subst}
use mathlib.Core.Bool.{Bool, true, false}
use mathlib.Core.List.{List}
use Rattle.std.specs.Prelude.{Result}
use Prim.Native.Nat.{ℕ, ◌+◌, ◌*◌, pred}
use native.Mathlib.Numerals.{add-one}
use native.Mathlib.Omega.{arith}
use lib.Dec.{ltb}
use lib.ListN.{length}
use borrow.Author.Tests.{lt-ltb}
use Rattle.limits.specs.Limits.{element_limit, vertex_limit, element_width}
use Rattle.faults.specs.declared.Fault.TheVariants.{Many, Room}
use Rattle.faults.specs.declared.Refusal.{Refusal}
use Rattle.faults.specs.Refusals.{Verdict, accepted, refused, refuse, refuse_pair, refuse_if, ruled}
use Rattle.faults.proofs.RefusalLaws.{then_if}
use Rattle.solids.specs.Solids.{Element}
use Rattle.records.specs.Record.{record_finding, record_at, first_elements}
use Rattle.tables.specs.JudgedRecords.{fault_in, bad_record, records_judged}
use Rattle.tables.proofs.Theorems.{passed_faultless, passed_elements}
use Rattle.judging.specs.Judge.{bad_element, misfit, pairs_judged, judged}
use Rattle.judging.specs.Judgement.{Recorded, Judging}

-- ---- the records

module _ (v n : ℕ) (t : List ℕ) where
  pub records_refused : (x : Refusal) → records_judged v n t ≡ refused x → judged v n t ≡ refused x
  unfolding judged
  records_refused x e = rw e

  -- records that pass leave the pairs to be judged
  pub records_passed : (es : List Element) → records_judged v n t ≡ accepted es → Recorded v n t
  unfolding judged
  records_passed es e = let h = passed_faultless v n t es e in record {
    verdict = rw (e, passed_elements v n t es e);
    few = h.few;
    table = h.table;
    clean = h.clean;
  }

  -- all tests, one after the other
  pub judged_by_tests : judged v n t
      ≡ refuse_if (ltb vertex_limit v) (refuse Many 0)
      (refuse_if (ltb element_limit n) (refuse Many 0)
      (refuse_if (ltb (length t) (element_width * n)) (refuse Room 0)
      (refuse_if (ltb 0 (bad_record v t n)) (refuse (fault_in (record_finding v (record_at t (pred (bad_record v t n))))) (bad_record v t n))
      (refuse_if (ltb 0 (bad_element t n)) (refuse_pair (bad_element t n) (misfit t (pred (bad_element t n))))
      (accepted (first_elements t n))))))
  unfolding judged records_judged pairs_judged
  judged_by_tests =
      rw (
        then_if (ltb vertex_limit v),
        then_if (ltb element_limit n),
        then_if (ltb (length t) (element_width * n)),
        then_if (ltb 0 (bad_record v t n)),
      )

-- ---- the pairs

module _ (t : List ℕ) (n : ℕ) (es : List Element) where
  pub bad_pair : (j i : ℕ) → bad_element t n ≡ j + 1 → misfit t j ≡ i + 1 → pairs_judged t n es ≡ refused (refuse_pair (j + 1) (i + 1))
  unfolding pairs_judged
  bad_pair j i e f = rw (e, lt-ltb 0 (j + 1) (omega arith), add-one j, f)

  pub all_fit : bad_element t n ≡ 0 → pairs_judged t n es ≡ accepted es
  unfolding pairs_judged
  all_fit e = rw e

  -- what is accepted are the elements
  pub pairs_accepted : (xs : List Element) → pairs_judged t n es ≡ accepted xs → xs ≡ es
  unfolding pairs_judged
  pairs_accepted xs = go (ltb 0 (bad_element t n))
    where
      go : (b : Bool) → refuse_if b (refuse_pair (bad_element t n) (misfit t (pred (bad_element t n)))) (accepted es) ≡ accepted xs → xs ≡ es
      go true e = cc
      go false e = cc

-- records, then pairs: the whole judgement
pub pairs_judging : (v n : ℕ) (t : List ℕ) → Recorded v n t → (r : Result (Unit {0}) Refusal) → r ≡ ruled (pairs_judged t n (first_elements t n)) → Judging v n t r
pairs_judging v n t h r e = go (pairs_judged t n (first_elements t n)) refl e
  where
    go : (x : Verdict (List Element)) → pairs_judged t n (first_elements t n) ≡ x → r ≡ ruled x → Judging v n t r
    go (accepted es) p q =
        subst (Judging v n t) (sym q)
        (record { verdict = h.verdict ∙ p ∙ ap accepted (pairs_accepted t n (first_elements t n) es p); few = h.few; table = h.table; clean = h.clean })
    go (refused y) p q = subst (Judging v n t) (sym q) (h.verdict ∙ p)
