-- What an accepted table is: its elements are few, proper and fit, and its records have no fault.
-- And so are the records of a table that is refused with JOIN, for all other tests come before the pairs.
-- Assumes nothing.
use mathlib.Core.Path.{◌≡◌, refl, sym, ◌∙◌}
use mathlib.Core.List.{List}
use Prim.Native.Nat.{ℕ, ◌*◌, pred, ◌≤◌, ◌<◌}
use native.Mathlib.Omega.{arith}
use lib.Dec.{T, ltb}
use lib.ListN.{length}
use borrow.Author.Tests.{ltb-false}
use Rattle.limits.specs.Limits.{element_limit, vertex_limit, element_width}
use Rattle.laws.specs.Words.{every}
use Rattle.faults.specs.declared.Fault.TheVariants.{Join}
use Rattle.std.specs.Prelude.{Ok}
use Rattle.faults.specs.declared.Refusal.{Refusal}
use Rattle.faults.specs.Refusals.{Verdict, accepted, refused, refuse_pair}
use Rattle.faults.proofs.RefusalLaws.{Passed, passed, not-accepted}
use Rattle.solids.specs.Solids.{Element}
use Rattle.solids.specs.Fit.{proper, fitting}
use Rattle.records.specs.Record.{record_finding, record_at, first_elements}
use Rattle.records.proofs.Theorems.{first-length, first-proper}
use Rattle.tables.specs.JudgedRecords.{bad_record, records_judged}
use Rattle.tables.proofs.CleanRecordLaws.{record_clean}
use Rattle.tables.proofs.Theorems.{no_join}
use Rattle.judging.specs.Judge.{bad_element, misfit, pairs_judged, judged}
use Rattle.judging.specs.Judgement.{Recorded}
use Rattle.judging.proofs.TableVerdictLaws.{records_refused, records_passed}
use Rattle.judging.proofs.MisfitLaws.{none_bad_fitting}

module _ (v n : ℕ) (t : List ℕ) where
  -- the records of a table that is refused for a pair
  pub join_recorded : (x : Refusal) → judged v n t ≡ refused x → x.fault ≡ Join → Recorded v n t
  join_recorded x e j = go (records_judged v n t) refl
    where
      go : (y : Verdict (List Element)) → records_judged v n t ≡ y → Recorded v n t
      go (accepted es) q = records_passed v n t es q
      go (refused y) q =
          let r = records_refused v n t y q in
          let f : y.fault ≡ x.fault = cc in
          absurd (no_join v n t y q (f ∙ j))

  module _ (es : List Element) (e : judged v n t ≡ accepted es) where
    pub accepted_recorded : Recorded v n t
    accepted_recorded = go (records_judged v n t) refl
      where
        go : (y : Verdict (List Element)) → records_judged v n t ≡ y → Recorded v n t
        go (accepted xs) q = records_passed v n t xs q
        go (refused x) q = absurd (not-accepted x es (sym (records_refused v n t x q) ∙ e))

    p₅ : Passed (ltb 0 (bad_element t n)) (accepted (first_elements t n)) (accepted es)
    unfolding pairs_judged
    p₅ =
        let r = refuse_pair (bad_element t n) (misfit t (pred (bad_element t n))) in
        passed (ltb 0 (bad_element t n)) r (accepted (first_elements t n)) (accepted es) (not-accepted r es) (sym accepted_recorded.verdict ∙ e)

    no_bad_element : bad_element t n ≡ 0
    no_bad_element = let h = ltb-false 0 (bad_element t n) p₅.no in omega arith

    pub no_bad_record : bad_record v t n ≡ 0
    no_bad_record = accepted_recorded.clean

    pub accepted-vertices : v ≤ vertex_limit
    accepted-vertices = accepted_recorded.few

    pub accepted-count : n ≤ element_limit
    accepted-count = accepted_recorded.table.few

    pub accepted-long : element_width * n ≤ length t
    accepted-long = accepted_recorded.table.long

    pub accepted-clean : (k : ℕ) → k < n → record_finding v (record_at t k) ≡ Ok tt
    accepted-clean = record_clean v t n no_bad_record

    pub accepted-elements : es ≡ first_elements t n
    accepted-elements = let q = p₅.rest in cc

    pub accepted-few : length es ≤ 1024
    accepted-few = rw (accepted-elements, first-length t n) accepted-count

    pub accepted-proper : T (every proper es)
    accepted-proper = rw accepted-elements (first-proper t n accepted_recorded.table)

    pub accepted-fitting : T (fitting es)
    accepted-fitting = rw accepted-elements (none_bad_fitting t n no_bad_element)
