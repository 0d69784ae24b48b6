-- The verdict on the records of a table, test by test, in the page's order; what an acceptance tells, and that no refusal is JOIN.
-- Assumes nothing.
use mathlib.Core.Path.{◌≡◌, ap, subst}
use mathlib.Core.Bool.{Bool, true, false, cond, not, ◌&&◌}
use mathlib.Core.List.{List}
use Prim.Native.Nat.{ℕ, suc, ◌+◌, ◌*◌, pred, ◌≤◌, ◌<◌}
use native.Mathlib.Numerals.{add-one}
use native.Mathlib.Omega.{arith}
use lib.Dec.{eqb, ltb}
use lib.ListN.{length}
use borrow.Author.Tests.{lt-ltb, le-ltb, ltb-false}
use Rattle.limits.specs.Limits.{element_limit, vertex_limit, element_width}
use Rattle.laws.specs.Words.{some, distinct}
use Rattle.laws.proofs.SearchLaws.{least_start, least_more, least_found}
use Rattle.faults.specs.declared.Fault.{Fault}
use Rattle.faults.specs.declared.Fault.TheVariants as fault
use Rattle.std.specs.Prelude.{Ok, Err}
use Rattle.faults.specs.declared.Refusal.{Refusal}
use Rattle.faults.specs.Refusals.{number_of, Verdict, accepted, refused, refuse, refuse_if}
use Rattle.faults.proofs.RefusalLaws.{Passed, passed, not-accepted}
use Rattle.solids.specs.Solids.{Element}
use Rattle.records.specs.Record.{kind_of, used_of, spare_of, is_kind, stray_vertex, not_zero, record_finding, record_count, record_at, first_elements}
use Rattle.tables.specs.JudgedRecords.{is_fault, fault_in, bad_record, records_judged, FaultlessTable}
use Rattle.tables.proofs.CleanRecordLaws.{records_whole}

-- ---- the search for the first record with a fault

module _ (v : ℕ) (t : List ℕ) where
  pub bad_record_start : bad_record v t 0 ≡ 0
  unfolding bad_record
  bad_record_start = least_start (λ k. is_fault (record_finding v (record_at t k)))

  pub bad_record_more : (k : ℕ) → bad_record v t k ≡ 0 → record_finding v (record_at t k) ≡ Ok tt → bad_record v t (k + 1) ≡ 0
  unfolding bad_record
  bad_record_more k h e = least_more (λ k. is_fault (record_finding v (record_at t k))) h (ap is_fault e)

  pub bad_record_found : (k n : ℕ) {f : Fault} → bad_record v t k ≡ 0 → k < n → record_finding v (record_at t k) ≡ Err f → bad_record v t n ≡ suc k
  unfolding bad_record
  bad_record_found k n h l e = least_found (λ k. is_fault (record_finding v (record_at t k))) h (ap is_fault e) l

-- ---- the tests

module _ (v n : ℕ) (t : List ℕ) where
  pub too_many_vertices : vertex_limit < v → records_judged v n t ≡ refused (refuse fault.Many 0)
  unfolding records_judged
  too_many_vertices h = rw (lt-ltb vertex_limit v h)

  module _ (a : v ≤ vertex_limit) where
    pub too_many_elements : element_limit < n → records_judged v n t ≡ refused (refuse fault.Many 0)
    unfolding records_judged
    too_many_elements h = rw (le-ltb vertex_limit v a, lt-ltb element_limit n h)

    module _ (b : n ≤ element_limit) where
      pub too_short : record_count t < n → records_judged v n t ≡ refused (refuse fault.Room 0)
      unfolding records_judged record_count
      too_short h = rw (le-ltb vertex_limit v a, le-ltb element_limit n b, lt-ltb (length t) (element_width * n) (omega arith))

      module _ (c : n ≤ record_count t) where
        long : element_width * n ≤ length t
        unfolding record_count
        long = omega arith

        pub record_refused : (k : ℕ) {f : Fault} → bad_record v t k ≡ 0 → k < n → record_finding v (record_at t k) ≡ Err f → records_judged v n t ≡ refused (refuse f (k + 1))
        unfolding records_judged
        record_refused k h l e =
            rw (le-ltb vertex_limit v a, le-ltb element_limit n b, le-ltb (length t) (element_width * n) long, bad_record_found v t k n h l e, lt-ltb 0 (suc k) (omega arith), e, add-one k)

        pub all_clean : bad_record v t n ≡ 0 → records_judged v n t ≡ accepted (first_elements t n)
        unfolding records_judged
        all_clean d = rw (le-ltb vertex_limit v a, le-ltb element_limit n b, le-ltb (length t) (element_width * n) long, d)

-- what the code's loop and its returns need
pub ruleset judging = (bad_record_start, bad_record_more, too_many_vertices, too_many_elements, too_short, record_refused, all_clean)

-- ---- an acceptance

module _ (v n : ℕ) (t : List ℕ) where
  k : ℕ
  k = bad_record v t n

  records : Verdict (List Element)
  unfolding k
  records = refuse_if (ltb 0 k) (refuse (fault_in (record_finding v (record_at t (pred k)))) k) (accepted (first_elements t n))

  lengths : Verdict (List Element)
  unfolding records
  lengths = refuse_if (ltb (length t) (element_width * n)) (refuse fault.Room 0) records

  elements : Verdict (List Element)
  unfolding lengths
  elements = refuse_if (ltb element_limit n) (refuse fault.Many 0) lengths

  module _ (es : List Element) (e : records_judged v n t ≡ accepted es) where
    p₁ : Passed (ltb vertex_limit v) elements (accepted es)
    unfolding records_judged elements lengths records k
    p₁ = passed (ltb vertex_limit v) (refuse fault.Many 0) elements (accepted es) (not-accepted (refuse fault.Many 0) es) e

    p₂ : Passed (ltb element_limit n) lengths (accepted es)
    unfolding elements
    p₂ = passed (ltb element_limit n) (refuse fault.Many 0) lengths (accepted es) (not-accepted (refuse fault.Many 0) es) p₁.rest

    p₃ : Passed (ltb (length t) (element_width * n)) records (accepted es)
    unfolding lengths
    p₃ = passed (ltb (length t) (element_width * n)) (refuse fault.Room 0) records (accepted es) (not-accepted (refuse fault.Room 0) es) p₂.rest

    p₄ : Passed (ltb 0 k) (accepted (first_elements t n)) (accepted es)
    unfolding records
    p₄ =
        let r = refuse (fault_in (record_finding v (record_at t (pred k)))) k in
        passed (ltb 0 k) r (accepted (first_elements t n)) (accepted es) (not-accepted r es) p₃.rest

    no-bad : bad_record v t n ≡ 0
    unfolding k
    no-bad = let h = ltb-false 0 k p₄.no in omega arith

    -- each record is whole and has no fault, and the elements are those of the records
    pub passed_faultless : FaultlessTable v n t
    passed_faultless = record {
      few = ltb-false vertex_limit v p₁.no;
      table = records_whole v t n no-bad (ltb-false element_limit n p₂.no) (ltb-false (length t) (element_width * n) p₃.no);
      clean = no-bad;
    }

    pub passed_elements : es ≡ first_elements t n
    passed_elements = let q = p₄.rest in cc

-- ---- a refusal is not JOIN

-- an acceptance, or a refusal with a fault before JOIN in the page's table
abbrev Early : Verdict (List Element) → Type 0
Early (accepted es) = Unit {0}
Early (refused r) = number_of r.fault < 14

early_if : (b : Bool) (r : Refusal) (next : Verdict (List Element)) → number_of r.fault < 14 → Early next → Early (refuse_if b r next)
early_if true r next h l = h
early_if false r next h l = l

-- what is found at a record is such a fault
found_early : (limit : ℕ) (r : List ℕ) → number_of (fault_in (record_finding limit r)) < 14
unfolding record_finding
found_early limit r =
    go (not (eqb (length r) element_width && is_kind (kind_of r))) (some (stray_vertex limit) (used_of r)) (some not_zero (spare_of r)) (not (distinct (used_of r)))
  where
    go : (a b c d : Bool)
        → number_of (fault_in (cond a (Err fault.Kind) (cond b (Err fault.Vertex) (cond c (Err fault.Spare) (cond d (Err fault.Repeat) (Ok tt)))))) < 14
    go true b c d = omega arith
    go false true c d = omega arith
    go false false true d = omega arith
    go false false false true = omega arith
    go false false false false = omega arith

module _ (v n : ℕ) (t : List ℕ) where
  judged-early : Early (records_judged v n t)
  unfolding records_judged
  judged-early =
      let k = bad_record v t n in
      early_if (ltb vertex_limit v) (refuse fault.Many 0) _ (omega arith)
      (early_if (ltb element_limit n) (refuse fault.Many 0) _ (omega arith)
      (early_if (ltb (length t) (element_width * n)) (refuse fault.Room 0) _ (omega arith)
      (early_if (ltb 0 k) (refuse (fault_in (record_finding v (record_at t (pred k)))) k) (accepted (first_elements t n)) (found_early v (record_at t (pred k))) tt)))

  pub no_join : (x : Refusal) → records_judged v n t ≡ refused x → x.fault ≡ fault.Join → ⊥
  no_join x e j =
      let h : number_of x.fault < 14 = subst Early e judged-early in
      let q : number_of x.fault ≡ 14 = ap number_of j in
      omega arith
