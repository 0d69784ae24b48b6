-- A table in which no record has a fault: its records are whole, and their vertex numbers are between 1 and the limit.
-- Assumes nothing.
use mathlib.Core.Path.{◌≡◌, refl, ap, subst}
use mathlib.Core.Bool.{false}
use mathlib.Core.List.{List}
use Prim.Native.Nat.{ℕ, ◌*◌, ◌≤◌, ◌<◌}
use lib.Dec.{T}
use lib.ListN.{length}
use Rattle.limits.specs.Limits.{element_limit, element_width}
use Rattle.laws.specs.Words.{every}
use Rattle.laws.proofs.SearchLaws.{least_all, least-none}
use Rattle.std.specs.Prelude.{Result, Ok, Err}
use Rattle.faults.specs.declared.Fault.{Fault}
use Rattle.records.specs.Record.{used_of, record_finding, record_at}
use Rattle.records.specs.WholeRecords.{is_number, WholeTable}
use Rattle.records.proofs.Theorems.{clean-whole, clean_faultless}
use Rattle.tables.specs.JudgedRecords.{is_fault, bad_record}

-- a finding that is no fault is clean
no_fault : (f : Result (Unit {0}) Fault) → is_fault f ≡ false → f ≡ Ok tt
no_fault (Ok u) e = refl
no_fault (Err f) e = absurd (subst T e tt)

module _ (limit : ℕ) (t : List ℕ) (n : ℕ) (none : bad_record limit t n ≡ 0) where
  pub record_clean : (k : ℕ) → k < n → record_finding limit (record_at t k) ≡ Ok tt
  unfolding bad_record
  record_clean k h =
      no_fault (record_finding limit (record_at t k)) (least_all (λ j. is_fault (record_finding limit (record_at t j))) n none k h)

  pub records_whole : n ≤ element_limit → element_width * n ≤ length t → WholeTable t n
  records_whole few long = record {
    few = few;
    long = long;
    whole = λ k h. clean-whole limit (record_at t k) (record_clean k h);
  }

  pub records_inside : (k : ℕ) → k < n → T (every (is_number limit) (used_of (record_at t k)))
  records_inside k h = (clean_faultless limit (record_at t k) (record_clean k h)).inside

-- and back: where each record is clean, none is bad
pub none_at_fault : (limit : ℕ) (t : List ℕ) (n : ℕ) → ((k : ℕ) → k < n → record_finding limit (record_at t k) ≡ Ok tt) → bad_record limit t n ≡ 0
unfolding bad_record
none_at_fault limit t n h = least-none (λ k. is_fault (record_finding limit (record_at t k))) n (λ k l. ap is_fault (h k l))
