-- What is promised of judging the records of a table, in the words of specs/ alone. A reader starts here.
-- Assumes nothing.
use mathlib.Core.Path.{◌≡◌, sym, ◌∙◌}
use mathlib.Core.List.{List}
use Prim.Native.Nat.{ℕ}
use Rattle.faults.specs.declared.Fault.TheVariants.{Join}
use Rattle.faults.specs.declared.Refusal.{Refusal}
use Rattle.std.specs.Prelude.{Result}
use Rattle.faults.specs.Refusals.{accepted, refused, ruled}
use Rattle.solids.specs.Solids.{Element}
use Rattle.records.specs.Record.{first_elements}
use Rattle.tables.specs.JudgedRecords.{records_judged, FaultlessTable}
use Rattle.tables.proofs.JudgedRecordLaws as JudgedRecordLaws

-- `judge_records`: two answers that the contract allows are equal
pub judge_records_unique : (v n : ℕ) (t : List ℕ) (r s : Result (Unit {0}) Refusal) → r ≡ ruled (records_judged v n t) → s ≡ ruled (records_judged v n t) → r ≡ s
judge_records_unique v n t r s e f = e ∙ sym f

-- where the records pass they are whole and without a fault, and the elements are theirs
pub passed_faultless : (v n : ℕ) (t : List ℕ) (es : List Element) → records_judged v n t ≡ accepted es → FaultlessTable v n t
passed_faultless = JudgedRecordLaws.passed_faultless

pub passed_elements : (v n : ℕ) (t : List ℕ) (es : List Element) → records_judged v n t ≡ accepted es → es ≡ first_elements t n
passed_elements = JudgedRecordLaws.passed_elements

-- no record is refused with JOIN
pub no_join : (v n : ℕ) (t : List ℕ) (x : Refusal) → records_judged v n t ≡ refused x → x.fault ≡ Join → ⊥
no_join = JudgedRecordLaws.no_join
