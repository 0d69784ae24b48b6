-- What judging tells of a table; proofs/JudgeAnswerLaws.antt says that the entry's answer tells it.
use Rattle.std.specs.Prelude.{◌≡◌, List, ℕ, ◌≤◌, Result, Ok, Err}
use Rattle.limits.specs.Limits.{vertex_limit}
use Rattle.faults.specs.declared.Refusal.{Refusal}
use Rattle.faults.specs.Refusals.{accepted, refused}
use Rattle.records.specs.Record.{first_elements}
use Rattle.records.specs.WholeRecords.{WholeTable}
use Rattle.tables.specs.JudgedRecords.{bad_record}
use Rattle.judging.specs.Judge.{pairs_judged, judged}

-- a table of whole records, none of which has a fault: its pairs are left to be judged
pub record Recorded (v n : ℕ) (t : List ℕ) : Type 0 where
  pub verdict : judged v n t ≡ pairs_judged t n (first_elements t n)
  pub few : v ≤ vertex_limit
  pub table : WholeTable t n
  pub clean : bad_record v t n ≡ 0

-- a table that is accepted: its elements, its records are whole, and none has a fault
pub record Accepted (v n : ℕ) (t : List ℕ) : Type 0 where
  pub verdict : judged v n t ≡ accepted (first_elements t n)
  pub few : v ≤ vertex_limit
  pub table : WholeTable t n
  pub clean : bad_record v t n ≡ 0

-- the whole judgement: accepted, or the page's refusal
abbrev pub Judging : ℕ → ℕ → List ℕ → Result (Unit {0}) Refusal → Type 0
Judging v n t (Ok u) = Accepted v n t
Judging v n t (Err r) = judged v n t ≡ refused r
