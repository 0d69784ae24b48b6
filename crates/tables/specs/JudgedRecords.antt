-- Judging the records of a table: MANY for vertices, then elements; ROOM for the element table; each element in order: KIND, VERTEX, SPARE, REPEAT.
use Rattle.std.specs.Prelude.{Bool, true, false, List, ◌≡◌, ℕ, ◌*◌, pred, ◌≤◌, ltb, length, Result, Ok, Err}
use Rattle.limits.specs.Limits.{vertex_limit, element_limit, element_width}
use Rattle.laws.specs.Searches.{least}
use Rattle.faults.specs.declared.Fault.{Fault}
use Rattle.faults.specs.declared.Fault.TheVariants.{Many, Room, Kind}
use Rattle.faults.specs.Refusals.{Verdict, accepted, refuse, refuse_if}
use Rattle.solids.specs.Solids.{Element}
use Rattle.records.specs.Record.{record_finding, record_at, first_elements}
use Rattle.records.specs.WholeRecords.{WholeTable}

-- a finding is a fault
abbrev pub is_fault : Result (Unit {0}) Fault → Bool
is_fault (Ok u) = false
is_fault (Err f) = true

-- the fault that was found
abbrev pub fault_in : Result (Unit {0}) Fault → Fault
fault_in (Ok u) = Kind
fault_in (Err f) = f

-- the number, from 1, of the first of n elements whose record has a fault, or 0
unfoldable pub bad_record : ℕ → List ℕ → ℕ → ℕ
bad_record limit t n = least (λ k. is_fault (record_finding limit (record_at t k))) n

-- what the records of a table are judged to be: its elements, or the first fault
unfoldable pub records_judged : (vertex_count element_count : ℕ) → List ℕ → Verdict (List Element)
records_judged v n t =
    refuse_if (ltb vertex_limit v) (refuse Many 0)
    (refuse_if (ltb element_limit n) (refuse Many 0)
    (refuse_if (ltb (length t) (element_width * n)) (refuse Room 0)
    (let k = bad_record v t n in refuse_if (ltb 0 k) (refuse (fault_in (record_finding v (record_at t (pred k)))) k)
    (accepted (first_elements t n)))))

-- at most 4,096 vertices, and n whole records none of which has a fault
pub record FaultlessTable (v n : ℕ) (t : List ℕ) : Type 0 where
  pub few : v ≤ vertex_limit
  pub table : WholeTable t n
  pub clean : bad_record v t n ≡ 0
