-- What the page asks of a table for judging to accept it.
use Rattle.std.specs.Prelude.{◌≡◌, List, ℕ, ◌*◌, ◌≤◌, ◌<◌, T, length, Ok}
use Rattle.limits.specs.Limits.{element_limit, vertex_limit, element_width}
use Rattle.solids.specs.Fit.{fitting}
use Rattle.records.specs.Record.{record_finding, record_at, first_elements}

-- at most 4,096 vertices, at most 1,024 elements, room for their records, no record with a fault, and every two elements fit
pub record Acceptable (v n : ℕ) (t : List ℕ) : Type 0 where
  pub vertices : v ≤ vertex_limit
  pub elements : n ≤ element_limit
  pub long : element_width * n ≤ length t
  pub clean : (k : ℕ) → k < n → record_finding v (record_at t k) ≡ Ok tt
  pub fit : T (fitting (first_elements t n))
