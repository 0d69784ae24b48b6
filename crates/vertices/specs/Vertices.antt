-- The vertex table: ROOM for three numbers a vertex, then RANGE with the first vertex beyond the limits.
use Rattle.std.specs.Prelude.{◌≡◌, true, not, List, ℕ, ◌+◌, ◌*◌, ◌≤◌, ◌<◌, ltb, ℤ, length}
use Rattle.limits.specs.Limits.{vertex_width}
use Rattle.laws.specs.Searches.{least}
use Rattle.faults.specs.declared.Fault.TheVariants.{Room, Range}
use Rattle.faults.specs.Refusals.{Verdict, accepted, refuse, refuse_if}
use Rattle.volume.specs.Volume.{point_in_range, point_at}

-- the number, from 1, of the first of n vertices with a coordinate beyond the limits, or 0
unfoldable pub bad_point : List ℤ → ℕ → ℕ
bad_point table n = least (λ k. not (point_in_range (point_at table (k + 1)))) n

-- what a table of n vertices is judged to be: itself, or the first fault
unfoldable pub vertices_judged : List ℤ → ℕ → Verdict (List ℤ)
vertices_judged table n =
    refuse_if (ltb (length table) (vertex_width * n)) (refuse Room 0)
    (let k = bad_point table n in refuse_if (ltb 0 k) (refuse Range k)
    (accepted table))

-- n vertices stand in the table, and each is within the limits
pub record Ranged (table : List ℤ) (n : ℕ) : Type 0 where
  pub long : vertex_width * n ≤ length table
  pub each : (k : ℕ) → k < n → point_in_range (point_at table (k + 1)) ≡ true
