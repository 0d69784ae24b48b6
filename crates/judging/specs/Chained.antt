-- The places of a table by their vertices, as the private search for misfits files them.
use Rattle.std.specs.Prelude.{◌≡◌, Bool, cond, ◌&&◌, List, ℕ, zero, suc, ◌+◌, ◌*◌, ◌%◌, ◌≤◌, ◌<◌, eqb, ltb, length, get_or}
use Rattle.limits.specs.Limits.{element_limit, vertex_limit, element_width}
use Rattle.records.specs.WholeRecords.{WholeTable}

-- n whole records stand in the table, and each vertex number is at most 4,096
pub record Numbered (t : List ℕ) (n : ℕ) : Type 0 where
  pub table : WholeTable t n
  pub low : (x : ℕ) → x < element_width * n → 0 < x % element_width → get_or t x 0 ≤ vertex_limit

-- index x of a table is a place and no kind, and the vertex v stands there
unfoldable pub holds : List ℕ → ℕ → ℕ → Bool
holds t v x = ltb 0 (x % element_width) && eqb (get_or t x 0) v

-- the greatest number below m that passes the test, or 0 where none does
unfoldable pub latest : (ℕ → Bool) → ℕ → ℕ
latest p zero = 0
latest p (suc m) = cond (p m) m (latest p m)

-- of the places before index m, `heads` has the last of each vertex, and `links` for each place the one before it of the same vertex
pub record Filed (t : List ℕ) (m : ℕ) (heads links : List ℕ) : Type 0 where
  pub wide : length heads ≡ vertex_limit + 1
  pub long : length links ≡ element_width * element_limit
  pub first : (v : ℕ) → v ≤ vertex_limit → get_or heads v 0 ≡ latest (holds t v) m
  pub next : (x : ℕ) → x < m → 0 < x % element_width → get_or links x 0 ≡ latest (holds t (get_or t x 0)) x

-- what chains are to who uses them: a table, how many elements it has, and how many of them are filed
pub record Chained : Type 0 where
  pub table : List ℕ
  pub count : ℕ
  pub filed : ℕ
