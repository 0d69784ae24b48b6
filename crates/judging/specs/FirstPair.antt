-- What the private search for a pair that does not fit finds.
use Rattle.std.specs.Prelude.{◌≡◌, List, ℕ, suc, ◌+◌, ◌<◌, Option, Some, None}
use Rattle.judging.specs.Judge.{misfit, bad_element}

-- an index as its number from 1, or 0 where there is none
abbrev pub from_one : Option ℕ → ℕ
from_one None = 0
from_one (Some i) = suc i

-- j is the lowest of n elements that has a misfit, and i its lowest
pub record BadPair (t : List ℕ) (n j i : ℕ) : Type 0 where
  pub inside : j < n
  pub early : i < j
  pub element : bad_element t n ≡ j + 1
  pub lowest : misfit t j ≡ i + 1
