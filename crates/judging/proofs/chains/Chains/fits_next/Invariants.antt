-- `judging::chains::Chains::fits_next` meets its contract. The loop's invariant: the filed elements that hold one of the corners so far are met,
-- and those that hold two of them fit the next one. Assumes nothing.
use Rattle.std.proofs.Common.{◌≡◌, ℕ, ◌*◌, ◌/◌, ◌<◌, true, List}
use Rattle.limits.specs.Limits.{element_width}
use Rattle.judging.specs.declared.chains.Mark.{Mark}
use Rattle.judging.specs.Judge.{pair_fits}
use Rattle.judging.specs.Chained.{holds}
use Rattle.judging.specs.Marks.{met, Seen}
use Rattle.judging.proofs.ChainLaws.{corner_of}
use Rattle.judging.proofs.chains.Chains.fits_next.Given as goal

pub record Passed (t : List ℕ) (j k : ℕ) (marks : List Mark) : Type 0 where
  pub seen : Seen t j marks
  pub once : (a : ℕ) → a < k → (y : ℕ) → y < element_width * j → holds t (corner_of t j a) y ≡ true → met marks (y / element_width) ≡ true
  pub twice : (a b : ℕ) → a < b → b < k → (y z : ℕ) → y < element_width * j → z < element_width * j → y / element_width ≡ z / element_width
      → holds t (corner_of t j a) y ≡ true → holds t (corner_of t j b) z ≡ true → pair_fits t (z / element_width) j ≡ true

abbrev pub invariant-loop-vertex : goal.invariant-loop-vertex
invariant-loop-vertex l = Passed l.fn.self.table l.fn.self.filed l.vertex-index l.marks
