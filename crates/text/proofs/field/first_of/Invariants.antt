-- Invariant: what is said of the rest, stored from there on, makes the whole.
use Rattle.std.proofs.Common.{◌≡◌, ℕ, List, length}
use Rattle.std.specs.Fn.{FnReturnsAt}
use Rattle.text.specs.ReadingLoops.{Says}
use Rattle.text.proofs.FirstLaws.{SaidSoFar}
use Rattle.text.proofs.field.first_of.Given as goal

abbrev pub invariant-loop-place : goal.invariant-loop-place
invariant-loop-place g l =
    (length l.place-items ≡ g.row.N)
    × ((f : List ℕ → g.row.T.Denot) → Says (FnReturnsAt g.F.Fn l.value) f → SaidSoFar f g.row.N l.fn.s l.place-items l.place-index l.rest)
