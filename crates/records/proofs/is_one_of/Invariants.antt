-- `records::is_one_of` meets its contract. The loop's invariant: whether the vertex is among those that are left is whether it is among all.
-- Assumes nothing.
use Rattle.std.proofs.Common.{eqb}
use Rattle.laws.specs.Words.{some}
use Rattle.laws.proofs.WordLaws.{Left}
use Rattle.records.proofs.is_one_of.Given as goal

abbrev pub invariant-loop-other : goal.invariant-loop-other
invariant-loop-other l = Left (some (eqb l.v.0)) l.list l.other-index
