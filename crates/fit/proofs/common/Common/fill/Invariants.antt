-- `fit::common::Common::fill` meets its contract. The loop's invariant: the corners so far that are among the others are kept. Assumes nothing.
use Rattle.std.proofs.Common.{◌≡◌, take}
use Rattle.laws.specs.Words.{keep, among}
use Rattle.fit.proofs.common.Common.fill.Given as goal

abbrev pub invariant-loop-vertex : goal.invariant-loop-vertex
invariant-loop-vertex l = l.self ≡ keep (λ v. among v l.neighbour.corners.now) (take l.vertex-index l.element.corners.now)
