-- `blocks::lowest::lowest_place` meets its contract. The loop's invariant: of the numbers before i, the first of the lowest.
-- Assumes nothing.
use Rattle.std.proofs.Common.{◌≡◌, get_or}
use Rattle.std.specs.List.{IsFirstBest}
use Rattle.blocks.proofs.LowestPlaceLaws.{below}
use Rattle.blocks.proofs.lowest.lowest_place.Given as goal

abbrev pub invariant-loop-i : goal.invariant-loop-i
invariant-loop-i l = record {
  best : IsFirstBest below l.corners l.i l.place;
  number : l.lowest ≡ get_or l.corners l.place 0;
}
