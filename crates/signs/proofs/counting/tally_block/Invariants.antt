-- `signs::counting::tally_block` meets its contract. The loop's invariant: the tetrahedra of the keys so far are counted. Assumes nothing.
use Rattle.std.proofs.Common.{map, take}
use Rattle.tets.specs.Tets.{keyed}
use Rattle.signs.specs.SignLoops.{Tallied}
use Rattle.signs.proofs.counting.tally_block.Given as goal

abbrev pub invariant-loop-key : goal.invariant-loop-key
invariant-loop-key l = Tallied l.vertices (map keyed (take l.key-index l.block)) l.tally
