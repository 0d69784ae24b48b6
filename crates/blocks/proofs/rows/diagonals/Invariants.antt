-- `blocks::rows::diagonals` meets its contract. The loop's invariant: the choice of the faces from i on.
-- Assumes nothing.
use Rattle.std.proofs.Common.{◌≡◌, drop}
use Rattle.solids.specs.declared.Solid.TheVariants.{Hexahedron}
use Rattle.solids.specs.Solids.{element, faces_of}
use Rattle.blocks.specs.BlockLoops.{choice}
use Rattle.blocks.proofs.rows.diagonals.Given as goal

abbrev pub invariant-loop-i : goal.invariant-loop-i
invariant-loop-i l = l.choice ≡ choice l.low.0 l.high.0 (drop l.i (faces_of (element Hexahedron l.corners)))
