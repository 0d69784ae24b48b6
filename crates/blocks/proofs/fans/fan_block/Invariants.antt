-- `blocks::fans::fan_block` meets its contract. The loop's invariant: the tetrahedra of the faces from i on, in order.
-- Assumes nothing.
use Rattle.std.proofs.Common.{◌≡◌}
use Rattle.solids.specs.Cut.{in_order}
use Rattle.blocks.proofs.FanLaws.{fan_from}
use Rattle.blocks.proofs.fans.fan_block.Given as goal

abbrev pub invariant-loop-i : goal.invariant-loop-i
invariant-loop-i l = l.block ≡ in_order (fan_from l.element.solid l.element.corners.now l.low.0 l.i)
