-- `blocks::block::Block::add` meets its contract. The loop's invariant: what the keys will be once the key in hand has gone through the rest.
-- Assumes nothing.
use Rattle.std.proofs.Common.{◌≡◌, ◌++◌, take, drop}
use Rattle.blocks.proofs.InsertLaws.{swept}
use Rattle.blocks.proofs.block.Block.add.Given as goal

abbrev pub invariant-loop-other : goal.invariant-loop-other
invariant-loop-other l = swept l.initial.key l.initial.other-items ≡ take l.other-index l.other-items ++ swept l.key (drop l.other-index l.other-items)
