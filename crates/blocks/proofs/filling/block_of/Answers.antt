-- `blocks::filling::block_of` meets its contract: what is not a hexahedron has corners, and at most six tetrahedra in its fan.
-- Assumes nothing.
use Rattle.blocks.proofs.RecordCutLaws.{is_cornered, fan_few}
use Rattle.blocks.proofs.filling.block_of.Goals as goal

pub fan_block-requires : goal.fan_block-requires
fan_block-requires c =
    let r = c.args.numbers.now in
    record { cornered = is_cornered r c.requires c.of-element.ensures; few = fan_few r c.requires c.of-element.ensures c.in_default.not-Hexahedron }
