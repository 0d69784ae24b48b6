-- `blocks::filling::put_block` meets its contract: the block of the record, and its keys put where they belong.
-- Assumes nothing.
use Rattle.std.proofs.Common.{◌≡◌, ap, ◌∙◌, map, length, arith}
use lib.ListN.{length-map}
use Rattle.laws.specs.Lent.{placed}
use Rattle.solids.specs.Cut.{cut}
use Rattle.records.specs.Record.{element_of}
use Rattle.tets.specs.Tets.{key_of}
use Rattle.blocks.proofs.FillLaws.{put-placed}
use Rattle.blocks.proofs.RecordCutLaws.{cut-few}
use Rattle.blocks.proofs.filling.put_block.Goals as goal

pub returns : goal.returns
returns c =
    let ts = cut (element_of c.args.numbers.now) in
    let keys = c.as_slice-tets.ensures ∙ ap (map key_of) c.block_of-block.ensures in
    let count : length c.as_slice-tets.result.now ≡ length ts = ap length keys ∙ length-map ts key_of in
    record {
      stored = record {
        count = count;
        output = put-placed c.args.keys.now c.args.at c.copy_from_slice.new.self (omega (arith, ap length c.copy_from_slice.ensures.after)) ∙ ap (placed c.args.keys.now c.args.at) (c.copy_from_slice.ensures.after ∙ keys);
      };
      few = omega (arith, count, cut-few c.args.numbers.now c.requires.whole);
    }
