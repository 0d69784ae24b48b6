-- `converting::write_cut` makes the text whole, then tests the output's room, then stores it. Assumes nothing.
use Rattle.std.proofs.Common.{rules}
use Rattle.converting.proofs.ConvertLaws.{left_room, left_stored}
use Rattle.converting.proofs.write_cut.Goals as goal

pub returns-then-output-n : goal.returns-then-output-n
returns-then-output-n c = left_room c.put_mesh-n.ensures c.args.output.now c.if-output-n.true c.at.ensures

pub returns : goal.returns
returns c = left_stored c.put_mesh-n.ensures c.args.output.now c.if-output-n.false (search rules)
