-- `brine::told::tell` writes the whole array. Assumes nothing.
use Rattle.std.proofs.Common.{rules, length}
use Rattle.brine.proofs.FrontLaws.{told_front}
use Rattle.brine.proofs.told.tell.Goals as goal

pub returns : goal.returns
returns g c = told_front c.of-told.result (length c.args.answer.now) c.of-told.ensures c.requires (search rules)
