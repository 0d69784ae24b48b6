-- With no element filed, no place is. Assumes nothing.
use Rattle.judging.proofs.ChainLaws.{filed-start}
use Rattle.judging.proofs.chains.Chains.new.Goals as goal

pub invariant_of-result : goal.invariant_of-result
invariant_of-result c = filed-start c.args.table.elements.now
