-- `judging::chains::Chains::chain_fits` meets its contract. The loop's invariant: x is a place of the vertex or 0, and the elements that hold the vertex
-- behind it are met, and fit the next one where they were met before. The measure is x. Assumes nothing.
use Rattle.judging.specs.Marks.{Seen}
use Rattle.judging.proofs.ChainLaws.{On}
use Rattle.judging.proofs.chains.Chains.chain_fits.Given as goal

abbrev pub invariant-loop-x : goal.invariant-loop-x
invariant-loop-x l = On l.self-inside.table.elements.now l.self-inside.filed l.fn.vertex.0 l.fn.marks l.marks l.x × Seen l.self-inside.table.elements.now l.self-inside.filed l.marks

abbrev pub decreases-loop-x : goal.decreases-loop-x
decreases-loop-x l = l.x
