-- An element that is found has a misfit. Assumes nothing.
use Rattle.judging.proofs.MisfitLaws.{pair-found, found-some}
use Rattle.judging.proofs.misfits.bad_pair.Goals as goal

pub returns-in_err-i : goal.returns-in_err-i
returns-in_err-i c = absurd (found-some c.args.table.elements.now c.args.table.count c.in_ok-j.j c.in_ok-j.ensures c.in_err-i.ensures)

pub returns : goal.returns
returns c = pair-found c.args.table.elements.now c.args.table.count c.in_ok-j.j c.in_ok-i.i c.in_ok-j.ensures c.in_ok-i.ensures
