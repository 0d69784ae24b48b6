-- The numbers of a pair, from 1, are those that the page asks for. Assumes nothing.
use Rattle.std.proofs.Common.{sym, ap, arith}
use Rattle.faults.specs.Refusals.{ruled}
use Rattle.records.specs.Record.{first_elements}
use Rattle.judging.proofs.TableVerdictLaws.{bad_pair}
use Rattle.judging.proofs.pairs.judge_pairs.Goals as goal

pub overflow_add-result-in-Some : goal.overflow_add-result-in-Some
overflow_add-result-in-Some c = omega (arith, c.in-Some.ensures.early, c.in-Some.ensures.inside)

pub returns-in-Some : goal.returns-in-Some
returns-in-Some c =
    let t = c.args.table.elements.now in
    let n = c.args.table.count in
    sym (ap ruled (bad_pair t n (first_elements t n) c.in-Some.j c.in-Some.i c.in-Some.ensures.element c.in-Some.ensures.lowest))
