-- `converting::output::put_lines` puts the lines of records, one after the other. Invariant: the lines of the first k are put. Assumes nothing.
use Rattle.converting.proofs.PutTextLaws.{Lines}
use Rattle.converting.proofs.output.put_lines.Given as goal

abbrev pub invariant-loop-k : goal.invariant-loop-k
invariant-loop-k g l = Lines (g.L.Lines.line l.records) g.L.Lines.longest (g.L.Lines.count l.records) l.initial.out l.out l.at l.k
