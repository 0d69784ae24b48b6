-- Three different vertices are no edge. Assumes nothing.
use Rattle.std.proofs.Common.{◌∙◌, ap, not, arith}
use Rattle.records.specs.Elements.{seen}
use Rattle.fit.proofs.TwoEndsLaws.{apart_no_edge}
use Rattle.fit.proofs.Pair.share_edge.Goals as goal

pub returns-else-not-are_apart : goal.returns-else-not-are_apart
returns-else-not-are_apart c =
    let a = c.args in
    ap not c.if-not-are_apart.false
    ∙ apart_no_edge a.vertices.now (omega arith) (seen a.self.element) (seen a.self.neighbour) c.are_apart.ensures c.if-not-are_apart.false
