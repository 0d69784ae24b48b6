-- `edges::has_edge` meets its contract: the rows of a solid name its edges from both of their ends.
-- Assumes nothing.
use Rattle.std.proofs.Common.{◌∙◌}
use Rattle.edges.proofs.EdgeLaws.{rows_found}
use Rattle.edges.proofs.has_edge.Goals as goal

pub returns : goal.returns
returns c =
    let a = c.args in
    let e = a.element in
    c.any_reaches.ensures ∙ rows_found e.solid c.rows_of.result.now c.rows_of.ensures e.corners.now a.u.0 a.v.0
