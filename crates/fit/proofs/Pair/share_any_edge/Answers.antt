-- The vertices are at most two different ones, and these are asked of both elements. Assumes nothing.
use Rattle.std.proofs.Common.{◌≡◌, ◌∙◌, get_or}
use Rattle.records.specs.Elements.{seen}
use Rattle.fit.specs.SetLoops.{other_than}
use Rattle.fit.proofs.TwoEndsLaws.{other_or, no_ends, ends_of_both}
use Rattle.fit.proofs.Pair.share_any_edge.Goals as goal

pub returns-then-all_among : goal.returns-then-all_among
returns-then-all_among c =
    let a = c.args in
    let other : c.unwrap_or-v.result.0 ≡ other_than (get_or a.vertices.now 0 0) a.vertices.now = other_or _ a.vertices.now c.other_than.result c.other_than.ensures c.unwrap_or-v.ensures in
    ends_of_both a.vertices.now c.requires (seen a.self.element) (seen a.self.neighbour) other c.all_among.ensures c.if-all_among.true c.has_edge.ensures

pub returns-else-all_among : goal.returns-else-all_among
returns-else-all_among c =
    let a = c.args in
    let other : c.unwrap_or-v.result.0 ≡ other_than (get_or a.vertices.now 0 0) a.vertices.now = other_or _ a.vertices.now c.other_than.result c.other_than.ensures c.unwrap_or-v.ensures in
    c.if-all_among.false ∙ no_ends a.vertices.now c.requires (seen a.self.element) (seen a.self.neighbour) other c.all_among.ensures c.if-all_among.false
