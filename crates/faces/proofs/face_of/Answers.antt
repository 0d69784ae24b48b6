-- `faces::face_of` meets its contract: a face of four places has its vertices there; that of three the search finds by `read_three`.
-- Assumes nothing.
use Rattle.std.proofs.Common.{ap, ◌∙◌}
use Rattle.solids.specs.Solids.{at}
use Rattle.faces.proofs.FaceLaws.{read_four}
use Rattle.faces.proofs.face_of.Goals as goal

pub returns : goal.returns
returns c =
    let e = c.args.element in
    let vs = e.corners.now in
    read_four e.solid vs c.args.face (c.vertex_at-p.ensures ∙ ap (at vs) c.face_place.ensures)
    (c.vertex_at-q.ensures ∙ ap (at vs) c.face_place-2.ensures)
    (c.vertex_at-r.ensures ∙ ap (at vs) c.face_place-3.ensures) c.face_place-last.ensures c.if-last-eq0.false c.vertex_at.ensures
