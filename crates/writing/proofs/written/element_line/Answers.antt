-- `writing::written::element_line` puts the line of an element. Assumes nothing.
use mathlib.Core.Path.{◌≡◌, ap, ◌∙◌}
use Rattle.records.specs.Record.{kind_of}
use Rattle.writing.specs.Written.{mark_of_kind}
use Rattle.writing.proofs.PutLaws.{put_none}
use Rattle.writing.proofs.WrittenLaws.{numbers_next, element-closed}
use Rattle.writing.proofs.written.element_line.Goals as goal

pub loop-vertex-init : goal.loop-vertex-init
loop-vertex-init c = put_none _ _

pub loop-vertex-preserved : goal.loop-vertex-preserved
loop-vertex-preserved c = numbers_next _ c.loop-vertex.vertex-index _ c.loop-vertex-test.true c.from.ensures c.loop-vertex.invariant c.number_field-at.ensures

pub returns : goal.returns
returns c =
    let l = c.loop-vertex in
    let e : c.mark_of_kind.result ≡ mark_of_kind (kind_of c.args.element) = c.mark_of_kind.ensures ∙ ap mark_of_kind c.kind_of.ensures in
    element-closed c.args.element _ l.vertex-index c.corners_of-vertex-items.ensures c.loop-vertex-test.false (rw e at c.put_mark-at.ensures) l.invariant c.push.ensures
