-- `text::quick::quick_line` takes a line beyond question, and declines any other. Assumes nothing.
use Rattle.std.proofs.Common.{sym, ◌∙◌, arith}
use Rattle.text.proofs.QuickLines.{allowed, rest_within, vertex_quick, element_quick}
use Rattle.text.proofs.quick.quick_line.Goals.{in-VertexLine+in_ok-rest-in-VertexLine, in-ElementLine+in_ok-rest-in-ElementLine}
use Rattle.text.proofs.quick.quick_line.Goals as goal

pub overflow_sub-result : goal.overflow_sub-result
overflow_sub-result c = elim c.match-role.branch [
  | in-VertexLine+in_ok-rest-in-VertexLine w ↦ rw w.rest-is (rest_within _ _ (w.in_ok-rest-in-VertexLine.ensures c.args.state))
  | in-ElementLine+in_ok-rest-in-ElementLine w ↦ rw w.rest-is (rest_within _ _ (w.in_ok-rest-in-ElementLine.ensures.read))
]

pub returns : goal.returns
returns c =
    let a = allowed _ _ _ _ _ (sym c.bad_mark.ensures ∙ c.if-bad_mark.false) (sym c.too_many.ensures ∙ c.if-too_many.false)
    (sym c.no_room.ensures ∙ c.if-no_room.false) c.if-state.false c.in-32.len_at_least (omega arith) c.requires.0 c.role_of-role.ensures in
    elim c.match-role.branch [
      | in-VertexLine+in_ok-rest-in-VertexLine w ↦
          rw (w.rest-is, w.vertices-is, w.elements-is)
          (vertex_quick _ _ _ _ _ _ _ c.requires.1.own (rw w.in-VertexLine.is at a) _ (omega arith) _ w.quick_coordinates.auto.coordinates (w.in_ok-rest-in-VertexLine.ensures c.args.state))
      | in-ElementLine+in_ok-rest-in-ElementLine w ↦
          rw (w.rest-is, w.vertices-is, w.elements-is)
          (element_quick _ _ _ _ _ _ _ c.requires.1.own (rw w.in-ElementLine.is at a) _ (omega arith) _ w.in_ok-rest-in-ElementLine.ensures)
    ]
