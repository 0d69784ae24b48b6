-- The loop goes from the last face to the first; it keeps the tetrahedra of the faces behind it in order.
-- Assumes nothing.
use Rattle.std.proofs.Common.{◌≡◌, sym, ap, ◌∙◌, ℕ, length, arith}
use Rattle.solids.specs.Cut.{in_order}
use Rattle.blocks.proofs.FanLaws.{fan_from, fan_from-end, fan-room, fan-step}
use Rattle.blocks.proofs.fans.fan_block.Goals as goal

pub loop-i-init : goal.loop-i-init
loop-i-init c =
    let e = c.args.element in
    c.new-block.ensures ∙ ap in_order (sym (fan_from-end e.solid e.corners.now c.lowest_corner-low.result.0 c.face_count-i.result c.face_count-i.ensures))

pub add_face-requires : goal.add_face-requires
add_face-requires c =
    let e = c.args.element in
    let all = ap (λ (v : ℕ). length (fan_from e.solid e.corners.now v 0)) c.lowest_corner-low.ensures in
    fan-room e.solid e.corners.now c.lowest_corner-low.result.0 c.loop-i.i c.loop-i-test.true (omega (arith, c.face_count-i.ensures)) c.face_of.ensures
    c.loop-i.invariant (omega (arith, all, c.requires.few))

pub loop-i-preserved : goal.loop-i-preserved
loop-i-preserved c =
    let e = c.args.element in
    c.add_face.ensures
    ∙ fan-step e.solid e.corners.now c.lowest_corner-low.result.0 c.loop-i.i c.loop-i-test.true (omega (arith, c.face_count-i.ensures)) c.face_of.ensures
    c.loop-i.invariant

pub returns : goal.returns
returns c =
    let e = c.args.element in
    let none : c.loop-i.i ≡ 0 = omega arith in
    c.loop-i.invariant ∙ (λ j. in_order (fan_from e.solid e.corners.now (c.lowest_corner-low.ensures j) (none j)))
