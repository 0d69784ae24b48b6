-- The loop goes from the last face to the first; it keeps the choice of the faces behind it.
-- Assumes nothing.
use Rattle.std.proofs.Common.{◌≡◌, ap, ◌∙◌, ℕ, drop, arith}
use Rattle.solids.specs.declared.Solid.TheVariants.{Hexahedron}
use Rattle.solids.specs.Solids.{element, faces_of}
use Rattle.blocks.specs.BlockLoops.{choice}
use Rattle.blocks.proofs.ChoiceLaws.{choice-none, choice-step, choice-few}
use Rattle.blocks.proofs.rows.diagonals.Goals as goal

pub loop-i-init : goal.loop-i-init
loop-i-init c = choice-none c.args.low.0 c.args.high.0

pub with_bit-choice-requires : goal.with_bit-choice-requires
with_bit-choice-requires c = choice-few c.args.low.0 c.args.high.0 c.args.corners.now c.loop-i.i c.loop-i.invariant

pub loop-i-preserved : goal.loop-i-preserved
loop-i-preserved c = c.with_bit-choice.ensures ∙ choice-step c.args.low.0 c.args.high.0 c.args.corners.now c.loop-i.i c.loop-i-test.true c.loop-i.auto.i c.face_of.ensures c.loop-i.invariant

pub returns : goal.returns
returns c =
    let none : c.loop-i.i ≡ 0 = omega arith in
    let all = c.loop-i.invariant ∙ ap (λ (i : ℕ). choice c.args.low.0 c.args.high.0 (drop i (faces_of (element Hexahedron c.args.corners.now)))) none in
    record { choice = all; few = choice-few c.args.low.0 c.args.high.0 c.args.corners.now 0 all }
