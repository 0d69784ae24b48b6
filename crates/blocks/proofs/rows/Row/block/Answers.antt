-- The loop goes from the last tetrahedron of the row to the first; it keeps those behind it in order.
-- Assumes nothing.
use Rattle.std.proofs.Common.{◌≡◌, sym, ap, ◌∙◌, ℕ, length, arith}
use Rattle.solids.specs.Cut.{in_order}
use Rattle.blocks.proofs.RowTetLaws.{row_tets_from, row-end, row-step, row-room}
use Rattle.blocks.proofs.rows.Row.block.Goals as goal

pub loop-k-init : goal.loop-k-init
loop-k-init c =
    let r = c.args.self.now in
    record { room = omega (arith, ap length c.new-block.ensures); same = c.new-block.ensures ∙ ap in_order (sym (row-end r.corners.now r.number r.below)) }

pub loop-k-preserved : goal.loop-k-preserved
loop-k-preserved c =
    let r = c.args.self.now in
    let h = c.loop-k.invariant in
    let same = c.add_tet.ensures ∙ row-step r.corners.now r.number r.below c.loop-k.k c.loop-k-test.true c.loop-k.auto.k h.same in
    record { room = row-room r.corners.now r.number r.below c.loop-k.k c.loop-k-test.true c.loop-k.auto.k h.same h.room same; same = same }

pub returns : goal.returns
returns c =
    let r = c.args.self.now in
    let none : c.loop-k.k ≡ 0 = omega arith in
    c.loop-k.invariant.same ∙ ap (λ (k : ℕ). in_order (row_tets_from r.corners.now r.number k)) none
