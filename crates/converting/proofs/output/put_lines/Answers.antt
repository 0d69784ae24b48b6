-- `converting::output::put_lines` puts the lines of records, one after the other. Assumes nothing.
use Rattle.std.proofs.Common.{arith}
use Rattle.converting.proofs.PutTextLaws.{lines_none, lines_at, lines_end, lines_room, lines_more, lines_next}
use Rattle.converting.proofs.output.put_lines.Goals as goal

pub loop-k-init : goal.loop-k-init
loop-k-init g c = lines_none _ _ _ c.args.out.now c.requires

pub slice_bounds-put-count : goal.slice_bounds-put-count
slice_bounds-put-count g c = lines_at _ _ _ _ c.loop-k.invariant

pub put-at-requires : goal.put-at-requires
put-at-requires g c =
    let below = rw c.count-k-end.ensures at c.loop-k-test.true in
    record { within = below; room = lines_room _ _ _ _ c.loop-k.invariant below }

pub overflow_add-at : goal.overflow_add-at
overflow_add-at g c =
    let below = rw c.count-k-end.ensures at c.loop-k-test.true in
    let h = lines_more _ _ _ _ c.loop-k.invariant below c.put-at.ensures in
    omega arith

pub loop-k-preserved : goal.loop-k-preserved
loop-k-preserved g c =
    let below = rw c.count-k-end.ensures at c.loop-k-test.true in
    lines_next _ _ _ _ c.loop-k.invariant below c.put-at.ensures

pub returns : goal.returns
returns g c = lines_end _ _ _ _ c.loop-k.invariant (rw c.count-k-end.ensures at c.loop-k-test.false)
