-- `writing::write_line` writes a line into a buffer. Assumes nothing.
use native.Mathlib.Omega.{arith}
use lib.ListN.{replicate}
use Rattle.std.proofs.Common.{rules}
use Rattle.writing.specs.WriteLoops.{capacity}
use Rattle.writing.proofs.PutLaws.{own-short, own-count}
use Rattle.writing.proofs.WriteLaws.{put_done, stored_done}
use Rattle.writing.proofs.write_line.Goals as goal

pub returns-then-buffer-ge-CAPACITY : goal.returns-then-buffer-ge-CAPACITY
returns-then-buffer-ge-CAPACITY g c line short puts =
    put_done (puts _ c.put.new.arg2 c.put.result (search rules)) (omega (arith, short, c.if-buffer-ge-CAPACITY.true))

pub slice_bounds-line-end : goal.slice_bounds-line-end
slice_bounds-line-end g c =
    own-short {own = replicate capacity 0} c.put-n.auto.arg2 (c.requires.short.2 _ _ c.put-n.result (search rules)) c.requires.short.1

pub slice_bounds-store-end : goal.slice_bounds-store-end
slice_bounds-store-end g c =
    own-count {own = replicate capacity 0} c.put-n.auto.arg2 (c.requires.short.2 _ _ c.put-n.result (search rules)) c.requires.short.1

pub returns : goal.returns
returns g c line short puts = stored_done {empty = replicate capacity 0} c.put-n.auto.arg2 (puts _ _ c.put-n.result (search rules)) short c.store.ensures
