-- `writing::store` stores a text from the front of a buffer. Assumes nothing.
use Rattle.std.proofs.Common.{rules}
use Rattle.writing.proofs.WriteLaws.{room_done, copied_done}
use Rattle.writing.proofs.store.Goals as goal

pub returns-then-buffer-n : goal.returns-then-buffer-n
returns-then-buffer-n c = room_done c.args.text.now c.args.buffer.now c.if-buffer-n.true c.at.ensures

pub returns : goal.returns
returns c = copied_done c.args.text.now c.args.buffer.now (search rules) c.if-buffer-n.false
