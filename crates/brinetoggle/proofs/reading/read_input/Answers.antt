-- `brinetoggle::reading::read_input` reads to the end or until the room is full. Assumes nothing.
use Rattle.std.proofs.Common.{rules}
use Rattle.brinetoggle.proofs.InputLaws.{front-turn}
use Rattle.brinetoggle.proofs.reading.read_input.Goals as goal

pub loop-at-preserved : goal.loop-at-preserved
loop-at-preserved g c =
    let read = c.read-got in
    front-turn _ read.new.buf read.result c.loop-at.invariant read.ensures.bound read.ensures.bytes (search rules)
