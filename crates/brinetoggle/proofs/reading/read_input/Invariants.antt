-- `brinetoggle::reading::read_input` reads to the end or until the room is full: what was read is within it, and is what the input has lost. Assumes nothing.
use Rattle.std.proofs.Common.{◌-◌, length}
use Rattle.brinetoggle.proofs.InputLaws.{Front}
use Rattle.brinetoggle.proofs.reading.read_input.Given as goal

abbrev pub invariant-loop-at : goal.invariant-loop-at
invariant-loop-at g l = Front (g.I.Read.remaining l.fn.input) (g.I.Read.remaining l.input) l.room l.at

abbrev pub decreases-loop-at : goal.decreases-loop-at
decreases-loop-at g l = length l.room - l.at
