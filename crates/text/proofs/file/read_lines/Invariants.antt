-- Invariant: the whole is judged as the rest is from this state, and its records are those that are kept, then those of the rest.
use Rattle.std.proofs.Common.{length}
use Rattle.text.proofs.KeptLaws.{Reading}
use Rattle.text.proofs.file.read_lines.Given as goal

abbrev pub invariant-loop-t : goal.invariant-loop-t
invariant-loop-t l = Reading l.file l.rooms l.vertices l.elements l.t l.state l.n

abbrev pub decreases-loop-t : goal.decreases-loop-t
decreases-loop-t l = length l.t
