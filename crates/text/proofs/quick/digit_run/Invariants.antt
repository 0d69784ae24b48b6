-- Invariant: the first `count` bytes are digits.
use Rattle.text.specs.QuickLoops.{DigitsAt}
use Rattle.text.proofs.quick.digit_run.Given as goal

abbrev pub invariant-loop-count : goal.invariant-loop-count
invariant-loop-count l = DigitsAt l.t l.most l.value l.count
