-- Invariant: the whole is judged as the rest is.
use Rattle.std.proofs.Common.{◌≡◌, length}
use Rattle.limits.specs.Limits.{space}
use Rattle.laws.specs.Pieces.{split}
use Rattle.format.specs.Line.{fields_verdict}
use Rattle.text.proofs.field.judge_fields.Given as goal

abbrev pub invariant-loop-field : goal.invariant-loop-field
invariant-loop-field l = fields_verdict l.state l.role (split space l.fn.s) ≡ fields_verdict l.state l.role (split space l.rest)

abbrev pub decreases-loop-field : goal.decreases-loop-field
decreases-loop-field l = length l.rest
