-- Invariant: the whole is n fields if the rest is as many as are left.
use Rattle.std.proofs.Common.{◌≡◌, ◌+◌, ◌-◌}
use Rattle.limits.specs.Limits.{space}
use Rattle.laws.specs.Pieces.{split}
use Rattle.format.specs.Line.{are_fields}
use Rattle.text.proofs.field.are_fields.Given as goal

abbrev pub invariant-loop : goal.invariant-loop
invariant-loop l = are_fields l.fn.n (split space l.fn.s) ≡ are_fields (l.fn.n + 1 - l.counter) (split space l.rest)
