-- Invariant: the whole spells what the rest from i on spells after n, and n has at most i digits.
use Rattle.std.proofs.Common.{◌≡◌, ◌^◌, ◌<◌, drop}
use Rattle.format.specs.Number.{spelt}
use Rattle.numbers.proofs.digits.Given as goal

abbrev pub invariant-loop-x : goal.invariant-loop-x
invariant-loop-x l = (l.n < 10 ^ l.x-index) × (spelt 0 l.t ≡ spelt l.n (drop l.x-index l.t))
