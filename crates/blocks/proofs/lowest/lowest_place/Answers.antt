-- At the end no number is below the one kept, and every number before it is above it.
-- Assumes nothing.
use Rattle.std.proofs.Common.{◌≡◌, ℕ, length, subst, arith}
use Rattle.std.specs.List.{IsFirstBest}
use Rattle.blocks.proofs.LowestPlaceLaws.{below, first-best}
use Rattle.blocks.proofs.lowest.lowest_place.Goals as goal

pub returns-clause-lowest : goal.returns-clause-lowest
returns-clause-lowest c =
    let vs = c.args.corners.now in
    let e : c.loop-i.i ≡ length vs = omega (arith, c.requires.some) in
    first-best vs c.loop-i.place (subst (λ (i : ℕ). IsFirstBest below vs i c.loop-i.place) e c.loop-i.invariant.best)
