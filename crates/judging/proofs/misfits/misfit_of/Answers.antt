-- The first element that does not fit element j is the least. Assumes nothing.
use Rattle.std.proofs.Common.{◌≡◌, rules, true, false, not}
use Rattle.std.proofs.lemmas.Iterator.{first_from_Range}
use Rattle.judging.specs.Judge.{pair_fits, misfit}
use Rattle.judging.proofs.MisfitLaws.{first_least}
use Rattle.judging.proofs.misfits.misfit_of.Goals as goal

pub returns : goal.returns
unfolding misfit
returns c =
    let t = c.args.table.now in
    let j = c.args.j in
    first_least (λ i. not (pair_fits t i j)) j c.find.result
    (first_from_Range _ _ _ _ (λ i. not (pair_fits t i j) ≡ true) (λ i. not (pair_fits t i j) ≡ false) c.find.ensures.ran
    (λ x q k. search rules)
    (λ x q k. (search rules, search rules)))
