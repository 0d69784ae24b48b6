-- `records::is_distinct` meets its contract.
-- Assumes nothing.
use Rattle.std.proofs.Common.{rules, true, false}
use native.Mathlib.Omega.{arith}
use lib.ListN.{length}
use Rattle.std.proofs.lemmas.Iterator.{cases_from_all, YieldsList-from_range}
use Rattle.laws.proofs.WordLaws.{part_from}
use Rattle.records.proofs.DistinctLaws.{Again, distinct_by_all}
use Rattle.records.proofs.is_distinct.Goals as goal

pub returns : goal.returns
returns c =
    let l = c.args.numbers.now in
    let apart = Again l false in
    let again = Again l true in
    distinct_by_all l c.all.result
    (cases_from_all _ _ c.all.result apart again c.all.ensures.ran (YieldsList-from_range 0 (length l) (length l) (cc) (omega arith)) (λ x q k. (search (k.met.1, rules), search (rules, part_from)))
    (λ x q k. search (rules, part_from)))
