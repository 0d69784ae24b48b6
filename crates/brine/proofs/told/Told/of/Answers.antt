-- `brine::told::Told::of` tells an acceptance or a refusal. Assumes nothing.
use Rattle.std.proofs.Common.{rules, append-nil}
use Rattle.brine.proofs.FrontLaws.{done_told, refusal_told}
use Rattle.brine.proofs.told.Told.of.Goals as goal

pub returns-in-Ok : goal.returns-in-Ok
returns-in-Ok g c = done_told g.V.Values.values g.V.Values.count c.numbers.result c.in-Ok.is (search (rules, append-nil)) c.numbers.ensures

pub returns-in-Err : goal.returns-in-Err
returns-in-Err g c = refusal_told g.V.Values.values g.V.Values.count c.in-Err.is c.from-number.ensures c.from.ensures g.met.V.Values.few
