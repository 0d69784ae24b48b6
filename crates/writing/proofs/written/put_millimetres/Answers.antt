-- `writing::written::put_millimetres` puts whole millimetres, a point and three decimals. Assumes nothing.
use Rattle.writing.proofs.WrittenLaws.{millimetres_put}
use Rattle.writing.proofs.written.put_millimetres.Goals as goal

pub returns : goal.returns
returns c =
    millimetres_put c.args.m c.put_number-whole.ensures c.push-pointed.ensures c.push-tenths.ensures c.push-hundredths.ensures
    c.push.ensures c.digit.ensures c.digit-2.ensures c.digit-3.ensures
