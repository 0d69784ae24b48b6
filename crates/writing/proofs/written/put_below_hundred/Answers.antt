-- `writing::written::put_below_hundred` puts a number that is below 100. Assumes nothing.
use Rattle.writing.proofs.WrittenLaws.{put_last_digit}
use Rattle.writing.proofs.written.put_below_hundred.Goals as goal

pub returns : goal.returns
returns c = put_last_digit c.args.k c.if-k-lt10.false c.put_below_ten-next.ensures c.push.ensures c.digit.ensures
