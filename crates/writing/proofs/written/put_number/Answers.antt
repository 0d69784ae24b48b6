-- `writing::written::put_number` puts a number in decimal. Assumes nothing.
use Rattle.writing.proofs.WrittenLaws.{put_last_two_digits}
use Rattle.writing.proofs.written.put_number.Goals as goal

pub returns-then-k-lt10000 : goal.returns-then-k-lt10000
returns-then-k-lt10000 c =
    put_last_two_digits c.args.k c.if-k-lt100.false c.put_below_hundred-hundreds.ensures c.push-tens.ensures c.push.ensures c.digit.ensures c.digit-then-k-lt10000.ensures
