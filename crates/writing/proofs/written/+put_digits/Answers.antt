-- `writing::written::put_digits` puts a number. Assumes nothing.
use Rattle.writing.proofs.WrittenLaws.{put_last_digit}
use Rattle.writing.proofs.written.+put_digits.Goals as goal

pub returns : goal.returns
returns t c = put_last_digit c.args.k c.if-k-lt10.false c.put_digits-next.ensures c.push.ensures c.digit.ensures
