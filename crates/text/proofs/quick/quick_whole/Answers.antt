-- `text::quick::quick_whole` reads 0, or digits not starting with 0. Assumes nothing.
use Rattle.text.proofs.QuickNumbers.{whole_at}
use Rattle.text.proofs.quick.quick_whole.Goals as goal

pub returns : goal.returns
returns c = whole_at _ _ _ _ c.digit_run-value.ensures c.if-count-eq0.false c.if-count-ne1.either
