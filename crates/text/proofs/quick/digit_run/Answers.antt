-- `text::quick::digit_run` reads digits. Assumes nothing.
use Rattle.std.proofs.Common.{sym, ◌∙◌, arith}
use Rattle.format.proofs.NumberLaws.{digit_told}
use Rattle.text.proofs.QuickNumbers.{digits-none, digits_more, digits_under}
use Rattle.text.proofs.quick.digit_run.Goals as goal

pub loop-count-init : goal.loop-count-init
loop-count-init c = digits-none _ _

pub overflow_mul-value : goal.overflow_mul-value
overflow_mul-value c =
    let m = digits_under _ _ _ _ c.requires c.loop-count.invariant in
    record { fits = omega arith }

pub overflow_add-value : goal.overflow_add-value
overflow_add-value c =
    let m = digits_under _ _ _ _ c.requires c.loop-count.invariant in
    let d = (digit_told _ _ (sym c.digit.ensures ∙ c.in-Some.is)).1 in
    record { fits = omega arith }

pub loop-count-preserved : goal.loop-count-preserved
loop-count-preserved c =
    digits_more _ _ _ _ _ _ (omega (arith, c.min.ensures)) (omega (arith, c.min.ensures)) c.loop-count.invariant c.loop-count-test.true
    (sym c.digit.ensures ∙ c.in-Some.is)
