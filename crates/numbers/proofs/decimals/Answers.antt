-- `numbers::decimals` reads one to three digits after the point. Assumes nothing.
use native.Mathlib.Omega.{arith}
use mathlib.Core.Path.{sym, ◌∙◌}
use Rattle.format.proofs.NumberLaws.{spelt-small}
use Rattle.numbers.proofs.decimals.Goals as goal

pub overflow_mul-result : goal.overflow_mul-result
overflow_mul-result c =
    let h = rw c.in-1.is at (spelt-small _ _ (sym c.digits.ensures ∙ c.in_ok-digits-in-1.was)) in
    record { fits = omega arith }

pub overflow_mul-result-in-2 : goal.overflow_mul-result-in-2
overflow_mul-result-in-2 c =
    let h = rw c.in-2.is at (spelt-small _ _ (sym c.digits-in-2.ensures ∙ c.in_ok-digits-in-2.was)) in
    record { fits = omega arith }
