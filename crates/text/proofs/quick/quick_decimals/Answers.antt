-- `text::quick::quick_decimals` reads decimals. Assumes nothing.
use Rattle.std.proofs.Common.{◌≡◌, arith}
use Rattle.text.proofs.QuickNumbers.{decimals_at}
use Rattle.text.proofs.quick.quick_decimals.Goals.{in-1, in-2, in_default}
use Rattle.text.proofs.quick.quick_decimals.Goals as goal

pub returns : goal.returns
returns c = elim c.match-count.branch [
  | in-1 w ↦ decimals_at _ _ _ c.digit_run-digits.ensures (λ e. omega arith) 100 _ (rw w.in-1.is) (omega arith) w.value-is
  | in-2 w ↦ decimals_at _ _ _ c.digit_run-digits.ensures (λ e. omega arith) 10 _ (rw w.in-2.is) (omega arith) w.value-is
  | in_default w ↦
      let e : c.digit_run-digits.result.1 ≡ 3 = omega (arith, c.digit_run-digits.ensures.few) in
      decimals_at _ _ _ c.digit_run-digits.ensures (λ e. omega arith) 1 _ (rw e) (omega arith) (omega (arith, w.value-is))
]
