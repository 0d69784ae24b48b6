-- `numbers::digits` spells a number. Assumes nothing.
use Prim.Native.Nat.{ℕ, ◌^◌, ◌≤◌, ◌<◌}
use native.Mathlib.Nat.{pow-suc, pow-le-pow_right, lt_of_lt_of_le}
use native.Mathlib.Numerals.{add-one}
use native.Mathlib.Omega.{arith}
use mathlib.Core.Path.{sym, ◌∙◌}
use lib.Dec.{lit<}
use Rattle.limits.specs.Limits.{whole_digits}
use Rattle.format.proofs.NumberLaws.{spelt-not, spelt_on, spelt-end, digit_told}
use Rattle.numbers.proofs.digits.Goals as goal

-- at most six digits spell less than a million
few : (n i : ℕ) → n < 10 ^ i → i ≤ whole_digits → n < 10 ^ 6
few n i h k = lt_of_lt_of_le h (pow-le-pow_right (lit< tt) k)

pub returns-in_err-n : goal.returns-in_err-n
returns-in_err-n c =
    c.from_residual.ensures ∙ sym (c.loop-x.invariant.1 ∙ spelt-not _ _ _ c.loop-x-test.true (sym c.digit.ensures ∙ c.in_err-n.was))

pub overflow_add-n : goal.overflow_add-n
overflow_add-n c =
    let m = few _ _ c.loop-x.invariant.0 (omega arith) in
    let d = (digit_told _ _ (sym c.digit.ensures ∙ c.in_ok-n.was)).1 in
    record { fits = omega arith }

pub loop-x-preserved : goal.loop-x-preserved
loop-x-preserved c =
    let q = sym c.digit.ensures ∙ c.in_ok-n.was in
    let d = (digit_told _ _ q).1 in
    let l = c.loop-x.invariant in
    (rw (add-one, pow-suc) (omega arith), l.1 ∙ spelt_on _ _ _ c.loop-x-test.true _ q)

pub returns : goal.returns
returns c = sym (c.loop-x.invariant.1 ∙ spelt-end _ _ _ c.loop-x-test.false)
