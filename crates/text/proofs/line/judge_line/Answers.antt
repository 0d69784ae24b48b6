-- `text::line::judge_line` refuses a line of another shape. Assumes nothing.
use Rattle.std.proofs.Common.{◌≡◌, ℕ, Bool, true, false, cond, Ok, Err, refl, sym, ap, ◌∙◌, arith}
use Rattle.std.proofs.lemmas.Result.{err_from_is_err_and}
use Rattle.faults.specs.declared.Fault.{Fault}
use Rattle.format.specs.Line.{bad_shape, line_verdict}
use Rattle.text.proofs.line.judge_line.Goals as goal

-- what a test that passed tells, and one that failed
passed : (b : Bool) (f : Fault) (u : Unit {0}) → cond b (Err f) (Ok (tt {0})) ≡ Ok u → b ≡ false
passed true f u e = let z : ◌≡◌ {A = ℕ} 0 1 = cc in absurd (omega arith)
passed false f u e = refl

failed : (b : Bool) (f g : Fault) → cond b (Err f) (Ok (tt {0})) ≡ Err g → (b ≡ true) × (f ≡ g)
failed true f g e = (refl, cc)
failed false f g e = let z : ◌≡◌ {A = ℕ} 0 1 = cc in absurd (omega arith)

pub returns-in_err-refuse_if-4 : goal.returns-in_err-refuse_if-4
unfolding line_verdict
returns-in_err-refuse_if-4 c =
    let p = err_from_is_err_and c.from_residual-in_err-refuse_if-4.result c.from_residual-in_err-refuse_if-4.ensures.1 in
    let going = passed _ _ _ (sym c.refuse_if.ensures ∙ c.in_ok-refuse_if.was) in
    let known = passed _ _ _ (sym c.refuse_if-2.ensures ∙ c.in_ok-refuse_if-2.was) in
    let few = passed _ _ _ (sym c.refuse_if-3.ensures ∙ c.in_ok-refuse_if-3.was) in
    let shape = failed _ _ _ (sym c.refuse_if-4.ensures ∙ c.in_err-refuse_if-4.was) in
    let shaped : bad_shape c.wants.result c.args.t.now ≡ true = cc in
    rw (
      p.1,
      p.2,
      ← c.mark_of-mark.ensures,
      ← c.role_of-role.ensures,
      ← c.bad_mark.ensures,
      known,
      ← c.too_many.ensures,
      few,
      ← c.wants.ensures,
      shaped,
      going,
    )
    (ap Err (sym shape.1))
