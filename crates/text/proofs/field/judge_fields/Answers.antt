-- `text::field::judge_fields` finds the first fault of the fields. Assumes nothing.
use mathlib.Core.Path.{sym, ◌∙◌}
use Rattle.std.proofs.lemmas.Result.{err_from_is_err_and}
use Rattle.format.proofs.FieldLaws.{verdict_last, verdict_passed, verdict_failed}
use Rattle.text.proofs.field.judge_fields.Goals as goal

pub returns-in_err-judge_field : goal.returns-in_err-judge_field
returns-in_err-judge_field c =
    let p = err_from_is_err_and c.from_residual.result c.from_residual.ensures.1 in
    let e = sym c.judge_field.ensures ∙ c.in_err-judge_field.was in
    rw (p.1, p.2) (sym (c.loop-field.invariant ∙ rw c.in-Some.ensures.parts (verdict_failed _ _ _ _ _ e)))

pub loop-field-preserved : goal.loop-field-preserved
loop-field-preserved c =
    c.loop-field.invariant ∙ rw c.in-Some.ensures.parts (verdict_passed _ _ _ _ (sym c.judge_field.ensures ∙ c.in_ok-judge_field.was))

pub returns : goal.returns
returns c = c.judge_field-2.ensures ∙ sym (c.loop-field.invariant ∙ rw c.in_default.ensures.whole (verdict_last _ _ _))
