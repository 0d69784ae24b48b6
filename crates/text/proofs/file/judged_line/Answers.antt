-- `text::file::judged_line` judges a line test by test, and keeps its record. Assumes nothing.
use Rattle.std.proofs.Common.{rules, sym, ◌∙◌, true}
use Rattle.std.proofs.lemmas.Result.{err_from_is_err_and}
use Rattle.numbers.proofs.PartLaws.{joined_at, parts_at, whole_at}
use Rattle.format.proofs.FileLaws.{line_taken, file_open, file-no}
use Rattle.text.proofs.KeptLaws.{line_kept}
use Rattle.text.proofs.file.judged_line.Goals as goal

pub returns-in_default : goal.returns-in_default
returns-in_default c = λ n. file_open _ _ n _ (whole_at _ _ (sym c.in_default.ensures)) c.requires.some ∙ rw c.open_line.ensures

pub returns-in_err-next : goal.returns-in_err-next
returns-in_err-next c =
    let p = err_from_is_err_and c.from_residual.result c.from_residual.ensures.1 in
    rw (p.1, p.2) (λ n. file-no _ _ n _ _ _ _ (parts_at _ _ _ (sym c.in-Some.ensures)) (sym c.judge_line.ensures ∙ c.in_err-next.was))

pub keep_line-requires : goal.keep_line-requires
keep_line-requires c =
    let taken = line_taken _ _ _ _ true (sym c.judge_line.ensures ∙ c.in_ok-next.was) in
    record { few = search rules; room = record { allowed = taken.few; own = c.requires.own } }

pub returns : goal.returns
returns c =
    let a = c.args in
    let e = sym c.in-Some.ensures in
    line_kept a.t.now a.rooms a.state a.vertices.now a.elements.now c.requires _ _ _ _ _
    (joined_at _ _ _ e) (parts_at _ _ _ e) (sym c.judge_line.ensures ∙ c.in_ok-next.was)
    c.keep_line.ensures c.keep_line.auto.vertices c.keep_line.auto.elements
