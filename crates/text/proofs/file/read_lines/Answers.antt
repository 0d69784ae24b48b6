-- `text::file::read_lines` judges a file and keeps its records. Assumes nothing.
use native.Mathlib.Nat.{le_of_eq}
use mathlib.Core.Path.{◌≡◌, refl, sym, ap, ◌∙◌}
use borrow.Author.Tests.{lt-ltb, eqb-true}
use borrow.Author.Rules.{rules}
use Rattle.std.specs.Prelude.{ℕ, Result, Ok, Err}
use Rattle.std.proofs.lemmas.Result.{err_from_is_err_and}
use Rattle.faults.specs.Refusals.{refused, refuse}
use Rattle.faults.specs.declared.Fault.{Fault}
use Rattle.faults.specs.declared.Fault.TheVariants as fault
use Rattle.format.specs.declared.ReaderState.{ReaderState}
use Rattle.format.specs.File.{start, file_verdict}
use Rattle.text.specs.Reading.{verdict_of}
use Rattle.text.proofs.KeptLaws.{refused_read, reading-start, reading_more, reading-refused, reading-end}
use Rattle.text.proofs.file.read_lines.Goals as goal

pub returns-then-file-gt-FILE_LIMIT : goal.returns-then-file-gt-FILE_LIMIT
unfolding file_verdict verdict_of
returns-then-file-gt-FILE_LIMIT c =
    refused_read c.args.file.now _ _ (refuse fault.Long 0) (ap refused c.at.ensures) (rw (lt-ltb _ _ c.if-file-gt-FILE_LIMIT.true)) _ _

pub loop-t-init : goal.loop-t-init
unfolding start
loop-t-init c = reading-start _ _ _ _ c.if-file-gt-FILE_LIMIT.false c.requires

pub returns-in_err-next : goal.returns-in_err-next
unfolding verdict_of
returns-in_err-next c =
    let p = err_from_is_err_and c.from_residual.result c.from_residual.ensures.1 in
    let k = told c c.read_line.result refl in
    rw (p.1, p.2) (reading-refused _ _ c.loop-t.invariant _ k.0 (ap refused k.2) (rw k.1 at c.read_line.ensures) _ _)
  where
    -- the fault of the line at the front, which the refusal carries with the line's number
    told : (c : goal.After-from_residual) (r : Result (ReaderState × ℕ) Fault) → c.read_line.result ≡ r
        → (f : Fault) × (r ≡ Err f) × (c.in_err-next.field-0.0 ≡ refuse f c.loop-t.n)
    told c (Ok x) e = let k = rw e at c.in_err-next.ensures.cases in absurd (cc)
    told c (Err f) e = let k = rw e at c.in_err-next.ensures.cases in (f, refl, search rules)

pub loop-t-preserved : goal.loop-t-preserved
loop-t-preserved c =
    let r : c.read_line.result ≡ Ok (c.in_ok-next.next, c.in_ok-next.taken) = search rules in
    reading_more _ _ c.loop-t.invariant _ _ _ _ _ (rw r at c.read_line.ensures) c.from-t.ensures

pub returns : goal.returns
returns c = reading-end _ _ c.loop-t.invariant _ (le_of_eq (eqb-true _ _ (sym c.is_empty.ensures ∙ c.loop-t-test.false))) c.at_end.ensures
