-- The search goes on past an element with no misfit, which is filed, and ends at the first with one.
-- Assumes nothing.
use Rattle.std.proofs.Common.{◌≡◌, ◌∙◌, sym, ℕ, Bool, true, false, not, List, add-one}
use borrow.Author.Tests.{not-true, not-false}
use Rattle.laws.proofs.PassLaws.{failed_start, failed_here, failed_next, failed_end}
use Rattle.judging.specs.Judge.{bad_element}
use Rattle.judging.specs.Chained.{Chained}
use Rattle.judging.proofs.misfits.bad_element.Invariants.{bad, Going}
use Rattle.judging.proofs.misfits.bad_element.Goals as goal

-- what `fits_next` says of element j
module _ {t : List ℕ} {n j : ℕ} {s : Chained} (w : Going t n j s) {r : Bool} (e : r ≡ not (bad s.table s.filed)) where
  found : r ≡ false → bad t j ≡ true
  found h = not-false (bad t j) (sym (rw w.chains at e) ∙ h)

  passed : r ≡ true → bad t j ≡ false
  passed h = not-true (bad t j) (sym (rw w.chains at e) ∙ h)

pub loop-j-init : goal.loop-j-init
loop-j-init c = record { failed = failed_start _ _; chains = c.new-chains.ensures }

pub returns-then-not-fits_next : goal.returns-then-not-fits_next
unfolding bad_element
returns-then-not-fits_next c =
    let t = c.args.table.elements.now in
    let i = c.loop-j.invariant in
    sym (add-one c.loop-j.j) ∙ failed_here (bad t) i.failed c.loop-j-test.true (found i c.fits_next.ensures c.if-not-fits_next.true)

pub loop-j-preserved : goal.loop-j-preserved
loop-j-preserved c =
    let t = c.args.table.elements.now in
    let i = c.loop-j.invariant in
    record {
      failed = failed_next (bad t) i.failed c.loop-j-test.true (passed i c.fits_next.ensures c.if-not-fits_next.false);
      chains = rw (c.file_next.ensures, i.chains);
    }

pub returns : goal.returns
unfolding bad_element
returns c = failed_end (bad c.args.table.elements.now) c.loop-j.invariant.failed c.loop-j-test.false
