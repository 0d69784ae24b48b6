-- `numbers::coordinate` reads what stands after the minus. Assumes nothing.
use mathlib.Core.Path.{◌≡◌, sym, ◌∙◌}
use mathlib.Core.Bool.{false}
use lib.ListN.{get_or}
use borrow.Author.Rules.{rules}
use Rattle.limits.specs.Limits.{comma, minus}
use Rattle.laws.specs.Pieces.{split}
use Rattle.format.specs.Number.{cut, coordinate_of}
use Rattle.format.proofs.CutLaws.{cut_some}
use Rattle.numbers.proofs.PartLaws.{tail_is}
use Rattle.numbers.proofs.coordinate.Goals as goal

pub returns-in-45 : goal.returns-in-45
unfolding coordinate_of
returns-in-45 c =
    let t = c.args.t.now in
    let h : cut (split comma t) ≡ false = cut_some comma t ∙ sym c.contains.ensures.value ∙ c.if-contains.false in
    let m : get_or t 0 0 ≡ minus = search rules in
    c.unsigned.ensures ∙ rw (tail_is 1 t, h, m)
