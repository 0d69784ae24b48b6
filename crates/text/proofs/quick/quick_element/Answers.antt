-- `text::quick::quick_element` reads the record of an element line. Assumes nothing.
use Rattle.std.proofs.Common.{◌+◌, ◌-◌, sym, ◌∙◌, rules}
use Rattle.std.proofs.lemmas.Option.{IfSome_then}
use Rattle.text.proofs.QuickLines.{element_stored, element_read}
use Rattle.text.proofs.quick.quick_element.Goals as goal

pub returns : goal.returns
returns c =
    IfSome_then c.quick_corners.result c.quick_corners.ensures
    (λ rest d. element_read _ _ _ _ _ _ (sym c.tip_first.ensures ∙ c.if-tip_first.false) d (search rules)
    (element_stored c.fill.new.self c.quick_corners.new.corners c.wants-kind.result _ (c.from.result + 1 - 1) (search rules) c.wants-kind.ensures (search rules)))
