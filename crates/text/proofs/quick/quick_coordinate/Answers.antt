-- `text::quick::quick_coordinate` reads a coordinate. Assumes nothing.
use Rattle.std.proofs.Common.{arith}
use Rattle.std.proofs.lemmas.Option.{IfSome_then}
use Rattle.text.proofs.QuickNumbers.{coordinate_minus, coordinate_plus}
use Rattle.text.proofs.quick.quick_coordinate.Goals.{in-45, in_default}
use Rattle.text.proofs.quick.quick_coordinate.Goals as goal

pub returns : goal.returns
returns c = elim c.if-t-lt1.branch [
  | in-45 w ↦ IfSome_then _ (rw w.neg-is at c.quick_unsigned.ensures) (λ r d. coordinate_minus _ _ _ (omega arith) d)
  | in_default w ↦ IfSome_then _ (rw w.neg-is at c.quick_unsigned.ensures) (λ r d. coordinate_plus _ _ _ d)
]
