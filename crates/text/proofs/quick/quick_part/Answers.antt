-- `text::quick::quick_part` reads what stands behind whole millimetres. Assumes nothing.
use Rattle.std.proofs.Common.{arith}
use Rattle.std.proofs.lemmas.Option.{IfSome_then}
use Rattle.text.proofs.QuickNumbers.{part_decimals}
use Rattle.text.proofs.quick.quick_part.Goals as goal

pub returns-in-46 : goal.returns-in-46
returns-in-46 c = IfSome_then _ c.quick_decimals.ensures (λ r d. part_decimals _ _ _ (omega arith) d)
