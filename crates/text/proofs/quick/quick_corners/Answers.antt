-- `text::quick::quick_corners` reads the corners of an element line. Assumes nothing.
use Rattle.std.proofs.Common.{rules}
use Rattle.std.proofs.lemmas.Option.{IfSome_then}
use Rattle.format.specs.Number.{value_of}
use Rattle.format.specs.declared.Role.TheVariants.{ElementLine}
use Rattle.text.proofs.QuickFields.{number_field}
use Rattle.text.proofs.quick.quick_corners.Goals as goal

pub returns : goal.returns
returns c = c.quick_fields.ensures value_of c.args.state ElementLine (λ t r e. IfSome_then r (search rules) (λ q d. number_field _ d))
