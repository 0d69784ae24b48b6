-- `text::quick::quick_coordinates` reads the coordinates of a VX line. Assumes nothing.
use Rattle.std.proofs.Common.{rules}
use Rattle.std.proofs.lemmas.Option.{IfSome_then}
use Rattle.format.specs.Number.{thousandths_of}
use Rattle.format.specs.declared.Role.TheVariants.{VertexLine}
use Rattle.text.proofs.QuickFields.{coordinate_field}
use Rattle.text.proofs.quick.quick_coordinates.Goals as goal

pub returns : goal.returns
returns c = λ state. c.quick_fields.ensures thousandths_of state VertexLine (λ t r e. IfSome_then r (search rules) (λ q d. coordinate_field _ d))
