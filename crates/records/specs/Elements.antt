-- The element that the code holds, as the definitions of solids have it.
use Rattle.solids.specs.Solids.{element}
use Rattle.solids.specs.Solids as solids
use Rattle.records.specs.declared.element.Element.{Element}

-- the element whose solid and corners the code holds
abbrev pub seen : Element → solids.Element
seen e = element e.solid e.corners.now
