-- `places::cut_places` meets its contract: the code's table of cuts is the page's.
-- Assumes nothing.
use Rattle.std.proofs.Common.{refl}
use Rattle.solids.specs.Rows.{hex_rows, cut_places}
use Rattle.places.proofs.cut_places.Goals as goal

pub returns : goal.returns
unfolding cut_places hex_rows
returns c = refl
