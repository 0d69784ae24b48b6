-- `blocks::rows::row_block` meets its contract: the tetrahedra of the hexahedron's row.
-- Assumes nothing.
use Rattle.std.proofs.Common.{ap, ◌∙◌, map, ℕ}
use Rattle.solids.specs.Solids.{at, on_tet}
use Rattle.solids.specs.Cut.{in_order}
use Rattle.solids.specs.Rows.{row_places, row_tets, cut_by_row}
use Rattle.blocks.proofs.rows.row_block.Goals as goal

pub returns : goal.returns
unfolding cut_by_row
returns c =
    let vs = c.args.corners.now in
    c.block.ensures ∙ ap (λ (r : ℕ). in_order (map (on_tet (at vs)) (row_tets (row_places r)))) c.row_of-number.ensures
