-- `blocks::rows::row_of` meets its contract: the place of the lowest corner and the choice of its far diagonals make the row's number.
-- Assumes nothing.
use Rattle.std.proofs.Common.{ap, ◌∙◌, ◌+◌, ◌*◌, ◌-◌}
use Rattle.solids.specs.declared.Solid.TheVariants.{Hexahedron}
use Rattle.solids.specs.Solids.{at, opposite}
use Rattle.blocks.proofs.CornerLaws.{proper_cornered, lowest_corner, choice-is}
use Rattle.blocks.proofs.rows.row_of.Goals as goal

pub returns : goal.returns
returns c =
    let vs = c.args.corners.now in
    let p = c.lowest_place-place.ensures.lowest in
    let low = c.vertex_at-low.ensures ∙ ap (at vs) p ∙ lowest_corner vs (proper_cornered Hexahedron vs c.requires) in
    let high = c.vertex_at-high.ensures ∙ ap (at vs) (c.opposite_place.ensures ∙ ap opposite p) in
    λ i. 8 * ((c.from.ensures ∙ p) i - 1) + (c.diagonals.ensures.choice ∙ choice-is vs low high) i
