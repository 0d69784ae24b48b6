-- `places::row_place` meets its contract: the place is that of the row, and outside the table there is none.
-- Assumes nothing.
use Rattle.std.proofs.Common.{sym}
use Rattle.solids.specs.Rows.{hex_rows, cut_places}
use Rattle.solids.proofs.RowPlaces.{row_beyond, entry_beyond, row_entry}
use Rattle.places.proofs.row_place.Goals.{else-row-lt64-via-then-row-lt64+else-at-lt24, else-row-lt64-via-else-row-lt64}
use Rattle.places.proofs.row_place.Goals as goal

pub returns-then-at-lt24 : goal.returns-then-at-lt24
unfolding cut_places hex_rows
returns-then-at-lt24 c = sym (row_entry c.args.row c.args.at c.if-row-lt64.true c.if-at-lt24.true)

pub returns-else-row-lt64 : goal.returns-else-row-lt64
returns-else-row-lt64 c =
    elim c.else-row-lt64.branch [
      | else-row-lt64-via-then-row-lt64+else-at-lt24 w ↦ sym (entry_beyond c.args.row c.args.at w.if-at-lt24.false)
      | else-row-lt64-via-else-row-lt64 w ↦ sym (row_beyond c.args.row c.args.at w.if-row-lt64.false)
    ]
