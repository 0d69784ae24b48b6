-- `blocks::rows::Row::block` meets its contract. The loop's invariant: the tetrahedra of the row from k on, in order; at most one for each turn.
-- Assumes nothing.
use Rattle.std.proofs.Common.{◌≡◌, ◌+◌, ◌≤◌, length}
use Rattle.solids.specs.Cut.{in_order}
use Rattle.blocks.proofs.RowTetLaws.{row_tets_from}
use Rattle.blocks.proofs.rows.Row.block.Given as goal

abbrev pub invariant-loop-k : goal.invariant-loop-k
invariant-loop-k l = record {
  room : length l.block + l.k ≤ 6;
  same : l.block ≡ in_order (row_tets_from l.self.corners.now l.self.number l.k);
}
