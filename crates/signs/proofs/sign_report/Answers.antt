-- `signs::sign_report` meets its contract: refused as judged, or ROOM or RANGE of the vertex table, or the four counts.
-- Assumes nothing.
use Rattle.std.proofs.Common.{◌∙◌, sym, ap, ℕ, ◌≤◌, length, arith}
use Rattle.std.proofs.lemmas.List.{length-take-le}
use Rattle.std.proofs.lemmas.Result.{err_from_is_err_and}
use lib.ListN.{replicate, length-replicate}
use Rattle.limits.specs.Limits.{element_limit, tetrahedron_limit}
use Rattle.blocks.proofs.Theorems.{blocks_refused, blocks_cut}
use Rattle.vertices.proofs.Theorems.{ruled_passed}
use Rattle.signs.specs.SignLoops.{block_counts}
use Rattle.signs.proofs.PartedLaws.{blocks_are, blocks_ranged, keys_enough, sizes_enough}
use Rattle.signs.proofs.SignCountLaws.{element_blocks}
use Rattle.signs.proofs.SignAnswerLaws.{table-refused, vertices-refused, all_counted}
use Rattle.signs.proofs.sign_report.Goals as goal

-- both arrays are as long as the limits
key_room : tetrahedron_limit ≤ length {A = ℕ} (replicate 6144 0)
key_room = omega (arith, length-replicate {A = ℕ} 6144 0)

size_room : element_limit ≤ length {A = ℕ} (replicate 1024 0)
size_room = omega (arith, length-replicate {A = ℕ} 1024 0)

pub returns-in_err-count : goal.returns-in_err-count
returns-in_err-count c =
    let p = err_from_is_err_and c.from_residual.result c.from_residual.ensures.1 in
    rw (p.1, p.2) (table-refused (blocks_refused c.in_err-count.ensures))

pub slice_bounds-keys-end : goal.slice_bounds-keys-end
slice_bounds-keys-end c = keys_enough (blocks_cut c.in_ok-count.ensures) key_room

pub slice_bounds-count_signs-end : goal.slice_bounds-count_signs-end
slice_bounds-count_signs-end c =
    sym (length-take-le c.in_ok-count.count c.cut_blocks.new.keys (keys_enough (blocks_cut c.in_ok-count.ensures) key_room))

pub slice_bounds-sizes-end : goal.slice_bounds-sizes-end
slice_bounds-sizes-end c = sizes_enough (blocks_cut c.in_ok-count.ensures) size_room

pub slice_bounds-count_signs-end-2 : goal.slice_bounds-count_signs-end-2
slice_bounds-count_signs-end-2 c =
    sym (length-take-le c.args.element_count c.cut_blocks.new.sizes (sizes_enough (blocks_cut c.in_ok-count.ensures) size_room))

pub returns-in_err-judge_vertices : goal.returns-in_err-judge_vertices
returns-in_err-judge_vertices c =
    let p = err_from_is_err_and c.from_residual-in_err-judge_vertices.result c.from_residual-in_err-judge_vertices.ensures.1 in
    rw (p.1, p.2) (vertices-refused (blocks_cut c.in_ok-count.ensures).accepts (sym c.in_err-judge_vertices.ensures))

pub count_signs-requires : goal.count_signs-requires
count_signs-requires c =
    let table = c.args.vertices.now in
    blocks_ranged (blocks_cut c.in_ok-count.ensures) table (ruled_passed table c.args.vertex_count (sym c.in_ok-judge_vertices.ensures))

pub returns : goal.returns
returns c =
    let table = c.args.vertices.now in
    let b = blocks_cut c.in_ok-count.ensures in
    all_counted b.accepts
    (ruled_passed table c.args.vertex_count (sym c.in_ok-judge_vertices.ensures))
    (c.count_signs.ensures ∙ ap (block_counts table) (blocks_are b) ∙ element_blocks table b.elements)
