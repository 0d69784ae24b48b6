-- `mesh::cut_mesh` meets its contract: refused as it is judged, or what is stored of its blocks.
-- Assumes nothing.
use Rattle.std.proofs.Common.{ℕ, ◌≤◌, length, sym, arith}
use Rattle.std.proofs.lemmas.List.{length-take-le}
use Rattle.std.proofs.lemmas.Result.{err_from_is_err_and}
use lib.ListN.{replicate, length-replicate}
use Rattle.limits.specs.Limits.{tetrahedron_limit}
use Rattle.mesh.proofs.CutAnswerLaws.{table-refused, keys_enough, table-cut}
use Rattle.mesh.proofs.cut_mesh.Goals as goal

-- all keys of the limit are there
enough : tetrahedron_limit ≤ length {A = ℕ} (replicate 6144 0)
enough = omega (arith, length-replicate {A = ℕ} 6144 0)

pub returns-in_err-count : goal.returns-in_err-count
returns-in_err-count c =
    let p = err_from_is_err_and c.from_residual.result c.from_residual.ensures.1 in
    rw (p.1, p.2) (table-refused c.in_err-count.ensures)

pub slice_bounds-keys-end : goal.slice_bounds-keys-end
slice_bounds-keys-end c = keys_enough c.in_ok-count.ensures enough

pub slice_bounds-store_cut-end : goal.slice_bounds-store_cut-end
slice_bounds-store_cut-end c = sym (length-take-le c.in_ok-count.count c.cut_blocks.new.keys (keys_enough c.in_ok-count.ensures enough))

pub returns : goal.returns
returns c = table-cut c.in_ok-count.ensures c.store_cut.ensures
