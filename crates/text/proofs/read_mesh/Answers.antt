-- `text::read_mesh` meets its contract: it judges a file and keeps its records, and copies those of an accepted one. Assumes nothing.
use mathlib.Core.Path.{sym, ◌∙◌}
use lib.Seq.{length-take-le}
use Rattle.std.proofs.lemmas.Result.{err_from_is_err_and}
use Rattle.text.proofs.ReadLaws.{rooms_kept, accepted_done, refused_done}
use Rattle.text.proofs.read_mesh.Goals as goal

pub returns-in_err-counts : goal.returns-in_err-counts
returns-in_err-counts c =
    let p = err_from_is_err_and c.from_residual.result c.from_residual.ensures.1 in
    rw (p.1, p.2) (refused_done _ _ _ _ c.in_err-counts.ensures.answer)

pub slice_bounds-copy_from_slice-end : goal.slice_bounds-copy_from_slice-end
slice_bounds-copy_from_slice-end c = (rooms_kept _ _ _ _ c.in_ok-counts.ensures.answer).0

pub slice_bounds-copy_from_slice-end-2 : goal.slice_bounds-copy_from_slice-end-2
slice_bounds-copy_from_slice-end-2 c = sym (length-take-le _ _ (rooms_kept _ _ _ _ c.in_ok-counts.ensures.answer).0)

pub copy_from_slice-requires : goal.copy_from_slice-requires
copy_from_slice-requires c =
    length-take-le _ _ (rooms_kept _ _ _ _ c.in_ok-counts.ensures.answer).0 ∙ sym (length-take-le _ _ c.in_ok-counts.ensures.kept.vertex_long)

pub slice_bounds-copy_from_slice-end-4 : goal.slice_bounds-copy_from_slice-end-4
slice_bounds-copy_from_slice-end-4 c = (rooms_kept _ _ _ _ c.in_ok-counts.ensures.answer).1

pub slice_bounds-copy_from_slice-end-5 : goal.slice_bounds-copy_from_slice-end-5
slice_bounds-copy_from_slice-end-5 c = sym (length-take-le _ _ (rooms_kept _ _ _ _ c.in_ok-counts.ensures.answer).1)

pub copy_from_slice-requires-2 : goal.copy_from_slice-requires-2
copy_from_slice-requires-2 c =
    length-take-le _ _ (rooms_kept _ _ _ _ c.in_ok-counts.ensures.answer).1 ∙ sym (length-take-le _ _ c.in_ok-counts.ensures.kept.element_long)

pub returns : goal.returns
returns c = accepted_done _ _ _ _ c.in_ok-counts.ensures.answer _ _ c.in_ok-counts.ensures.kept _ _ c.copy_from_slice.ensures.after c.copy_from_slice-2.ensures.after
