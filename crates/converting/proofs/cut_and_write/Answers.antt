-- `converting::cut_and_write` cuts a table that was read, and writes the cut mesh or the refusal. Assumes nothing.
use Rattle.std.proofs.Common.{◌/◌, length}
use Rattle.limits.specs.Limits.{vertex_width}
use Rattle.std.proofs.lemmas.Result.{err_from_is_err_and}
use Rattle.converting.proofs.ConversionLaws.{cutting_refused, cutting_fits, cutting_room, cutting_good, cutting_written}
use Rattle.converting.proofs.CutLaws.{cut_stored, cut_refusal}
use Rattle.converting.proofs.cut_and_write.Goals as goal

pub returns-in_err-count : goal.returns-in_err-count
returns-in_err-count c =
    let a = c.args in
    let vertices = a.vertices.now in
    let p = err_from_is_err_and c.from_residual.result c.from_residual.ensures.1 in
    rw (p.1, p.2)
    (cutting_refused vertices.numbers.now (length vertices.numbers.now / vertex_width) a.elements.now a.element_count a.output.now (cut_refusal (rw c.count.ensures at c.in_err-count.ensures)))

pub overflow_mul-numbers : goal.overflow_mul-numbers
overflow_mul-numbers c = cutting_fits (cut_stored c.in_ok-count.ensures)

pub slice_bounds-numbers-end : goal.slice_bounds-numbers-end
slice_bounds-numbers-end c = cutting_room (cut_stored c.in_ok-count.ensures)

pub slice_bounds-tetrahedra-end : goal.slice_bounds-tetrahedra-end
slice_bounds-tetrahedra-end c = (cut_stored c.in_ok-count.ensures).end

pub invariant_of-tetrahedra : goal.invariant_of-tetrahedra
invariant_of-tetrahedra c = record { good = cutting_good (cut_stored (rw c.count.ensures at c.in_ok-count.ensures)) c.args.vertices.now.good.few }

pub returns : goal.returns
returns c =
    let a = c.args in
    let vertices = a.vertices.now in
    cutting_written vertices.numbers.now (length vertices.numbers.now / vertex_width) a.elements.now a.element_count a.output.now (cut_stored (rw c.count.ensures at c.in_ok-count.ensures)) c.write_cut.ensures
