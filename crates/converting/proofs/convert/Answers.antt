-- `converting::convert` meets its contract: the file is read, its table is cut and written. Assumes nothing.
use Rattle.std.proofs.lemmas.Result.{err_from_is_err_and}
use Rattle.converting.proofs.ReadingLaws.{read_refusal, read_stored}
use Rattle.converting.proofs.ConversionLaws.{reading-refused, reading-written, vertices-fit, elements-fit, vertices-within, elements-within, vertices_good}
use Rattle.converting.proofs.convert.Goals as goal

pub returns-in_err-counts : goal.returns-in_err-counts
returns-in_err-counts c =
    let p = err_from_is_err_and c.from_residual.result c.from_residual.ensures.1 in
    rw (p.1, p.2) (reading-refused c.args.input.now c.args.output.now (read_refusal c.in_err-counts.ensures))

pub overflow_mul-numbers : goal.overflow_mul-numbers
overflow_mul-numbers c = vertices-fit (read_stored c.in_ok-counts.ensures)

pub slice_bounds-numbers-end : goal.slice_bounds-numbers-end
slice_bounds-numbers-end c = vertices-within (read_stored c.in_ok-counts.ensures)

pub slice_bounds-vertices-end : goal.slice_bounds-vertices-end
slice_bounds-vertices-end c = (read_stored c.in_ok-counts.ensures).vertex_end

pub invariant_of-vertices : goal.invariant_of-vertices
invariant_of-vertices c = record { good = vertices_good (read_stored c.in_ok-counts.ensures) }

pub overflow_mul-elements : goal.overflow_mul-elements
overflow_mul-elements c = elements-fit (read_stored c.in_ok-counts.ensures)

pub slice_bounds-elements-end : goal.slice_bounds-elements-end
slice_bounds-elements-end c = elements-within (read_stored c.in_ok-counts.ensures)

pub slice_bounds-elements-end-2 : goal.slice_bounds-elements-end-2
slice_bounds-elements-end-2 c = (read_stored c.in_ok-counts.ensures).element_end

pub returns : goal.returns
returns c = reading-written c.args.input.now c.args.output.now (read_stored c.in_ok-counts.ensures) c.cut_and_write.ensures
