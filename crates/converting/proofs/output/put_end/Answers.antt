-- `converting::output::put_end` puts EN. Assumes nothing.
use native.Mathlib.Omega.{arith}
use Rattle.writing.proofs.Theorems.{end-written, end_line_short}
use Rattle.converting.specs.Converting.{longest_end}
use Rattle.converting.proofs.PutTextLaws.{put_written, wrote-ok}
use Rattle.converting.proofs.output.put_end.Goals as goal

pub unwrap-requires : goal.unwrap-requires
unwrap-requires c =
    let a = c.args in
    let r = c.requires in
    let short = end_line_short a.vertices a.tetrahedra r.few_vertices r.few_tetrahedra in
    wrote-ok (end-written _ a.out.now _ a.vertices a.tetrahedra r.few_vertices r.few_tetrahedra c.write_end.ensures (omega (arith, r.room)))

pub returns : goal.returns
returns c =
    let a = c.args in
    let r = c.requires in
    let short = end_line_short a.vertices a.tetrahedra r.few_vertices r.few_tetrahedra in
    put_written longest_end
    (end-written _ a.out.now _ a.vertices a.tetrahedra r.few_vertices r.few_tetrahedra c.write_end.ensures (omega (arith, r.room)))
    short c.unwrap.ensures
