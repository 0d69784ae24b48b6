-- `converting::output::put_mesh` puts vertices, tetrahedra and EN one behind the other. Assumes nothing.
use Rattle.std.proofs.Common.{◌/◌, length}
use Rattle.limits.specs.Limits.{vertex_width, tetrahedron_width}
use Rattle.converting.proofs.PutTextLaws.{mesh_put}
use Rattle.converting.proofs.output.put_mesh.Goals as goal

pub returns : goal.returns
returns c =
    let vertices = c.args.vertices.now in
    let tetrahedra = c.args.tetrahedra.now in
    mesh_put vertices.numbers.now (length vertices.numbers.now / vertex_width) tetrahedra.numbers.now (length tetrahedra.numbers.now / tetrahedron_width) vertices.good.few tetrahedra.good.few c.args.out.now c.requires
    c.put_lines-first.ensures c.put_lines.ensures (rw (c.count.ensures, c.count-2.ensures) at c.put_end.ensures)
