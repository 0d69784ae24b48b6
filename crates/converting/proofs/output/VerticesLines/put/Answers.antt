-- `converting::output::Vertices::put` puts the line of a vertex. Assumes nothing.
use Rattle.std.proofs.Common.{get_or, pos, ◌*◌, ◌+◌}
use mir.Syntax.{w32}
use mir.Facts.{to_z-of_z}
use borrow.Author.Rules.{rules}
use Rattle.converting.specs.Converting.{longest_vertex}
use Rattle.converting.proofs.PutTextLaws.{put_written, wrote-ok}
use Rattle.converting.proofs.GoodTableLaws.{vertex-short, vertex_wrote}
use Rattle.converting.proofs.output.VerticesLines.put.Goals as goal

pub unwrap-requires : goal.unwrap-requires
unwrap-requires c =
    let vertices = c.args.self.now in
    let t = vertices.numbers.now in
    let k = c.args.k in
    wrote-ok
    (vertex_wrote t k vertices.good c.requires.within c.args.out.now
    (to_z-of_z {w = w32} {z = get_or t (3 * k) (pos 0)} (search rules))
    (to_z-of_z {w = w32} {z = get_or t (3 * k + 1) (pos 0)} (search rules))
    (to_z-of_z {w = w32} {z = get_or t (3 * k + 2) (pos 0)} (search rules))
    c.requires.room c.write_vertex.ensures)

pub returns : goal.returns
returns c =
    let vertices = c.args.self.now in
    let t = vertices.numbers.now in
    let k = c.args.k in
    put_written longest_vertex
    (vertex_wrote t k vertices.good c.requires.within c.args.out.now
    (to_z-of_z {w = w32} {z = get_or t (3 * k) (pos 0)} (search rules))
    (to_z-of_z {w = w32} {z = get_or t (3 * k + 1) (pos 0)} (search rules))
    (to_z-of_z {w = w32} {z = get_or t (3 * k + 2) (pos 0)} (search rules))
    c.requires.room c.write_vertex.ensures)
    (vertex-short t k vertices.good c.requires.within) c.unwrap.ensures
