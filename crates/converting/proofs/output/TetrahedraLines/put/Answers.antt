-- `converting::output::Tetrahedra::put` puts the line of a tetrahedron. Assumes nothing.
use Rattle.converting.specs.Converting.{longest_tetrahedron}
use Rattle.converting.specs.ConversionLoops.{tetrahedron_record}
use Rattle.converting.proofs.PutTextLaws.{put_written, wrote-ok}
use Rattle.converting.proofs.GoodTableLaws.{tetrahedron-short, tetrahedron_wrote}
use Rattle.converting.proofs.output.TetrahedraLines.put.Goals as goal

pub unwrap-requires : goal.unwrap-requires
unfolding tetrahedron_record
unwrap-requires c =
    let tetrahedra = c.args.self.now in
    let r = c.requires in
    wrote-ok
    (tetrahedron_wrote tetrahedra.numbers.now c.args.k tetrahedra.good r.within c.args.out.now c.tetrahedron_record-record.ensures r.room c.write_element.ensures)

pub returns : goal.returns
unfolding tetrahedron_record
returns c =
    let tetrahedra = c.args.self.now in
    let r = c.requires in
    put_written longest_tetrahedron
    (tetrahedron_wrote tetrahedra.numbers.now c.args.k tetrahedra.good r.within c.args.out.now c.tetrahedron_record-record.ensures r.room c.write_element.ensures)
    (tetrahedron-short tetrahedra.numbers.now c.args.k tetrahedra.good r.within) c.unwrap.ensures
