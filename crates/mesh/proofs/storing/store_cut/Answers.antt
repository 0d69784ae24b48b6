-- `mesh::storing::store_cut` meets its contract: ROOM, or the tetrahedra of the keys. Assumes nothing.
use Rattle.mesh.proofs.CutAnswerLaws.{no_room, with_room}
use Rattle.mesh.proofs.storing.store_cut.Goals as goal

pub returns-then-out-keys : goal.returns-then-out-keys
returns-then-out-keys c = rw c.at.ensures (no_room c.args.keys.now c.args.out.now c.if-out-keys.true)

pub returns : goal.returns
returns c = with_room c.args.keys.now c.args.out.now c.if-out-keys.false c.put_tets.ensures
