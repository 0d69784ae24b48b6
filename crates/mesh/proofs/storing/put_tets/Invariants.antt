-- `mesh::storing::put_tets` meets its contract. The loop's invariant: the tetrahedra before k are placed. Assumes nothing.
use Rattle.std.proofs.Common.{◌≡◌, map, take}
use Rattle.laws.specs.Lent.{placed}
use Rattle.tets.specs.Tets.{keyed}
use Rattle.mesh.specs.Cutting.{flat}
use Rattle.mesh.proofs.storing.put_tets.Given as goal

abbrev pub invariant-loop-k : goal.invariant-loop-k
invariant-loop-k l = l.out ≡ placed l.fn.out 0 (flat (map keyed (take l.k l.keys)))
