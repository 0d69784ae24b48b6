-- `mesh::storing::put_tet` meets its contract: four stores in a row. Assumes nothing.
use Rattle.std.proofs.Common.{[], ◌∷◌, add-one}
use native.Mathlib.Numerals.{add-two, add-three}
use Rattle.laws.proofs.LentLaws.{placed-sets}
use Rattle.tets.specs.Tets.{tet_of}
use Rattle.mesh.specs.Cutting.{flat}
use Rattle.mesh.proofs.storing.put_tet.Goals as goal

pub returns : goal.returns
unfolding flat
returns c = simp (add-one, add-two, add-three) (placed-sets c.args.out.now c.args.at (flat (tet_of c.args.t ∷ [])) c.requires)
