-- `signs::counting::volume_at` meets its contract: the sixfold volume of four points of the table, none of which is refused. Assumes nothing.
use Rattle.std.proofs.Common.{◌≡◌, ◌∙◌, sym, rules}
use mir.Syntax.{w64}
use mir.Facts.{to_z-of_z}
use Rattle.signs.proofs.VolumeLaws.{volume_done}
use Rattle.signs.proofs.counting.volume_at.Goals as goal

pub returns : goal.returns
returns c =
    let done = volume_done c.args.vertices.now c.args.t c.requires c.from.ensures c.from-2.ensures c.from-3.ensures c.from-4.ensures
    c.point_at-a.ensures c.point_at-b.ensures c.point_at-c.ensures c.point_at-d.ensures c.sixfold_volume.ensures in
    let e = sym c.unwrap.ensures ∙ done in
    to_z-of_z {w = w64} {z = c.unwrap.result} (record { sfits = c.unwrap.type_inv }) ∙ (let z : c.unwrap.result ≡ _ = cc in z)

pub unwrap-requires : goal.unwrap-requires
unwrap-requires c =
    let done = volume_done c.args.vertices.now c.args.t c.requires c.from.ensures c.from-2.ensures c.from-3.ensures c.from-4.ensures
    c.point_at-a.ensures c.point_at-b.ensures c.point_at-c.ensures c.point_at-d.ensures c.sixfold_volume.ensures in
    rw done (search rules)
