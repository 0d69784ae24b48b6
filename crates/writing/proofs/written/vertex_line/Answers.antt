-- `writing::written::vertex_line` puts the line of a vertex. Assumes nothing.
use mathlib.Core.List.{List, [], ◌∷◌}
use Prim.Native.Nat.{ℕ}
use mir.Facts.{to_z-of_z}
use Rattle.format.specs.Line.{mark_bytes}
use Rattle.format.specs.declared.Mark.TheVariants.{Vx}
use Rattle.writing.specs.Written.{coordinate_text, vertex_line}
use Rattle.writing.proofs.PutLaws.{put_two}
use Rattle.writing.proofs.WrittenLaws.{line-start, line-field}
use Rattle.writing.proofs.written.vertex_line.Goals as goal

pub returns : goal.returns
unfolding vertex_line
returns c =
    let mark : List ℕ = mark_bytes Vx in
    let x : List ℕ = coordinate_text c.args.x in
    let y : List ℕ = coordinate_text c.args.y in
    let z : List ℕ = coordinate_text c.args.z in
    let begun = line-start mark c.put_mark-mark.ensures in
    let first = line-field mark [] x begun (rw (to_z-of_z c.ranges.x) at c.coordinate_field-first.ensures) in
    let second = line-field mark (x ∷ []) y first (rw (to_z-of_z c.ranges.y) at c.coordinate_field-second.ensures) in
    let third = line-field mark (x ∷ y ∷ []) z second (rw (to_z-of_z c.ranges.z) at c.coordinate_field-third.ensures) in
    put_two third c.push.ensures
