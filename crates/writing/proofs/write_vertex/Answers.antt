-- `writing::write_vertex` writes the record of a vertex. Assumes nothing.
use native.Mathlib.Omega.{arith}
use mathlib.Core.Path.{◌≡◌, sym, ◌∙◌}
use mathlib.Core.Bool.{true, ◌&&◌}
use mir.Facts.{to_z-of_z}
use Rattle.std.proofs.Common.{rules}
use Rattle.volume.specs.Volume.{in_range, point_in_range}
use Rattle.writing.specs.Written.{closed, vertex_line}
use Rattle.writing.proofs.WrittenLaws.{vertex_line_short}
use Rattle.writing.proofs.WriteLaws.{refused_done, same-done, beyond, within}
use Rattle.writing.proofs.write_vertex.Goals as goal

pub returns-then-not-point_in_range : goal.returns-then-not-point_in_range
unfolding point_in_range
returns-then-not-point_in_range c =
    let a = c.args in
    let r = c.ranges in
    refused_done a.buffer.now
    (beyond a.x a.y a.z _ (sym (rw (to_z-of_z r.x, to_z-of_z r.y, to_z-of_z r.z) at c.point_in_range.ensures) ∙ c.if-not-point_in_range.true)) c.at.ensures

pub write_line-requires-clause-short : goal.write_line-requires-clause-short
unfolding point_in_range
write_line-requires-clause-short c =
    let a = c.args in
    let r = c.ranges in
    let inside : (in_range a.x && (in_range a.y && in_range a.z)) ≡ true =
    sym (rw (to_z-of_z r.x, to_z-of_z r.y, to_z-of_z r.z) at c.point_in_range.ensures) ∙ c.if-not-point_in_range.false in
    (closed (vertex_line a.x a.y a.z), omega (arith, vertex_line_short a.x a.y a.z inside), λ old new n call. search rules)

pub returns : goal.returns
unfolding point_in_range
returns c =
    let a = c.args in
    let r = c.ranges in
    let inside : (in_range a.x && (in_range a.y && in_range a.z)) ≡ true =
    sym (rw (to_z-of_z r.x, to_z-of_z r.y, to_z-of_z r.z) at c.point_in_range.ensures) ∙ c.if-not-point_in_range.false in
    same-done (within a.x a.y a.z _ inside) (c.write_line.ensures (closed (vertex_line a.x a.y a.z)) (omega (arith, vertex_line_short a.x a.y a.z inside)) (λ old new n call. search rules))
