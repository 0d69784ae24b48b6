-- `writing::write_end` writes EN. Assumes nothing.
use native.Mathlib.Omega.{arith}
use Rattle.std.proofs.Common.{rules}
use Rattle.writing.specs.Written.{closed, end_line}
use Rattle.writing.proofs.WrittenLaws.{end_line_short}
use Rattle.writing.proofs.WriteLaws.{refused_done, same-done, many, few_of_both}
use Rattle.writing.proofs.write_end.Goals as goal

pub returns-then-vertices-gt-VERTEX_LIMIT : goal.returns-then-vertices-gt-VERTEX_LIMIT
returns-then-vertices-gt-VERTEX_LIMIT c =
    refused_done c.args.buffer.now (many c.args.vertices c.args.elements _ c.then-vertices-gt-VERTEX_LIMIT.either) c.at.ensures

pub write_line-requires-clause-short : goal.write_line-requires-clause-short
write_line-requires-clause-short c =
    let v = c.args.vertices in
    let e = c.args.elements in
    let short = end_line_short v e c.if-vertices-gt-VERTEX_LIMIT.false c.if-elements-gt-TETRAHEDRON_LIMIT.false in
    (closed (end_line v e), omega arith, λ old new n call. search rules)

pub returns : goal.returns
returns c =
    let v = c.args.vertices in
    let e = c.args.elements in
    let few = c.if-vertices-gt-VERTEX_LIMIT.false in
    let small = c.if-elements-gt-TETRAHEDRON_LIMIT.false in
    same-done (few_of_both v e _ few small)
    (c.write_line.ensures (closed (end_line v e)) (omega (arith, end_line_short v e few small)) (λ old new n call. search rules))
