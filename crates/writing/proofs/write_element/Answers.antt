-- `writing::write_element` writes the record of an element. Assumes nothing.
use native.Mathlib.Omega.{arith}
use mathlib.Core.Path.{sym}
use Rattle.std.proofs.Common.{rules}
use Rattle.writing.specs.Written.{closed, element_line}
use Rattle.writing.proofs.WrittenLaws.{element_line_short}
use Rattle.writing.proofs.WriteLaws.{refused_done, same-done, faulty, faultless}
use Rattle.writing.proofs.write_element.Goals as goal

pub returns-in-Err : goal.returns-in-Err
returns-in-Err c = refused_done c.args.buffer.now (faulty c.args.element _ _ (sym c.in-Err.ensures)) c.at.ensures

pub write_line-requires-clause-short : goal.write_line-requires-clause-short
write_line-requires-clause-short c =
    let element = c.args.element in
    (closed (element_line element), omega (arith, element_line_short element (sym c.in-Ok.ensures)), λ old new n call. search rules)

pub returns-in-Ok : goal.returns-in-Ok
returns-in-Ok c =
    let element = c.args.element in
    let clean = sym c.in-Ok.ensures in
    same-done (faultless element _ clean)
    (c.write_line.ensures (closed (element_line element)) (omega (arith, element_line_short element clean)) (λ old new n call. search rules))
