-- `writing::write_refusal` writes the line of a refusal. Assumes nothing.
use Rattle.std.proofs.Common.{rules}
use Rattle.writing.specs.Written.{refusal_line}
use Rattle.writing.specs.Writing.{write_refusal_verdict}
use Rattle.writing.proofs.WrittenLaws.{refusal_line_short}
use Rattle.writing.proofs.write_refusal.Goals as goal

pub write_line-requires-clause-short : goal.write_line-requires-clause-short
write_line-requires-clause-short c =
    let refusal = c.args.refusal in
    (refusal_line refusal, refusal_line_short refusal (search rules) (search rules), λ old new n call. search rules)

pub returns : goal.returns
unfolding write_refusal_verdict
returns c =
    let refusal = c.args.refusal in
    c.write_line.ensures (refusal_line refusal) (refusal_line_short refusal (search rules) (search rules)) (λ old new n call. search rules)
