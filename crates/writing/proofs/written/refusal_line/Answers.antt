-- `writing::written::refusal_line` puts the line of a refusal. Assumes nothing.
use mathlib.Core.List.{List, [], ◌∷◌}
use Prim.Native.Nat.{ℕ}
use Rattle.faults.specs.Refusals.{number_of}
use Rattle.writing.specs.Written.{decimal, no_bytes, refusal_line}
use Rattle.writing.proofs.PutLaws.{put_two}
use Rattle.writing.proofs.WrittenLaws.{line-start, line-field}
use Rattle.writing.proofs.written.refusal_line.Goals as goal

pub returns : goal.returns
unfolding refusal_line
returns c =
    let r = c.args.refusal in
    let number : List ℕ = decimal (number_of r.fault) in
    let begun = line-start no_bytes c.put_two-no.ensures in
    let first = line-field no_bytes [] number begun (rw c.from.ensures at c.number_field-number.ensures) in
    let second = line-field no_bytes (number ∷ []) (decimal r.place) first c.number_field-place.ensures in
    let third = line-field no_bytes (number ∷ decimal r.place ∷ []) (decimal r.second) second c.number_field-second.ensures in
    put_two third c.push.ensures
