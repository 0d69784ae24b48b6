-- `writing::written::end_line` puts the line EN. Assumes nothing.
use mathlib.Core.List.{List, [], ◌∷◌}
use Prim.Native.Nat.{ℕ}
use Rattle.format.specs.Line.{mark_bytes}
use Rattle.format.specs.declared.Mark.TheVariants.{En}
use Rattle.writing.specs.Written.{decimal, end_line}
use Rattle.writing.proofs.PutLaws.{put_two}
use Rattle.writing.proofs.WrittenLaws.{line-start, line-field}
use Rattle.writing.proofs.written.end_line.Goals as goal

pub returns : goal.returns
unfolding end_line
returns c =
    let a = c.args in
    let mark : List ℕ = mark_bytes En in
    let begun = line-start mark c.put_mark-mark.ensures in
    let first = line-field mark [] (decimal a.vertices) begun c.number_field-first.ensures in
    let second = line-field mark (decimal a.vertices ∷ []) (decimal a.elements) first c.number_field-second.ensures in
    put_two second c.push.ensures
