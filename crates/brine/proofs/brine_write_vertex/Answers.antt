-- `brine::brine_write_vertex` tells what `writing::write_vertex` answers, and leaves what it leaves. Assumes nothing.
use Rattle.std.proofs.Common.{refl, ap, ◌∙◌}
use mir.Facts.{to_z-of_z}
use Rattle.writing.specs.Writing.{write_verdict}
use Rattle.brine.specs.Front.{answer_to}
use Rattle.brine.proofs.FrontLaws.{same_verdict, answered}
use Rattle.brine.proofs.brine_write_vertex.Goals as goal

pub returns : goal.returns
unfolding write_verdict
returns c =
    let r = c.ranges in
    let entry = rw (to_z-of_z r.x, to_z-of_z r.y, to_z-of_z r.z) at c.write_vertex-written.ensures in
    record {
      answered = answered (ap (answer_to 1) (same_verdict _ write_verdict (λ v. refl) (λ r. refl) _) ∙ entry.answer) c.tell.ensures;
      left = entry.buffer;
    }
