-- `brine::brine_write_element` tells what `writing::write_element` answers, and leaves what it leaves. Assumes nothing.
use Rattle.std.proofs.Common.{refl, ap, ◌∙◌}
use Rattle.writing.specs.Writing.{write_verdict}
use Rattle.brine.specs.Front.{answer_to}
use Rattle.brine.proofs.FrontLaws.{same_verdict, answered}
use Rattle.brine.proofs.brine_write_element.Goals as goal

pub returns : goal.returns
unfolding write_verdict
returns c =
    let entry = c.write_element-written.ensures in
    record {
      answered = answered (ap (answer_to 1) (same_verdict _ write_verdict (λ v. refl) (λ r. refl) _) ∙ entry.answer) c.tell.ensures;
      left = entry.buffer;
    }
