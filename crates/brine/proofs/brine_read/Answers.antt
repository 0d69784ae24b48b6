-- `brine::brine_read` tells what `text::read_mesh` answers, and leaves what it leaves. Assumes nothing.
use Rattle.std.proofs.Common.{refl, ap, ◌∙◌}
use Rattle.text.specs.Reading.{verdict_of}
use Rattle.brine.specs.Front.{answer_to}
use Rattle.brine.proofs.FrontLaws.{same_verdict, answered}
use Rattle.brine.proofs.brine_read.Goals as goal

pub returns : goal.returns
unfolding verdict_of
returns c =
    let entry = c.read_mesh-read.ensures in
    record {
      answered = answered (ap (answer_to 2) (same_verdict _ verdict_of (λ v. refl) (λ r. refl) _) ∙ entry.answer) c.tell.ensures;
      left = λ i. (entry.vertex_table i, entry.element_table i);
    }
