-- `brine::brine_convert` tells what `converting::convert` answers, and leaves what it leaves. Assumes nothing.
use Rattle.std.proofs.Common.{refl, ap, ◌∙◌}
use Rattle.converting.specs.Converting.{convert_verdict}
use Rattle.brine.specs.Front.{answer_to}
use Rattle.brine.proofs.FrontLaws.{same_verdict, answered}
use Rattle.brine.proofs.brine_convert.Goals as goal

pub returns : goal.returns
unfolding convert_verdict
returns c =
    let entry = c.convert-converted.ensures in
    record {
      answered = answered (ap (answer_to 1) (same_verdict _ convert_verdict (λ v. refl) (λ r. refl) _) ∙ entry.left.answer) c.tell.ensures;
      left = entry.left.output;
    }
