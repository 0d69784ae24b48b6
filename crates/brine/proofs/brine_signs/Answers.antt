-- `brine::brine_signs` tells what `signs::sign_report` answers. Assumes nothing.
use Rattle.std.proofs.Common.{refl, ap, ◌∙◌}
use Rattle.signs.specs.Signs.{sign_verdict}
use Rattle.brine.specs.Front.{answer_to}
use Rattle.brine.proofs.FrontLaws.{same_verdict, answered}
use Rattle.brine.proofs.brine_signs.Goals as goal

pub returns : goal.returns
returns c =
    let entry = c.sign_report-signs.ensures in
    answered (ap (answer_to 4) (same_verdict _ sign_verdict (λ v. refl) (λ r. refl) _) ∙ entry.answer) c.tell.ensures
