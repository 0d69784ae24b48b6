-- `brine::brine_judge` tells what `judging::judge_mesh` answers. Assumes nothing.
use Rattle.std.proofs.Common.{refl, ap, ◌∙◌}
use Rattle.judging.specs.Judge.{judge_verdict}
use Rattle.brine.specs.Front.{answer_to}
use Rattle.brine.proofs.FrontLaws.{same_verdict, answered}
use Rattle.brine.proofs.brine_judge.Goals as goal

pub returns : goal.returns
returns c =
    let entry = c.judge_mesh-judged.ensures in
    answered (ap (answer_to 0) (same_verdict _ judge_verdict (λ v. refl) (λ r. refl) _) ∙ entry.answer) c.tell.ensures
