-- `brine::brine_cut` tells what `mesh::cut_mesh` answers, and leaves what it leaves. Assumes nothing.
use Rattle.std.proofs.Common.{refl, ap, ◌∙◌}
use Rattle.mesh.specs.Cutting.{cut_verdict}
use Rattle.brine.specs.Front.{answer_to}
use Rattle.brine.proofs.FrontLaws.{same_verdict, answered}
use Rattle.brine.proofs.brine_cut.Goals as goal

pub returns : goal.returns
returns c =
    let entry = c.cut_mesh-cut.ensures in
    record {
      answered = answered (ap (answer_to 1) (same_verdict _ cut_verdict (λ v. refl) (λ r. refl) _) ∙ entry.answer) c.tell.ensures;
      left = entry.output;
    }
