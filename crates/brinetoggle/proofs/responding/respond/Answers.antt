-- `brinetoggle::respond` leaves what the program writes. Assumes nothing.
use borrow.Author.Rules.{rules}
use Rattle.converting.proofs.PutTextLaws.{wrote-ok}
use Rattle.brinetoggle.proofs.RespondingLaws.{mesh_responded, refusal-wrote, refusal_responded}
use Rattle.brinetoggle.proofs.responding.respond.Goals as goal

pub returns-in-Ok : goal.returns-in-Ok
returns-in-Ok c =
    let a = c.args in
    mesh_responded a.input.now a.output.now _ c.convert.result c.requires (search rules) c.convert.ensures _ c.in-Ok.is

pub unwrap-requires : goal.unwrap-requires
unwrap-requires c = wrote-ok (refusal-wrote c.in-Err.refusal (search rules) (search rules) (search rules) c.write_refusal.ensures)

pub returns-in-Err : goal.returns-in-Err
returns-in-Err c =
    let a = c.args in
    let wrote = refusal-wrote c.in-Err.refusal (search rules) (search rules) (search rules) c.write_refusal.ensures in
    refusal_responded a.input.now a.output.now _ c.convert.result c.requires (search rules) c.convert.ensures _ c.unwrap.result _ (search rules) c.in-Err.is
    (rw c.unwrap.ensures at wrote)
