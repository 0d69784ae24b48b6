-- `blocks::cut_blocks` meets its contract: refused as it is judged, with nothing written, or the blocks of all elements.
-- Assumes nothing.
use Rattle.std.proofs.lemmas.Result.{err_from_is_err_and}
use Rattle.judging.proofs.Theorems.{judge_told}
use Rattle.blocks.proofs.BlocksAnswerLaws.{nothing_cut, all_cut}
use Rattle.blocks.proofs.cut_blocks.Goals as goal

pub fill_blocks-requires-clause-whole_table : goal.fill_blocks-requires-clause-whole_table
fill_blocks-requires-clause-whole_table c = (judge_told _ _ _ _ c.in_ok-judge_mesh.ensures).table

pub returns-in_err-judge_mesh : goal.returns-in_err-judge_mesh
returns-in_err-judge_mesh c =
    let p = err_from_is_err_and c.from_residual.result c.from_residual.ensures.1 in
    rw (p.1, p.2) (nothing_cut (judge_told _ _ _ _ c.in_err-judge_mesh.ensures))

pub returns : goal.returns
returns c = all_cut (judge_told _ _ _ _ c.in_ok-judge_mesh.ensures).verdict c.fill_blocks.ensures
