-- `judging::judge_mesh` meets its contract: the records, then the pairs.
-- Assumes nothing.
use Rattle.std.proofs.Common.{◌≡◌, sym, ℕ, List, Result, Ok, Err}
use Rattle.std.proofs.lemmas.Result.{err_from_is_err_and}
use Rattle.faults.specs.declared.Refusal.{Refusal}
use Rattle.faults.specs.Refusals.{ruled}
use Rattle.faults.proofs.RefusalLaws.{ruled-refused, ruled_passed}
use Rattle.records.specs.Record.{first_elements}
use Rattle.tables.specs.JudgedRecords.{records_judged}
use Rattle.judging.specs.Judge.{pairs_judged, JudgeDone}
use Rattle.judging.specs.Judgement.{Recorded}
use Rattle.judging.proofs.TableVerdictLaws.{records_refused, records_passed, pairs_judging}
use Rattle.judging.proofs.ChainLaws.{recorded_numbered}
use Rattle.judging.proofs.JudgeAnswerLaws.{judge_done}
use Rattle.judging.proofs.judge_mesh.Goals as goal

-- what the records are judged to be
module _ (v n : ℕ) (t : List ℕ) where
  refusing : {x : Refusal} → Err x ≡ ruled (records_judged v n t) → JudgeDone v n t (Err x)
  refusing {x} e = judge_done v n t (Err x) (records_refused v n t x (ruled-refused (records_judged v n t) x (sym e)))

  passing : Ok tt ≡ ruled (records_judged v n t) → Recorded v n t
  passing e = let p = ruled_passed (records_judged v n t) (sym e) in records_passed v n t p.0 p.1

  pairing : Ok tt ≡ ruled (records_judged v n t) → {s : Result (Unit {0}) Refusal} → s ≡ ruled (pairs_judged t n (first_elements t n)) → JudgeDone v n t s
  pairing e {s} f = judge_done v n t s (pairs_judging v n t (passing e) s f)

pub invariant_of-judge_pairs : goal.invariant_of-judge_pairs
invariant_of-judge_pairs c =
    let a = c.args in
    record {
      numbered = recorded_numbered a.vertex_count a.element_count a.elements.now (passing a.vertex_count a.element_count a.elements.now c.in_ok-judge_records.ensures);
    }

pub returns-in_err-judge_records : goal.returns-in_err-judge_records
returns-in_err-judge_records c =
    let a = c.args in
    let p = err_from_is_err_and c.from_residual.result c.from_residual.ensures.1 in
    rw (p.1, p.2) (refusing a.vertex_count a.element_count a.elements.now c.in_err-judge_records.ensures)

pub returns : goal.returns
returns c =
    let a = c.args in
    pairing a.vertex_count a.element_count a.elements.now c.in_ok-judge_records.ensures c.judge_pairs.ensures
