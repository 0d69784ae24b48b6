-- From the judgement to the answer of the entry, and back: the answer tells the judgement.
-- Assumes nothing.
use mathlib.Core.Path.{◌≡◌, refl, sym, ap, ◌∙◌}
use mathlib.Core.List.{List, []}
use Rattle.std.specs.Prelude.{Result, Ok, Err}
use Prim.Native.Nat.{ℕ}
use Rattle.faults.specs.declared.Refusal.{Refusal}
use Rattle.faults.specs.Refusals.{Verdict, accepted, refused, and_then, answer_of}
use Rattle.faults.proofs.Theorems.{answer_tells_verdict}
use Rattle.solids.specs.Solids.{Element}
use Rattle.judging.specs.Judge.{judged, judge_verdict, JudgeDone}
use Rattle.judging.specs.Judgement.{Judging}
use Rattle.judging.proofs.AcceptedTableLaws.{accepted_recorded, accepted-elements}

module _ (v n : ℕ) (t : List ℕ) where
  -- the answer of judging
  pub judge_done : (r : Result (Unit {0}) Refusal) → Judging v n t r → JudgeDone v n t r
  judge_done (Ok u) h = record { answer = ap (λ (x : Verdict (List _)). answer_of [] (and_then x λ es. accepted [])) (sym h.verdict) }
  judge_done (Err x) h = record { answer = ap (λ (y : Verdict (List _)). answer_of [] (and_then y λ es. accepted [])) (sym h) }

  -- what it tells of the table
  pub judge_told : (r : Result (Unit {0}) Refusal) → JudgeDone v n t r → Judging v n t r
  judge_told r d =
      go r (judged v n t) refl
      (answer_tells_verdict [] (judge_verdict r) (and_then (judged v n t) λ es. accepted []) d.answer)
    where
      go : (r : Result (Unit {0}) Refusal) (x : Verdict (List Element)) → judged v n t ≡ x → judge_verdict r ≡ and_then x (λ es. accepted []) → Judging v n t r
      go (Ok u) (accepted es) p e =
          let h = accepted_recorded v n t es p in
          record { verdict = p ∙ ap accepted (accepted-elements v n t es p); few = h.few; table = h.table; clean = h.clean }
      go (Ok u) (refused y) p e = cc
      go (Err x) (accepted es) p e = cc
      go (Err x) (refused y) p e = p ∙ ap refused (let z : x ≡ y = cc in sym z)
