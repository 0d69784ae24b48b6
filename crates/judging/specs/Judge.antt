-- Judging a table: its records, as tables/specs/JudgedRecords.antt has it, then JOIN: pairs by lowest j, then lowest i.
use Rattle.std.specs.Prelude.{Bool, not, List, [], ◌≡◌, ℕ, pred, ltb, Result, Ok, Err}
use Rattle.laws.specs.Searches.{least}
use Rattle.faults.specs.declared.Refusal.{Refusal}
use Rattle.faults.specs.Refusals.{Verdict, accepted, refused, refuse_pair, refuse_if, and_then, answer_of}
use Rattle.solids.specs.Solids.{Element}
use Rattle.solids.specs.Fit.{fits}
use Rattle.records.specs.Record.{element_at}
use Rattle.tables.specs.JudgedRecords.{records_judged}

-- elements i and j of a table, from 0, fit
unfoldable pub pair_fits : List ℕ → ℕ → ℕ → Bool
pair_fits t i j = fits (element_at t i) (element_at t j)

-- the number, from 1, of the lowest i below j that does not fit j, or 0
unfoldable pub misfit : List ℕ → ℕ → ℕ
misfit t j = least (λ i. not (pair_fits t i j)) j

-- the number, from 1, of the lowest of n elements that has a misfit, or 0
unfoldable pub bad_element : List ℕ → ℕ → ℕ
bad_element t n = least (λ j. ltb 0 (misfit t j)) n

-- what the pairs of a table are judged to be: its elements, or the first pair that does not fit
unfoldable pub pairs_judged : List ℕ → (element_count : ℕ) → List Element → Verdict (List Element)
pairs_judged t n es = let j = bad_element t n in refuse_if (ltb 0 j) (refuse_pair j (misfit t (pred j))) (accepted es)

-- what a table is judged to be: its elements, or the first fault, of the records and then of the pairs
unfoldable pub judged : (vertex_count element_count : ℕ) → List ℕ → Verdict (List Element)
judged v n t = and_then (records_judged v n t) (pairs_judged t n)

-- the answer of judging as a verdict: it has no values of its own
abbrev pub judge_verdict : Result (Unit {0}) Refusal → Verdict (List ℕ)
judge_verdict (Ok u) = accepted []
judge_verdict (Err r) = refused r

-- judging: the answer for every two counts and every table
pub record JudgeDone (v n : ℕ) (t : List ℕ) (r : Result (Unit {0}) Refusal) : Type 0 where
  pub answer : answer_of [] (judge_verdict r) ≡ answer_of [] (and_then (judged v n t) λ es. accepted [])
