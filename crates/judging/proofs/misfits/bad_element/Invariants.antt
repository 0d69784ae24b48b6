-- `judging::misfits::bad_element` meets its contract. The loop's invariant: no element before j has a misfit, and those are filed. Assumes nothing.
use Rattle.std.proofs.Common.{◌≡◌, ℕ, Bool, List, ltb}
use Rattle.laws.proofs.PassLaws.{Failed}
use Rattle.judging.specs.Judge.{misfit}
use Rattle.judging.specs.Chained.{Chained}
use Rattle.judging.proofs.misfits.bad_element.Given as goal

-- element j has a misfit
abbrev pub bad : List ℕ → ℕ → Bool
bad t j = ltb 0 (misfit t j)

pub record Going (t : List ℕ) (n j : ℕ) (s : Chained) : Type 0 where
  pub failed : Failed (bad t) n j
  pub chains : s ≡ record { table = t; count = n; filed = j }

abbrev pub invariant-loop-j : goal.invariant-loop-j
invariant-loop-j l = Going l.table.elements.now l.table.count l.j l.chains
