-- `judging::chains::Chains::file_next` meets its contract. The loop's invariant: the places before x are filed. Assumes nothing.
use Rattle.std.proofs.Common.{◌≡◌, ℕ, List}
use Rattle.judging.specs.declared.chains.Chains.TheInside.{Inside}
use Rattle.judging.specs.Chained.{Filed}
use Rattle.judging.proofs.chains.Chains.file_next.Given as goal

pub record Filing (t : List ℕ) (n j x : ℕ) (s : Inside) : Type 0 where
  pub table : s.table.elements.now ≡ t
  pub count : s.table.count ≡ n
  pub filed : s.filed ≡ j
  pub places : Filed t x s.heads s.links

abbrev pub invariant-loop-x : goal.invariant-loop-x
invariant-loop-x l = Filing l.initial.self-inside.table.elements.now l.initial.self-inside.table.count l.initial.self-inside.filed l.x l.self-inside
