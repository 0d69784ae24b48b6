-- `signs::counting::count_signs` meets its contract. The loop's invariant: the blocks so far are counted, and the keys behind them are left. Assumes nothing.
use Rattle.std.proofs.Common.{◌≡◌, ℕ, ◌*◌, List, map, take, drop, ℤ}
use Rattle.tets.specs.Tets.{keyed}
use Rattle.signs.specs.declared.SignCounts.{SignCounts}
use Rattle.signs.specs.SignLoops.{parted, total, block_counts, of_counts}
use Rattle.signs.proofs.SignCountLaws.{Bounded}
use Rattle.signs.proofs.counting.count_signs.Given as goal

pub record Kept (keys sizes : List ℕ) (table : List ℤ) (c : SignCounts) (rest : List ℕ) (k : ℕ) : Type 0 where
  pub behind : rest ≡ drop (total (take k sizes)) keys
  pub bounded : Bounded table (6 * k) c
  pub same : of_counts c ≡ block_counts table (parted (map keyed keys) (take k sizes))

abbrev pub invariant-loop-size : goal.invariant-loop-size
invariant-loop-size l = Kept l.keys l.sizes l.vertices l.counts l.rest l.size-index
