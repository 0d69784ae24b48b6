-- `blocks::filling::fill_blocks` meets its contract. The loop's invariant: the keys and the sizes of the elements before k are placed from the front on.
-- Assumes nothing.
use Rattle.std.proofs.Common.{◌≡◌, ℕ, ◌*◌, ◌≤◌, List, length}
use Rattle.laws.specs.Lent.{placed}
use Rattle.blocks.proofs.FillLaws.{cut_to, keys_to, sizes_to}
use Rattle.blocks.proofs.filling.fill_blocks.Given as goal

pub record Kept (t keys₀ sizes₀ keys sizes : List ℕ) (count k : ℕ) : Type 0 where
  pub few : count ≤ 6 * k
  pub same : count ≡ length (cut_to t k)
  pub keys_are : keys ≡ placed keys₀ 0 (keys_to t k)
  pub sizes_are : sizes ≡ placed sizes₀ 0 (sizes_to t k)

abbrev pub invariant-loop-k : goal.invariant-loop-k
invariant-loop-k l = Kept l.table l.fn.keys l.fn.sizes l.keys l.sizes l.count l.k
