-- The next element's keys are placed behind those before it, and its size behind theirs.
-- Assumes nothing.
use Rattle.std.proofs.Common.{◌≡◌, sym, ap, ◌∙◌, List, map, ℕ, ◌+◌, ◌≤◌, length, set, arith}
use Rattle.laws.specs.Lent.{placed}
use Rattle.laws.proofs.LentLaws.{placed-none, placed-laid}
use Rattle.solids.specs.Cut.{cut}
use Rattle.records.specs.Record.{element_of, record_at, first_elements}
use Rattle.tets.specs.Tets.{key_of}
use Rattle.blocks.specs.BlockLoops.{Stored, Filled}
use Rattle.blocks.proofs.FillLaws.{cut_to, cut_at, keys_to, sizes_to, count_none, keys_none, sizes_none, count_next, keys_placed, size_stored}
use Rattle.blocks.proofs.filling.fill_blocks.Invariants.{Kept}
use Rattle.blocks.proofs.filling.fill_blocks.Goals as goal

start : (t keys sizes : List ℕ) → Kept t keys sizes keys sizes 0 0
start t keys sizes = record {
  few = omega arith;
  same = count_none t;
  keys_are = sym (ap (placed keys 0) (keys_none t) ∙ placed-none keys 0);
  sizes_are = sym (ap (placed sizes 0) (sizes_none t) ∙ placed-none sizes 0);
}

step : {t keys₀ sizes₀ keys sizes : List ℕ} {count k : ℕ} → Kept t keys₀ sizes₀ keys sizes count k → {r : List ℕ} → r ≡ record_at t k → {m : ℕ} {keys' : List ℕ}
    → Stored (cut (element_of r)) count keys m keys' → m ≤ 6 → count ≤ length keys₀ → k + 1 ≤ length sizes₀ → Kept t keys₀ sizes₀ keys' (set sizes k m) (count + m) (k + 1)
step {t} {keys₀} {sizes₀} {count} {k} h e {m} s few room size =
    let many : m ≡ length (cut_at t k) = s.count ∙ ap (λ x. length (cut (element_of x))) e in
    record {
      few = omega (arith, h.few);
      same = omega (arith, h.same, many, count_next t k);
      keys_are =
          s.output
          ∙ (λ i. placed (h.keys_are i) count (map key_of (cut (element_of (e i)))))
          ∙ keys_placed t keys₀ k h.same room;
      sizes_are =
          ap (λ (x : List ℕ). set x k m) h.sizes_are
          ∙ size_stored t sizes₀ k size many;
    }

end : {t keys₀ sizes₀ keys sizes : List ℕ} {count k n : ℕ} → Kept t keys₀ sizes₀ keys sizes count k → k ≡ n → Filled (first_elements t n) keys₀ sizes₀ count keys sizes
end {t} {keys₀} {sizes₀} {n} h e = record {
  count = h.same ∙ ap (λ (i : ℕ). length (cut_to t i)) e;
  keys_laid = h.keys_are ∙ ap (λ (i : ℕ). placed keys₀ 0 (keys_to t i)) e ∙ placed-laid keys₀ (keys_to t n);
  sizes_laid = h.sizes_are ∙ ap (λ (i : ℕ). placed sizes₀ 0 (sizes_to t i)) e ∙ placed-laid sizes₀ (sizes_to t n);
}

pub loop-k-init : goal.loop-k-init
loop-k-init c = start c.args.table.now c.args.keys.now c.args.sizes.now

pub loop-k-preserved : goal.loop-k-preserved
loop-k-preserved c =
    step c.loop-k.invariant c.record_at.ensures c.put_block-size.ensures.stored c.put_block-size.ensures.few
    (omega (arith, c.loop-k.invariant.few, c.requires.whole_table.few)) (omega (arith, c.requires.whole_table.few))

pub returns : goal.returns
returns c = end c.loop-k.invariant (omega arith)
