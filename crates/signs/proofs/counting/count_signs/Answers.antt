-- One block more is counted; it lies among the keys, and no sum is above the limit. Assumes nothing.
use Rattle.std.proofs.Common.{◌≡◌, ◌∙◌, refl, sym, ap, subst, ℕ, ◌+◌, ◌≤◌, ◌<◌, List, [], ◌∷◌, ◌++◌, map, length, take, drop, get_or, ℤ, T, arith}
use lib.ListN.{length-map, length-drop}
use lib.Seq.{length-take-le, take_all, drop-drop, get_or-take, get_or-drop}
use Rattle.tets.specs.Tets.{keyed}
use Rattle.signs.specs.declared.SignCounts.{SignCounts}
use Rattle.signs.specs.SignLoops.{parted, total, ranged_tet, RangedBlock, RangedBlocks, block_counts, of_counts, FewSums, Summed}
use Rattle.signs.proofs.PartedLaws.{total-next, total-most, parted-none, parted-next, part-is}
use Rattle.signs.proofs.SignCountLaws.{Bounded, zeros, counts_none, none_bounded, one_bounded, sums_few, sum_bounded, counts_joined}
use Rattle.signs.proofs.counting.count_signs.Invariants.{Kept}
use Rattle.signs.proofs.counting.count_signs.Goals as goal

start : (keys sizes : List ℕ) (table : List ℤ) {c : SignCounts} → c ≡ zeros → Kept keys sizes table c keys 0
start keys sizes table e = rw e (record {
  behind = refl;
  bounded = none_bounded table;
  same = counts_none table ∙ ap (block_counts table) (sym (parted-none (map keyed keys) sizes));
})

module _ {keys sizes : List ℕ} {table : List ℤ} {c : SignCounts} {rest : List ℕ} {k : ℕ} (blocks : RangedBlocks table keys sizes) (h : Kept keys sizes table c rest k)
    (q : k < length sizes) {size : ℕ} (s : size ≡ get_or sizes k 0) where
  abbrev first : ℕ
  first = total (take k sizes)

  ends : total (take (k + 1) sizes) ≡ first + size
  ends = omega (arith, total-next sizes k q)

  -- the block ends among the keys
  within : first + size ≤ total sizes
  within = omega (arith, ends, total-most sizes (k + 1) (omega arith))

  room : size ≤ length rest
  room = omega (arith, within, blocks.room, ap length h.behind, length-drop first keys)

  module _ {block : List ℕ} (e : block ≡ take size rest) where
    block_length : length block ≡ size
    block_length = ap length e ∙ length-take-le size rest room

    size_few : size ≤ 6
    size_few = omega (arith, blocks.small k q)

    block_at : (j : ℕ) → j < size → get_or block j 0 ≡ get_or keys (first + j) 0
    block_at j l =
        ap (λ (x : List ℕ). get_or x j 0) e ∙ get_or-take size rest j 0 l
        ∙ ap (λ (x : List ℕ). get_or x j 0) h.behind ∙ get_or-drop first keys j 0

    block_ranged : RangedBlock table block
    block_ranged = record {
      few = omega (arith, block_length, size_few);
      ranged = λ j l.
          let m : j < size = omega (arith, block_length) in
          subst (λ (x : ℕ). T (ranged_tet table (keyed x))) (sym (block_at j m)) (blocks.ranged (first + j) (omega (arith, within)));
    }

    -- it is the next part of the keys
    part : take (get_or sizes k 0) (drop first (map keyed keys)) ≡ map keyed block
    part =
        ap (λ (i : ℕ). take i (drop first (map keyed keys))) (sym s) ∙ part-is keys first size
        ∙ ap (λ (x : List ℕ). map keyed (take size x)) (sym h.behind) ∙ ap (map keyed) (sym e)

    module _ {m : SignCounts} (f : of_counts m ≡ block_counts table (map keyed block ∷ [])) where
      more_bounded : Bounded table 6 m
      more_bounded = one_bounded table (map keyed block) (omega (arith, length-map block keyed, block_length, size_few)) f

      few_sums : FewSums c m
      few_sums = sums_few table h.bounded more_bounded (omega (arith, blocks.few))

      step : {r : SignCounts} → Summed c m r → {behind : List ℕ} → behind ≡ drop size rest → Kept keys sizes table r behind (k + 1)
      step {r} g d = record {
        behind = d ∙ ap (drop size) h.behind ∙ drop-drop size first keys ∙ ap (λ (i : ℕ). drop i keys) (sym ends);
        bounded = subst (λ (x : ℕ). Bounded table x r) (omega arith) (sum_bounded table h.bounded more_bounded g);
        same =
            counts_joined table (parted (map keyed keys) (take k sizes)) (map keyed block ∷ []) h.same f g
            ∙ ap (block_counts table) (sym (parted-next (map keyed keys) sizes k q
            ∙ ap (λ b. parted (map keyed keys) (take k sizes) ++ (b ∷ [])) part));
      }

end : {keys sizes : List ℕ} {table : List ℤ} {c : SignCounts} {rest : List ℕ} {k : ℕ} → Kept keys sizes table c rest k → length sizes ≤ k
    → of_counts c ≡ block_counts table (parted (map keyed keys) sizes)
end {keys} {sizes} {table} {k} h l =
    h.same ∙ ap (λ (x : List ℕ). block_counts table (parted (map keyed keys) x)) (take_all k sizes l)

pub loop-size-init : goal.loop-size-init
loop-size-init c =
    let e = c.default-counts.ensures in
    start c.args.keys.now c.args.sizes.now c.args.vertices.now
    (λ i. record { positive = e.0 i; zero = e.1.0 i; negative = e.1.1.0 i; unsound = e.1.1.1 i })

pub split_at-requires : goal.split_at-requires
split_at-requires c = room c.requires c.loop-size.invariant c.loop-size-test.true c.from.ensures

pub element_counts-more-requires : goal.element_counts-more-requires
element_counts-more-requires c = block_ranged c.requires c.loop-size.invariant c.loop-size-test.true c.from.ensures c.split_at.ensures.front

pub add-requires : goal.add-requires
add-requires c =
    few_sums c.requires c.loop-size.invariant c.loop-size-test.true c.from.ensures c.split_at.ensures.front c.element_counts-more.ensures

pub loop-size-preserved : goal.loop-size-preserved
loop-size-preserved c =
    step c.requires c.loop-size.invariant c.loop-size-test.true c.from.ensures c.split_at.ensures.front c.element_counts-more.ensures c.add.ensures
    c.split_at.ensures.back

pub returns : goal.returns
returns c = end c.loop-size.invariant c.loop-size-test.false
