-- One tetrahedron more is counted by its sign; a block has at most six, so that there is room for it. Assumes nothing.
use Rattle.std.proofs.Common.{◌≡◌, ◌∙◌, sym, ap, subst, ℕ, ◌+◌, ◌≤◌, ◌<◌, List, [], ◌∷◌, ◌++◌, map, length, take, get_or, ℤ, pos, T, add-one, arith}
use mathlib.Core.List.{map-append}
use lib.ListN.{length-map}
use lib.Seq.{take-suc, take_all, length-take-le}
use mir.Syntax.{w64}
use mir.Facts.{to_z-of_z}
use Rattle.std.specs.Ordering.{int_cmp}
use Rattle.solids.specs.Solids.{Tet}
use Rattle.tets.specs.Tets.{keyed}
use Rattle.signs.specs.declared.SignCounts.{SignCounts}
use Rattle.signs.specs.Signs.{volume_in}
use Rattle.signs.specs.SignLoops.{ranged_tet, RangedBlock, with_sign, Few, Tallied}
use Rattle.signs.proofs.SignCountLaws.{tallied_next, tallied_most}
use Rattle.signs.proofs.counting.tally_block.Goals as goal

module _ {table : List ℤ} (block : List ℕ) {c : SignCounts} {k : ℕ} (h : Tallied table (map keyed (take k block)) c) (l : k < length block) where
  small : length block ≤ 6 → Few c
  small few =
      let m = tallied_most table h in
      let e = length-map (take k block) keyed ∙ length-take-le k block (omega arith) in
      record { positive = omega (arith, m.positive); zero = omega (arith, m.zero); negative = omega (arith, m.negative) }

  next : map keyed (take (k + 1) block) ≡ map keyed (take k block) ++ (keyed (get_or block k 0) ∷ [])
  next =
      ap (λ (i : ℕ). map keyed (take i block)) (add-one k) ∙ ap (map keyed) (take-suc block k 0 l) ∙ map-append keyed (take k block) (get_or block k 0 ∷ [])

  step : {u : Tet ℕ} {z : ℤ} {r : SignCounts} → u ≡ keyed (get_or block k 0) → z ≡ volume_in table u → r ≡ with_sign (int_cmp z (pos 0)) c
      → Tallied table (map keyed (take (k + 1) block)) r
  step {u} {z} {r} q p e =
      let s : r ≡ with_sign (int_cmp (volume_in table (keyed (get_or block k 0))) (pos 0)) c =
      e ∙ ap (λ x. with_sign (int_cmp x (pos 0)) c) (p ∙ ap (volume_in table) q) in
      subst (λ x. Tallied table x r) (sym next) (subst (λ x. Tallied table (map keyed (take k block) ++ (keyed (get_or block k 0) ∷ [])) x) (sym s) (tallied_next table h (keyed (get_or block k 0))))

-- the tetrahedron of key k is within the limits
here : {table : List ℤ} {block : List ℕ} {k : ℕ} → RangedBlock table block → k < length block → {u : Tet ℕ} → u ≡ keyed (get_or block k 0) → T (ranged_tet table u)
here {table} {k} b l e = subst (λ u. T (ranged_tet table u)) (sym e) (b.ranged k l)

end : {table : List ℤ} (block : List ℕ) {c : SignCounts} {k : ℕ} → Tallied table (map keyed (take k block)) c → length block ≤ k → Tallied table (map keyed block) c
end {table} block {c} {k} h l = subst (λ (x : List ℕ). Tallied table (map keyed x) c) (take_all k block l) h

pub loop-key-init : goal.loop-key-init
loop-key-init c =
    let e = c.default-tally.ensures in
    record { positive = e.0; zero = e.1.0; negative = e.1.1.0 }

pub volume_at-requires : goal.volume_at-requires
volume_at-requires c = here c.requires c.loop-key-test.true c.from.ensures

pub count-requires : goal.count-requires
count-requires c = small c.args.block.now c.loop-key.invariant c.loop-key-test.true c.requires.few

pub loop-key-preserved : goal.loop-key-preserved
loop-key-preserved c =
    step c.args.block.now c.loop-key.invariant c.loop-key-test.true c.from.ensures
    (to_z-of_z {w = w64} {z = c.volume_at.result} (record { sfits = c.volume_at.type_inv }) ∙ c.volume_at.ensures) c.count.ensures

pub returns : goal.returns
returns c = end c.args.block.now c.loop-key.invariant c.loop-key-test.false
