-- What the room promises: two answers that the contract allows are equal; points within the limits are accepted with their sixfold volume,
-- which lies within 6,000,000,000,000,000,000 in either direction and changes its sign where two rows are exchanged; the vertices of a table
-- are its numbers, three by three. Assumes nothing.
use mathlib.Core.Path.{◌≡◌, refl, sym, ap, ◌∙◌}
use mathlib.Core.Bool.{true, false}
use mathlib.Core.List.{List, ◌∷◌}
use Prim.Native.Nat.{ℕ, suc, ◌+◌, ◌*◌, ◌-◌}
use native.Mathlib.Omega.{arith}
use lib.IntN.{ℤ, pos, neg_ℤ}
use lib.ListN.{get_or}
use Rattle.std.specs.Prelude.{Result, Ok, Err}
use Rattle.faults.specs.declared.Fault.TheVariants.{Range}
use Rattle.faults.specs.declared.Refusal.{Refusal}
use Rattle.faults.specs.Refusals.{accepted, refused, refuse}
use Rattle.faults.proofs.Theorems.{answer_tells_verdict}
use Rattle.laws.specs.Sizes.{Within}
use Rattle.volume.specs.declared.Point.{Point}
use Rattle.volume.specs.Volume.{point_in_range, minus, ranged, sixfold, volume_verdict, verdict_of, VolumeDone, point_at}
use Rattle.volume.proofs.BoundLaws.{minus-within, determinant-within}
use Rattle.volume.proofs.ExchangeLaws.{first_rows_exchanged, last_rows_exchanged}
use Rattle.volume.proofs.VerdictLaws.{answer_with, answer-again}

-- the contract fixes the verdict
pub verdict_fixed : {a b c d : Point} {r : Result ℤ Refusal} → VolumeDone a b c d r → verdict_of r ≡ volume_verdict a b c d
verdict_fixed {a} {b} {c} {d} {r} h = answer_tells_verdict (pos 0) (verdict_of r) (volume_verdict a b c d) h.answers

-- two answers that the contract allows are equal
pub volume_unique : {a b c d : Point} {r s : Result ℤ Refusal} → VolumeDone a b c d r → VolumeDone a b c d s → r ≡ s
volume_unique {r} {s} h k =
    sym (answer-again r) ∙ ap answer_with (verdict_fixed h ∙ sym (verdict_fixed k)) ∙ answer-again s

-- a first point beyond the limits is named, whatever the others are
pub range_at_first : (a b c d : Point) → point_in_range a ≡ false → {r : Result ℤ Refusal} → VolumeDone a b c d r → r ≡ Err (refuse Range 1)
unfolding volume_verdict ranged
range_at_first a b c d ha {r} h =
    let e : volume_verdict a b c d ≡ refused (refuse Range 1) = rw ha in
    sym (answer-again r) ∙ ap answer_with (verdict_fixed h ∙ e)

-- where all four points are within the limits
module _ (a b c d : Point) (ha : point_in_range a ≡ true) (hb : point_in_range b ≡ true) (hc : point_in_range c ≡ true) (hd : point_in_range d ≡ true) where
  -- the verdict is the sixfold volume
  pub accepted_in_range : volume_verdict a b c d ≡ accepted (sixfold a b c d)
  unfolding volume_verdict ranged
  accepted_in_range = rw (ha, hb, hc, hd)

  -- and so is the answer
  pub done_in_range : {r : Result ℤ Refusal} → VolumeDone a b c d r → r ≡ Ok (sixfold a b c d)
  done_in_range {r} h = sym (answer-again r) ∙ ap answer_with (verdict_fixed h ∙ accepted_in_range)

  -- the sixfold volume lies within plus or minus 6,000,000,000,000,000,000
  pub sixfold-within : Within 6000000000000000000 (sixfold a b c d)
  unfolding sixfold
  sixfold-within = determinant-within (minus-within b a hb ha) (minus-within c a hc ha) (minus-within d a hd ha)

-- rows exchanged: the sign changes where the second and the third point, or the third and the fourth, are exchanged
module _ (a b c d : Point) where
  pub second_third_exchanged : sixfold a c b d ≡ neg_ℤ (sixfold a b c d)
  unfolding sixfold
  second_third_exchanged = first_rows_exchanged (minus b a) (minus c a) (minus d a)

  pub third_fourth_exchanged : sixfold a b d c ≡ neg_ℤ (sixfold a b c d)
  unfolding sixfold
  third_fourth_exchanged = last_rows_exchanged (minus b a) (minus c a) (minus d a)

-- vertex 1 of a table is its first three numbers
pub first-vertex : (x y z : ℤ) (t : List ℤ) → point_at (x ∷ y ∷ z ∷ t) 1 ≡ record { x = x; y = y; z = z }
unfolding point_at
first-vertex x y z t = refl

-- a number of a table is three indices lower in the rest
three_lower : (x y z : ℤ) (t : List ℤ) (i j : ℕ) → i ≡ suc (suc (suc j)) → get_or (x ∷ y ∷ z ∷ t) i (pos 0) ≡ get_or t j (pos 0)
three_lower x y z t i j e = ap (λ (k : ℕ). get_or (x ∷ y ∷ z ∷ t) k (pos 0)) e

-- the vertices after it are those of the rest
pub later_vertex : (x y z : ℤ) (t : List ℤ) (v : ℕ) → point_at (x ∷ y ∷ z ∷ t) (suc (suc v)) ≡ point_at t (suc v)
unfolding point_at
later_vertex x y z t v =
    let i : ℕ = 3 * (suc (suc v) - 1) in
    let j : ℕ = 3 * (suc v - 1) in
    λ k. record {
      x = three_lower x y z t i j (omega arith) k;
      y = three_lower x y z t (i + 1) (j + 1) (omega arith) k;
      z = three_lower x y z t (i + 2) (j + 2) (omega arith) k;
    }
