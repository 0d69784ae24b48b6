-- `volume::row::minus` meets its contract: a difference of two coordinates within the limits lies within reach. Assumes nothing.
use mathlib.Core.Path.{◌≡◌, ◌∙◌}
use borrow.Author.Rules.{rules}
use lib.IntN.{ℤ, ◌-ℤ◌}
use mir.Syntax.{w32}
use mir.Val.{SFits, to_z, of_z}
use mir.Facts.{to_z-of_z}
use Rattle.laws.specs.Sizes.{Within}
use Rattle.laws.proofs.SizeLaws.{kept, within-kept}
use Rattle.volume.specs.Volume.{minus}
use Rattle.volume.specs.RowLoops.{reach}
use Rattle.volume.proofs.BoundLaws.{minus-within}
use Rattle.volume.proofs.row.minus.Goals as goal

-- a difference of two coordinates, as a call gives it
difference_within : {r q p : ℤ} → SFits w32 q → SFits w32 p → r ≡ to_z w32 (of_z w32 q) -ℤ to_z w32 (of_z w32 p) → Within reach (q -ℤ p) → Within reach (kept r)
difference_within {r} {q} {p} f g e w =
    let d : r ≡ q -ℤ p = e ∙ (λ i. to_z-of_z f i -ℤ to_z-of_z g i) in
    within-kept {z = r} (rw d w) tt

pub invariant_of-result : goal.invariant_of-result
unfolding minus
invariant_of-result c =
    let q = c.args.q in
    let p = c.args.p in
    let w = minus-within q p c.requires.q_in_range c.requires.p_in_range in
    record {
      on_x = difference_within {r = c.along.result} {q = q.x} {p = p.x} (search rules) (search rules) c.along.ensures w.on_x;
      on_y = difference_within {r = c.along-2.result} {q = q.y} {p = p.y} (search rules) (search rules) c.along-2.ensures w.on_y;
      on_z = difference_within {r = c.along-3.result} {q = q.z} {p = p.z} (search rules) (search rules) c.along-3.ensures w.on_z;
    }
