-- The size of a row, of a minor and of the determinant, from the limits on: for points within the limits the sixfold volume lies within
-- 6,000,000,000,000,000,000 in either direction. Assumes nothing.
use mathlib.Core.Path.{◌≡◌}
use mathlib.Core.Bool.{true}
use Prim.Native.Nat.{ℕ, ◌+◌, ◌*◌}
use lib.IntN.{ℤ}
use Rattle.laws.specs.Sizes.{Within}
use Rattle.laws.proofs.SizeLaws.{within_add, within_sub, within_mul}
use Rattle.volume.specs.declared.Point.{Point}
use Rattle.volume.specs.Volume.{Row}
use Rattle.volume.specs.Volume.{point_in_range, minus, minor, determinant}
use Rattle.volume.specs.RowLoops.{reach, RowWithin}
use Rattle.volume.proofs.RangeLaws.{coordinates, in_range_within}

pub minus-within : (q p : Point) → point_in_range q ≡ true → point_in_range p ≡ true → RowWithin reach (minus q p)
unfolding minus
minus-within q p hq hp =
    let k = coordinates q hq in
    let l = coordinates p hp in
    record {
      on_x = within_sub (in_range_within q.x k.on_x) (in_range_within p.x l.on_x);
      on_y = within_sub (in_range_within q.y k.on_y) (in_range_within p.y l.on_y);
      on_z = within_sub (in_range_within q.z k.on_z) (in_range_within p.z l.on_z);
    }

-- two products of two numbers of a row
abbrev pub minor_reach : ℕ
minor_reach = reach * reach + reach * reach

pub minor-within : {a b c d : ℤ} → Within reach a → Within reach b → Within reach c → Within reach d → Within minor_reach (minor a b c d)
unfolding minor
minor-within a b c d = within_sub (within_mul a d) (within_mul b c)

pub determinant-within : {u v w : Row} → RowWithin reach u → RowWithin reach v → RowWithin reach w
    → Within 6000000000000000000 (determinant u v w)
unfolding determinant
determinant-within u v w =
    within_add
    (within_sub
    (within_mul u.on_x (minor-within v.on_y v.on_z w.on_y w.on_z))
    (within_mul u.on_y (minor-within v.on_x v.on_z w.on_x w.on_z)))
    (within_mul u.on_z (minor-within v.on_x v.on_y w.on_x w.on_y))
