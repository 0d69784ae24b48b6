-- What it says that a point is within the limits: of each coordinate, and of its size.
-- Assumes nothing.
use mathlib.Core.Path.{◌≡◌, refl}
use mathlib.Core.Bool.{Bool, true, false, ◌&&◌}
use native.Mathlib.Omega.{arith}
use lib.IntN.{ℤ, pos, negsuc, neg_ℤ}
use lib.Signed.{le_z}
use borrow.Author.Tests.{leb-true}
use Rattle.laws.specs.Sizes.{Within}
use Rattle.volume.specs.declared.Point.{Point}
use Rattle.limits.specs.Limits.{coordinate_limit}
use Rattle.volume.specs.Volume.{in_range, point_in_range}

-- two tests that both passed
both : (a b : Bool) → a && b ≡ true → (a ≡ true) × (b ≡ true)
both true b h = (refl, h)
both false b h = (h, cc)

pub in_range_within : (z : ℤ) → in_range z ≡ true → Within coordinate_limit z
unfolding in_range
in_range_within (pos n) h = record { abs = leb-true n coordinate_limit h }
in_range_within (negsuc n) h =
    let l = leb-true n _ (both (le_z (neg_ℤ (pos coordinate_limit)) (negsuc n)) true h).0 in
    record { abs = omega arith }

-- each coordinate of a point within the limits
pub record Coordinates (p : Point) : Type 0 where
  pub on_x : in_range p.x ≡ true
  pub on_y : in_range p.y ≡ true
  pub on_z : in_range p.z ≡ true

pub coordinates : (p : Point) → point_in_range p ≡ true → Coordinates p
unfolding point_in_range
coordinates p h =
    let x = both (in_range p.x) (in_range p.y && in_range p.z) h in
    let yz = both (in_range p.y) (in_range p.z) x.1 in
    record { on_x = x.0; on_y = yz.0; on_z = yz.1 }
