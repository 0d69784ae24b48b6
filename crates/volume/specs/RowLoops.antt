-- What each row of the private module `row` keeps, so that no product or sum of its `determinant` leaves an i64. No promise of the room speaks of it.
use Rattle.std.specs.Prelude.{ℕ, ◌+◌}
use Rattle.laws.specs.Sizes.{Within}
use Rattle.volume.specs.Volume.{Row}
use Rattle.limits.specs.Limits.{coordinate_limit}

-- the greatest difference of two coordinates
abbrev pub reach : ℕ
reach = coordinate_limit + coordinate_limit

-- each number of the row lies between -n and n
pub record RowWithin (n : ℕ) (u : Row) : Type 0 where
  pub on_x : Within n u.x
  pub on_y : Within n u.y
  pub on_z : Within n u.z
