-- The size of a signed number.
use Rattle.std.specs.Prelude.{ℕ, ◌≤◌, ℤ, nat_abs}

-- z lies between -n and n
pub record Within (n : ℕ) (z : ℤ) : Type 0 where
  pub abs : nat_abs z ≤ n
