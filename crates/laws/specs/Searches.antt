-- The least number with a property, and how many numbers have it.
use Rattle.std.specs.Prelude.{Bool, cond, ℕ, zero, suc, eqb}

-- one more than the least number below n that passes the test, or 0 where none does
unfoldable pub least : (ℕ → Bool) → ℕ → ℕ
least p zero = 0
least p (suc n) = let l : ℕ = least p n in cond (eqb l 0) (cond (p n) (suc n) 0) l

-- how many numbers below n pass the test
unfoldable pub many : (ℕ → Bool) → ℕ → ℕ
many p zero = 0
many p (suc n) = cond (p n) (suc (many p n)) (many p n)
