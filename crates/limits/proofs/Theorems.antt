-- What is promised of the numbers of the page: the code's are the definitions', and there is one answer.
-- Assumes nothing.
use mathlib.Core.Path.{◌≡◌, sym, ◌∙◌}
use mathlib.Core.List.{List}
use Prim.Native.Nat.{ℕ}
use Rattle.limits.specs.Limits.{page_numbers}

-- `page_numbers`
pub numbers_unique : (a b : List ℕ) → a ≡ page_numbers → b ≡ page_numbers → a ≡ b
numbers_unique a b p q = p ∙ sym q
