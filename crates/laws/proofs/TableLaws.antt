-- A rule of a table: one test that is computed over all entries gives the rule at each entry.
-- Assumes nothing.
use mathlib.Core.Path.{◌∙◌, subst, sym}
use mathlib.Core.Bool.{Bool, true, ◌&&◌}
use mathlib.Core.List.{List, [], ◌∷◌}
use Prim.Native.Nat.{ℕ, zero, suc, ◌+◌, ◌<◌}
use native.Mathlib.Nat.{add-zero, zero-add, add-suc, suc-add, le_of_suc-le-suc, not-suc-le-zero}
use lib.Dec.{T}
use lib.ListN.{length, get_or}
use Rattle.laws.proofs.TestLaws.{and_left, and_right}

-- the test passes at each entry and its index, the first index being i
abbrev pub entries : (ℕ → ℕ → Bool) → ℕ → List ℕ → Bool
entries f i [] = true
entries f i (x ∷ xs) = f i x && entries f (suc i) xs

from : (f : ℕ → ℕ → Bool) (xs : List ℕ) (i : ℕ) → T (entries f i xs) → (k : ℕ) → k < length xs → T (f (i + k) (get_or xs k 0))
from f [] i t k h = absurd (not-suc-le-zero h)
from f (x ∷ xs) i t zero h = subst (λ (m : ℕ). T (f m x)) (sym (add-zero i)) (and_left (f i x) (entries f (suc i) xs) t)
from f (x ∷ xs) i t (suc k) h =
    subst (λ (m : ℕ). T (f m (get_or xs k 0))) (suc-add i k ∙ sym (add-suc i k))
    (from f xs (suc i) (and_right (f i x) (entries f (suc i) xs) t) k (le_of_suc-le-suc h))

pub at_entry : (f : ℕ → ℕ → Bool) (xs : List ℕ) → T (entries f 0 xs) → (k : ℕ) → k < length xs → T (f k (get_or xs k 0))
at_entry f xs t k h = subst (λ (m : ℕ). T (f m (get_or xs k 0))) (zero-add k) (from f xs 0 t k h)
