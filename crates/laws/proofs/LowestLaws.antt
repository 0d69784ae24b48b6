-- The lowest of some numbers: none of them is below it.
-- Assumes nothing.
use mathlib.Core.Path.{◌≡◌, refl}
use mathlib.Core.Bool.{Bool, true, false, ◌||◌}
use mathlib.Core.List.{List, [], ◌∷◌}
use Prim.Native.Nat.{ℕ, ◌≤◌}
use native.Mathlib.Omega.{arith}
use lib.Dec.{eqb, T}
use borrow.Author.Tests.{eqb-true}
use Rattle.laws.specs.Words.{among, lowest}

pub lowest-least : (v : ℕ) (l : List ℕ) → T (among v l) → lowest l ≤ v
lowest-least v [] h = absurd h
lowest-least v (w ∷ []) h = go (eqb v w) refl h
  where
    go : (b : Bool) → eqb v w ≡ b → T (b || false) → w ≤ v
    go true e t = let k = eqb-true v w e in omega arith
    go false e t = absurd t
lowest-least v (w ∷ (x ∷ l)) h = go (eqb v w) refl h (lowest-least v (x ∷ l))
  where
    go : (b : Bool) → eqb v w ≡ b → T (b || among v (x ∷ l)) → (T (among v (x ∷ l)) → lowest (x ∷ l) ≤ v) → lowest (w ∷ x ∷ l) ≤ v
    go true e t ih = let k = eqb-true v w e in omega arith
    go false e t ih = let k = ih t in omega arith
