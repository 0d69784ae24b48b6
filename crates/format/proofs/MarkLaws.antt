-- Laws of marks: a line too short for a mark has none, and so has one whose first or second byte is a comma.
-- Assumes nothing.
use Prim.Native.Nat.{ℕ, ◌<◌}
use native.Mathlib.Omega.{arith}
use mathlib.Core.Path.{◌≡◌, refl}
use mathlib.Core.Bool.{Bool, true, false, ◌&&◌}
use mathlib.Core.List.{List, [], ◌∷◌}
use lib.ListN.{length}
use borrow.Author.Tests.{ne_eqb}
use Rattle.limits.specs.Limits.{comma}
use Rattle.format.specs.Line.{mark_with, mark_of}
use Rattle.format.specs.declared.Mark.TheVariants.{Unknown}

no_second : (b : Bool) → (b && false) ≡ false
no_second true = refl
no_second false = refl

pub mark_short : (t : List ℕ) → length t < 2 → mark_of t ≡ Unknown
unfolding mark_of mark_with
mark_short [] h = refl
mark_short (a ∷ []) h = simp no_second
mark_short (a ∷ b ∷ t) h = absurd (omega arith)

-- no mark has a comma
pub comma-first : (a b : ℕ) → a ≡ comma → mark_with a b ≡ Unknown
unfolding mark_with
comma-first a b e = rw e

pub comma-second : (a b : ℕ) → b ≡ comma → mark_with a b ≡ Unknown
unfolding mark_with
comma-second a b e = rw e (simp no_second)

-- nor a byte below E
pub low_first : (a b : ℕ) → a < 69 → mark_with a b ≡ Unknown
unfolding mark_with
low_first a b h =
    rw (ne_eqb a 86 (λ e. omega arith), ne_eqb a 84 (λ e. omega arith), ne_eqb a 80 (λ e. omega arith), ne_eqb a 72 (λ e. omega arith), ne_eqb a 69 (λ e. omega arith))

pub low_second : (a b : ℕ) → b < 69 → mark_with a b ≡ Unknown
unfolding mark_with
low_second a b h =
    rw (ne_eqb b 88 (λ e. omega arith), ne_eqb b 69 (λ e. omega arith), ne_eqb b 89 (λ e. omega arith), ne_eqb b 90 (λ e. omega arith), ne_eqb b 82 (λ e. omega arith), ne_eqb b 78 (λ e. omega arith))
    (simp no_second)
