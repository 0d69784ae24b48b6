-- The size of a signed number as the machine finds it, whatever its width: a number that is not negative is its own size, and -1 - z of a
-- negative z is one less than its size. Neither leaves the width, at its lowest number either. Assumes nothing.
use mathlib.Core.Path.{◌≡◌, sym, ap, subst, ◌∙◌}
use mathlib.Core.Bool.{true, false}
use Prim.Native.Nat.{ℕ, suc, ◌+◌, ◌-◌, ◌<◌}
use native.Mathlib.Numerals.{add-one}
use native.Mathlib.Omega.{arith}
use borrow.Author.Tests.{leb-false, le-ltb}
use lib.Dec.{T, ltb}
use lib.IntN.{ℤ, pos, negsuc, nat_abs, ◌-ℤ◌}
use lib.Signed.{le_z, mag, non_neg, le_z_yes, yes_non_neg}
use mir.Syntax.{Width, w64}
use mir.Val.{Fits, SFits, bits, hbits, to_z, of_z}
use mir.Facts.{to_z-of_z, Fits-nat_abs}

not_below_zero : (n : ℕ) → le_z (pos 0) (pos n) ≡ false → ⊥
not_below_zero n h = let l : n < 0 = leb-false 0 n h in omega arith

-- a negative number, turned round and moved by one
turned : (z : ℤ) → le_z (pos 0) z ≡ false → negsuc 0 -ℤ z ≡ pos (mag z)
turned (pos n) h = absurd (not_below_zero n h)
turned (negsuc n) h =
    let e : suc n - 1 ≡ n = omega arith in
    rw (le-ltb (suc n) 1 (omega arith)) (ap pos e)

one_more : (z : ℤ) → le_z (pos 0) z ≡ false → mag z + 1 ≡ nat_abs z
one_more (pos n) h = absurd (not_below_zero n h)
one_more (negsuc n) h = add-one n

-- what the machine reads back from the bits of z
abbrev pub kept : Width → ℤ → ℤ
kept w z = to_z w (of_z w z)

-- w is narrow enough for the size of its numbers to fit a usize; at a width, `tt` proves it
module _ (w : Width) (narrow : T (ltb (hbits w) (bits w64))) (z : ℤ) (fits : SFits w z) where
  pub size_cast : le_z (pos 0) (kept w z) ≡ true → T (non_neg (kept w z)) × Fits w64 (nat_abs (kept w z))
  size_cast h =
      (yes_non_neg {z = kept w z} (le_z_yes (subst T (sym h) tt)), rw (to_z-of_z fits) (Fits-nat_abs {w = w} {w' = w64} narrow fits))

  module _ (negative : le_z (pos 0) (kept w z) ≡ false) where
    below : le_z (pos 0) z ≡ false
    below = rw (to_z-of_z fits) at negative

    magnitude : SFits w (pos (mag z))
    magnitude = record { sfits = fits.sfits }

    difference : negsuc 0 -ℤ kept w z ≡ pos (mag z)
    difference = ap (λ (y : ℤ). negsuc 0 -ℤ y) (to_z-of_z fits) ∙ turned z below

    -- what the machine reads back from -1 - z
    pub turned-kept : kept w (negsuc 0 -ℤ kept w z) ≡ pos (mag z)
    turned-kept = ap (kept w) difference ∙ to_z-of_z magnitude

    pub turned-fits : SFits w (negsuc 0 -ℤ kept w z)
    turned-fits = rw difference magnitude

    pub turned_cast : T (non_neg (kept w (negsuc 0 -ℤ kept w z))) × Fits w64 (nat_abs (kept w (negsuc 0 -ℤ kept w z)))
    turned_cast = rw turned-kept (tt, Fits-nat_abs {w = w} {w' = w64} narrow magnitude)

    pub turned-size : nat_abs (kept w (negsuc 0 -ℤ kept w z)) + 1 ≡ nat_abs z
    turned-size = rw turned-kept (one_more z below)

    pub turned_size_fits : Fits w64 (nat_abs (kept w (negsuc 0 -ℤ kept w z)) + 1)
    turned_size_fits = rw turned-size (Fits-nat_abs {w = w} {w' = w64} narrow fits)
