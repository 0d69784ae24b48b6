-- Bounds on i64 expressions, by the size of their operands. `Is n x z`: the machine's expression x is the integer z, between -n and n.
-- An expression's needs and its value follow by one law for each operator, applied as the expression is built. Assumes nothing.
use mathlib.Core.Path.{◌≡◌, refl}
use mathlib.Core.Bool.{Bool, true, false, cond}
use Prim.Native.Nat.{ℕ, zero, suc, ◌+◌, ◌*◌, ◌-◌, ◌^◌, ◌≤◌, ◌<◌}
use native.Mathlib.Nat.{le_trans, le_refl, add-le-add, mul-le-mul}
use native.Mathlib.Omega.{arith}
use lib.Dec.{T, ltb, ltb→lt}
use lib.IntN.{ℤ, pos, negsuc, nat_abs, neg_ℤ, sub_ℕ, ◌+ℤ◌, ◌-ℤ◌, ◌*ℤ◌}
use lib.Signed.{mag}
use mir.Syntax.{w64}
use mir.Val.{SFits, to_z, of_z}
use mir.ValLaws.{to_z-of_z}
use Rattle.laws.specs.Sizes.{Within}

-- ---- the size of a result

pub within_le : {m n : ℕ} {z : ℤ} → m ≤ n → Within m z → Within n z
within_le h w = record { abs = le_trans w.abs h }

abs_neg : (z : ℤ) → nat_abs (neg_ℤ z) ≡ nat_abs z
abs_neg (pos zero) = refl
abs_neg (pos (suc n)) = refl
abs_neg (negsuc n) = refl

abs_subℕ : (a b : ℕ) → nat_abs (sub_ℕ a b) ≤ a + b
abs_subℕ a b = by (ltb a b) (ltb→lt a b)
  where
    by : (t : Bool) → (T t → a < b) → nat_abs (cond t (negsuc (b - suc a)) (pos (a - b))) ≤ a + b
    by true h = let l = h tt in omega arith
    by false h = omega arith

abs_add : (a b : ℤ) → nat_abs (a +ℤ b) ≤ nat_abs a + nat_abs b
abs_add (pos a) (pos b) = le_refl (a + b)
abs_add (pos a) (negsuc b) = abs_subℕ a (suc b)
abs_add (negsuc a) (pos b) = omega (arith, abs_subℕ b (suc a))
abs_add (negsuc a) (negsuc b) = omega arith

abs_mul : (a b : ℤ) → nat_abs (a *ℤ b) ≡ nat_abs a * nat_abs b
abs_mul (pos a) (pos b) = refl
abs_mul (pos a) (negsuc b) = abs_neg (pos (a * suc b))
abs_mul (negsuc a) (pos b) = abs_neg (pos (suc a * b))
abs_mul (negsuc a) (negsuc b) = refl

pub within_neg : {n : ℕ} {z : ℤ} → Within n z → Within n (neg_ℤ z)
within_neg {n} {z} w = record { abs = rw (abs_neg z) w.abs }

pub within_add : {m n : ℕ} {a b : ℤ} → Within m a → Within n b → Within (m + n) (a +ℤ b)
within_add {a} {b} v w = record { abs = le_trans (abs_add a b) (add-le-add v.abs w.abs) }

pub within_sub : {m n : ℕ} {a b : ℤ} → Within m a → Within n b → Within (m + n) (a -ℤ b)
within_sub v w = within_add v (within_neg w)

pub within_mul : {m n : ℕ} {a b : ℤ} → Within m a → Within n b → Within (m * n) (a *ℤ b)
within_mul {a} {b} v w = record { abs = rw (abs_mul a b) (mul-le-mul v.abs w.abs) }

-- ---- an i64

mag_le : (z : ℤ) → mag z ≤ nat_abs z
mag_le (pos n) = le_refl n
mag_le (negsuc n) = omega arith

-- n is small enough for an i64; at a numeral, `tt` proves it
abbrev Small : ℕ → Type 0
Small n = T (ltb n (2 ^ 63))

pub fits : {n : ℕ} {z : ℤ} → Within n z → Small n → SFits w64 z
fits {n} {z} w h = record { sfits = omega (arith, mag_le z, w.abs, ltb→lt n (2 ^ 63) h) }

-- what the machine reads back from the bits of z
abbrev pub kept : ℤ → ℤ
kept z = to_z w64 (of_z w64 z)

pub record Is (n : ℕ) (x z : ℤ) : Type 0 where
  pub same : x ≡ z
  pub size : Within n z

pub is : {n : ℕ} {z : ℤ} → Within n z → Small n → Is n (kept z) z
is {z} w t = record { same = to_z-of_z w64 z (fits w t); size = w }

module _ {m n : ℕ} {x y a b : ℤ} (v : Is m x a) (w : Is n y b) where
  pub fits_add : Small (m + n) → SFits w64 (x +ℤ y)
  fits_add h = rw (v.same, w.same) (fits (within_add v.size w.size) h)

  pub fits_sub : Small (m + n) → SFits w64 (x -ℤ y)
  fits_sub h = rw (v.same, w.same) (fits (within_sub v.size w.size) h)

  pub fits_mul : Small (m * n) → SFits w64 (x *ℤ y)
  fits_mul h = rw (v.same, w.same) (fits (within_mul v.size w.size) h)

  pub is_add : Small (m + n) → Is (m + n) (kept (x +ℤ y)) (a +ℤ b)
  is_add h = rw (v.same, w.same) (is (within_add v.size w.size) h)

  pub is_sub : Small (m + n) → Is (m + n) (kept (x -ℤ y)) (a -ℤ b)
  is_sub h = rw (v.same, w.same) (is (within_sub v.size w.size) h)

  pub is_mul : Small (m * n) → Is (m * n) (kept (x *ℤ y)) (a *ℤ b)
  is_mul h = rw (v.same, w.same) (is (within_mul v.size w.size) h)

-- a value that is known by an equation: a call's result
pub is_by : {n : ℕ} {x z : ℤ} → x ≡ z → Within n z → Small n → Is n (kept x) z
is_by e w t = rw e (is w t)

-- what a field of a struct is, handed to a call
pub within-kept : {n : ℕ} {z : ℤ} → Within n z → Small n → Within n (kept z)
within-kept {z} w t = rw (to_z-of_z w64 z (fits w t)) w
