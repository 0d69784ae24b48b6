-- Laws of numbers in decimal: how many digits a number has, and that more digits than it has change nothing.
-- Assumes nothing.
use Prim.Native.Nat.{ℕ, zero, suc, ◌/◌, ◌%◌, ◌^◌, ◌≤◌, ◌<◌}
use native.Mathlib.Nat.{le_refl, pow-suc, div-lt_iff_lt-mul}
use native.Mathlib.Omega.{arith}
use mathlib.Core.Path.{◌≡◌, refl, sym, ap, ◌∙◌}
use mathlib.Core.Bool.{Bool, true, false, cond}
use mathlib.Core.List.{List, [], ◌∷◌, ◌++◌}
use lib.Dec.{ltb}
use lib.ListN.{length, length-append}
use borrow.Author.Tests.{lt-ltb, le-ltb, ltb-false}
use Rattle.writing.specs.Written.{digit, digits_of, decimal}

-- ---- the digits one by one

pub one_digit : (f k : ℕ) → (f ≡ 0 → ⊥) → k < 10 → digits_of f k ≡ digit k ∷ []
unfolding digits_of
one_digit zero k n h = absurd (n refl)
one_digit (suc f) k n h = rw (lt-ltb k 10 h)

last_digit : (f k : ℕ) → 10 ≤ k → digits_of (suc f) k ≡ digits_of f (k / 10) ++ (digit (k % 10) ∷ [])
unfolding digits_of
last_digit f k h = rw (le-ltb k 10 h)

-- ---- how many digits

either_short : {f : ℕ} (x y : List ℕ) (b : Bool) → length x ≤ f → length y ≤ f → length (cond b x y) ≤ f
either_short x y true h k = h
either_short x y false h k = k

pub digits-short : (f k : ℕ) → length (digits_of f k) ≤ f
unfolding digits_of
digits-short zero k = le_refl 0
digits-short (suc f) k =
    either_short (digit k ∷ []) (digits_of f (k / 10) ++ (digit (k % 10) ∷ [])) (ltb k 10) (omega arith)
    (rw (length-append (digits_of f (k / 10)) (digit (k % 10) ∷ [])) (omega (arith, digits-short f (k / 10))))

-- ---- enough digits

-- without its last digit a number has one digit fewer
pub tenth : (f k : ℕ) → k < 10 ^ suc f → k / 10 < 10 ^ f
tenth f k h = (div-lt_iff_lt-mul {k = 10} {x = k} {y = 10 ^ f} (omega arith)).1 (rw pow-suc at h)

by_digits : {x y : List ℕ} (z : List ℕ) (k : ℕ) (b : Bool) → ltb k 10 ≡ b → (10 ≤ k → x ≡ y) → cond b z x ≡ cond b z y
by_digits z k true e h = refl
by_digits z k false e h = h (ltb-false k 10 e)

-- where there are digits enough for a number, more give the same
pub enough_digits : (f g k : ℕ) → k < 10 ^ suc f → k < 10 ^ suc g → digits_of (suc f) k ≡ digits_of (suc g) k
unfolding digits_of
enough_digits zero g k h j = by_digits (digit k ∷ []) k (ltb k 10) refl (λ l. absurd (omega arith))
enough_digits (suc f) zero k h j = by_digits (digit k ∷ []) k (ltb k 10) refl (λ l. absurd (omega arith))
enough_digits (suc f) (suc g) k h j =
    by_digits (digit k ∷ []) k (ltb k 10) refl
    (λ l. ap (λ (ds : List ℕ). ds ++ (digit (k % 10) ∷ [])) (enough_digits f g (k / 10) (tenth (suc f) k h) (tenth (suc g) k j)))

-- there are fewer numbers below k than numbers of k digits
pow_above : (k : ℕ) → k < 10 ^ suc k
pow_above zero = omega arith
pow_above (suc k) = rw pow-suc (omega (arith, pow_above k))

-- a number below 10 ^ (f + 1) in decimal is its last f + 1 digits, and no more
module _ (f k : ℕ) (h : k < 10 ^ suc f) where
  pub decimal-digits : decimal k ≡ digits_of (suc f) k
  unfolding decimal
  decimal-digits = enough_digits k f k (pow_above k) h

  pub decimal-short : length (decimal k) ≤ suc f
  decimal-short = rw decimal-digits (digits-short (suc f) k)

-- ---- a number in decimal by its last digit

pub decimal_one : (k : ℕ) → k < 10 → decimal k ≡ digit k ∷ []
unfolding decimal
decimal_one k h = one_digit (suc k) k (λ e. omega arith) h

pub decimal_more : (k : ℕ) → 10 ≤ k → decimal k ≡ decimal (k / 10) ++ (digit (k % 10) ∷ [])
decimal_more k h =
    let p = pow_above k in
    let a : k < 10 ^ suc (suc k) = rw pow-suc (omega arith) in
    let b : k / 10 < 10 ^ suc k = omega arith in
    decimal-digits (suc k) k a
    ∙ last_digit (suc k) k h
    ∙ ap (λ (ds : List ℕ). ds ++ (digit (k % 10) ∷ [])) (sym (decimal-digits k (k / 10) b))
