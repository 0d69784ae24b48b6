-- Laws of numbers: what a run of digits spells by its first byte, how large it is, and that no byte of it is below a digit.
-- Assumes nothing.
use Prim.Native.Nat.{ℕ, suc, ◌+◌, ◌-◌, ◌*◌, ◌^◌, ◌≤◌, ◌<◌, zero-le}
use native.Mathlib.Nat.{lt_of_lt_of_le, pow-le-pow_right, pow-suc, zero-add, add-zero, add-suc, suc-add}
use native.Mathlib.Numerals.{add-one}
use native.Mathlib.Omega.{arith}
use mathlib.Core.Path.{◌≡◌, refl, sym, ◌∙◌}
use mathlib.Core.Bool.{Bool, true, false, cond, true≢false}
use mathlib.Core.List.{List, [], ◌∷◌, ◌++◌}
use lib.Dec.{eqb, leb, lit<}
use lib.ListN.{length, drop, get_or, drop_of_length-le}
use lib.Seq.{drop-cons}
use borrow.Author.Tests.{leb-true, leb-false}
use Rattle.std.specs.Prelude.{Option, Some, None, Err}
use Rattle.limits.specs.Limits.{point, digit0, digit9, whole_digits, decimal_digits, number_digits}
use Rattle.laws.specs.Pieces.{Pieces, rest, piece, split}
use Rattle.laws.proofs.PieceLaws.{Free, split_free}
use Rattle.faults.specs.declared.Fault.TheVariants as fault
use Rattle.format.specs.Number.{digit_of, onto, appended, spelt, whole, decimals, cut, millimetres, unsigned, number_of}
use Rattle.format.specs.GoodFields.{Above}
use Rattle.format.proofs.CutLaws.{uncut_free}

-- ---- bytes

pub above_append : (b : ℕ) (x y : List ℕ) → Above b x → Above b y → Above b (x ++ y)
above_append b [] y f g = g
above_append b (a ∷ x) y f g = (f.0, above_append b x y f.1 g)

pub above_lower : (b c : ℕ) (l : List ℕ) → c ≤ b → Above b l → Above c l
above_lower b c [] h f = tt
above_lower b c (x ∷ l) h f = (omega (arith, f.0), above_lower b c l h f.1)

-- a byte below b stands nowhere
pub above_free : (b c : ℕ) (l : List ℕ) → c < b → Above b l → Free c l
above_free b c [] h f = tt
above_free b c (x ∷ l) h f = (λ e. omega (arith, f.0), above_free b c l h f.1)

-- where no lower byte stands, none is below b
pub free_above : (b : ℕ) (l : List ℕ) → ((c : ℕ) → c < b → Free c l) → Above b l
free_above b [] f = tt
free_above b (x ∷ l) f = (by (leb b x) refl, free_above b l (λ c h. (f c h).1))
  where
    by : (q : Bool) → leb b x ≡ q → b ≤ x
    by true e = leb-true b x e
    by false e = absurd ((f x (leb-false b x e)).0 refl)

-- ---- a digit

pub no_number : {X : Type 0} (n : ℕ) → None ≡ Some n → X
no_number n h = let z : ◌≡◌ {A = ℕ} 0 1 = cc in absurd (omega arith)

-- a digit is a byte from 48 on, and below ten
pub digit_told : (x d : ℕ) → digit_of x ≡ Some d → (digit0 ≤ x) × (d < 10)
unfolding digit_of
digit_told x d = by (leb digit0 x) (leb x digit9) refl refl
  where
    by : (a b : Bool) → leb digit0 x ≡ a → leb x digit9 ≡ b → cond a (cond b (Some (x - digit0)) None) None ≡ Some d → (digit0 ≤ x) × (d < 10)
    by true true p q e =
        let h = leb-true x digit9 q in
        let z : x - digit0 ≡ d = cc in
        (leb-true digit0 x p, omega arith)
    by true false p q e = no_number d e
    by false b p q e = no_number d e

-- one digit more: what is written after a number is a digit, and makes it ten times as large
pub record Appended (n x m : ℕ) : Type 0 where
  pub digit : ℕ
  pub is : digit_of x ≡ Some digit
  pub sum : m ≡ n * 10 + digit

pub appended_told : (n x m : ℕ) → appended n x ≡ Some m → Appended n x m
unfolding appended
appended_told n x m = by (digit_of x) refl
  where
    by : (a : Option ℕ) → digit_of x ≡ a → onto a (λ d. Some (n * 10 + d)) ≡ Some m → Appended n x m
    by (Some d) q e = record { digit = d; is = q; sum = cc }
    by None q e = no_number m e

pub appended-is : (n x d : ℕ) → digit_of x ≡ Some d → appended n x ≡ Some (n * 10 + d)
unfolding appended
appended-is n x d e = rw e

pub appended-not : (n x : ℕ) → digit_of x ≡ None → appended n x ≡ None
unfolding appended
appended-not n x e = rw e

pub appended-small : (n x m : ℕ) → appended n x ≡ Some m → m < (n + 1) * 10
appended-small n x m e =
    let a = appended_told n x m e in
    omega (arith, a.sum, (digit_told x a.digit a.is).1)

pub digit_low : (n x m : ℕ) → appended n x ≡ Some m → digit0 ≤ x
digit_low n x m e = let a = appended_told n x m e in (digit_told x a.digit a.is).0

-- ---- a run of digits, by its byte at i

module _ (t : List ℕ) (n i : ℕ) (h : i < length t) where
  pub spelt-not : digit_of (get_or t i 0) ≡ None → spelt n (drop i t) ≡ None
  unfolding spelt
  spelt-not e = rw (drop-cons t i 0, appended-not n (get_or t i 0) e)

  pub spelt_on : (d : ℕ) → digit_of (get_or t i 0) ≡ Some d → spelt n (drop i t) ≡ spelt (n * 10 + d) (drop (i + 1) t)
  unfolding spelt
  spelt_on d e = rw (drop-cons t i 0, appended-is n (get_or t i 0) d e, add-one)

pub spelt-end : (t : List ℕ) (n i : ℕ) → length t ≤ i → spelt n (drop i t) ≡ Some n
unfolding spelt
spelt-end t n i h = rw (drop_of_length-le t h)

digit_above : (n m x : ℕ) (l : List ℕ) → ((k : ℕ) → spelt k l ≡ Some m → Above digit0 l) → (a : Option ℕ) → appended n x ≡ a
    → onto a (λ k. spelt k l) ≡ Some m → Above digit0 (x ∷ l)
digit_above n m x l ih (Some k) e h = (digit_low n x k e, ih k h)
digit_above n m x l ih None e h = no_number m h

pub spelt_above : (n m : ℕ) (l : List ℕ) → spelt n l ≡ Some m → Above digit0 l
unfolding spelt
spelt_above n m [] h = tt
spelt_above n m (x ∷ l) h = digit_above n m x l (λ k q. spelt_above k m l q) (appended n x) refl h

pub spelt_append : (n : ℕ) (x y : List ℕ) → spelt n (x ++ y) ≡ onto (spelt n x) (λ m. spelt m y)
unfolding spelt
spelt_append n [] y = refl
spelt_append n (a ∷ x) y = by (appended n a) (λ m. spelt_append m x y)
  where
    by : (s : Option ℕ) → ((m : ℕ) → spelt m (x ++ y) ≡ onto (spelt m x) (λ k. spelt k y))
        → onto s (λ m. spelt m (x ++ y)) ≡ onto (onto s (λ m. spelt m x)) (λ k. spelt k y)
    by (Some m) h = h m
    by None h = refl

-- ---- how large

-- after a number of k digits come as many more as there are bytes
spelt_under : (l : List ℕ) (n m k : ℕ) → n < 10 ^ k → spelt n l ≡ Some m → m < 10 ^ (k + length l)
unfolding spelt
spelt_under [] n m k h e =
    let z : n ≡ m = cc in
    rw (add-zero, ← z) h
spelt_under (x ∷ l) n m k h e = by (λ j s q. spelt_under l j m (suc k) s q) (appended n x) refl e
  where
    by : ((j : ℕ) → j < 10 ^ suc k → spelt j l ≡ Some m → m < 10 ^ (suc k + length l))
        → (a : Option ℕ) → appended n x ≡ a → onto a (λ j. spelt j l) ≡ Some m → m < 10 ^ (k + suc (length l))
    by ih (Some j) q e =
        let s : j < 10 ^ suc k = rw pow-suc (omega (arith, appended-small n x j q)) in
        rw (add-suc, ← suc-add) (ih j s e)
    by ih None q e = no_number m e

pub spelt-small : (l : List ℕ) (m : ℕ) → spelt 0 l ≡ Some m → m < 10 ^ length l
spelt-small l m e = rw zero-add at (spelt_under l 0 m 0 (lit< tt) e)

pub whole-small : (k : ℕ) (l : List ℕ) (n : ℕ) → whole k l ≡ Some n → n < 10 ^ k
unfolding whole
whole-small k l n = by (eqb (length l) 0) (eqb (get_or l 0 0) digit0) (eqb (length l) 1) (leb (length l) k) refl
  where
    by : (a b c d : Bool) → leb (length l) k ≡ d
        → cond a None (cond b (cond c (Some 0) None) (cond d (spelt 0 l) None)) ≡ Some n → n < 10 ^ k
    by true b c d q e = no_number n e
    by false true true d q e =
        let z : 0 ≡ n = cc in
        rw (← z) (lt_of_lt_of_le (lit< tt) (pow-le-pow_right (lit< tt) zero-le))
    by false true false d q e = no_number n e
    by false false c true q e = lt_of_lt_of_le (spelt-small l n e) (pow-le-pow_right (lit< tt) (leb-true (length l) k q))
    by false false c false q e = no_number n e

-- a vertex number or count has at most four digits
pub number_small : (l : List ℕ) (n : ℕ) → number_of l ≡ Some n → n < 10 ^ number_digits
unfolding number_of
number_small l n e = whole-small number_digits l n e

-- ---- millimetres

millimetres-none : (neg : Bool) (w : Option ℕ) → millimetres neg w None ≡ Err fault.Number
unfolding millimetres
millimetres-none neg (Some w) = refl
millimetres-none neg None = refl

no_decimals : (f : List ℕ) → spelt 0 f ≡ None → decimals f ≡ None
unfolding decimals
no_decimals f e = rw e (by (eqb (length f) 0) (leb (length f) decimal_digits))
  where
    by : (a b : Bool) → cond {A = Option ℕ} a None (cond b None None) ≡ None
    by true b = refl
    by false true = refl
    by false false = refl

second_point : (neg : Bool) (w : List ℕ) (p : Pieces) → cut p ≡ true → unsigned neg (piece w p) ≡ Err fault.Number
unfolding unsigned
second_point neg w (rest l) e = absurd (true≢false (sym e))
second_point neg w (piece l p) e = refl

-- what is cut at a point is no run of digits, so the text after the first point is judged as a whole
pub unsigned_cut : (neg : Bool) (w f : List ℕ) → unsigned neg (piece w (split point f)) ≡ millimetres neg (whole whole_digits w) (decimals f)
unfolding unsigned
unsigned_cut neg w f = by (cut (split point f)) refl (spelt 0 f) refl
  where
    by : (q : Bool) → cut (split point f) ≡ q → (s : Option ℕ) → spelt 0 f ≡ s
        → unsigned neg (piece w (split point f)) ≡ millimetres neg (whole whole_digits w) (decimals f)
    by false e s q = rw (split_free point f (uncut_free point f e))
    by true e (Some m) q = absurd (true≢false (sym e ∙ rw (split_free point f (above_free digit0 point f (omega arith) (spelt_above 0 m f q)))))
    by true e None q = second_point neg w (split point f) e ∙ sym (rw (no_decimals f q) (millimetres-none neg (whole whole_digits w)))
