-- What a number is written as is read as this number: digits, vertex numbers and counts, coordinates.
-- And which bytes do not stand among them. Assumes nothing.
use Prim.Native.Nat.{ℕ, zero, suc, ◌+◌, ◌-◌, ◌*◌, ◌/◌, ◌%◌, ◌^◌, ◌≤◌, ◌<◌}
use native.Mathlib.Omega.{arith}
use mathlib.Core.Path.{◌≡◌, refl, ap, ◌∙◌}
use mathlib.Core.Bool.{Bool, true, false, cond}
use mathlib.Core.List.{List, [], ◌∷◌, ◌++◌}
use lib.Dec.{eqb, ltb}
use lib.IntN.{ℤ, pos, negsuc, nat_abs}
use lib.ListN.{length, get_or, length-append, get_or-append}
use borrow.Author.Tests.{le-leb, ltb-true, ltb-false, ne_eqb}
use Rattle.std.specs.Prelude.{Some, Ok}
use Rattle.limits.specs.Limits.{comma, minus, point, digit0, digit9, coordinate_limit, number_digits}
use Rattle.laws.specs.Pieces.{split}
use Rattle.laws.proofs.PieceLaws.{Free, split-joined, split_free}
use Rattle.volume.specs.Volume.{in_range}
use Rattle.volume.proofs.RangeLaws.{in_range_within}
use Rattle.format.specs.Number.{digit_of, appended, spelt, whole, decimals, signed, millimetres, unsigned, coordinate_of, thousandths_of, number_of, value_of}
use Rattle.format.proofs.NumberLaws.{spelt_append}
use Rattle.writing.specs.Written.{digit, digits_of, decimal, sign_of, millimetres_of, coordinate_text}
use Rattle.writing.proofs.DecimalLaws.{digits-short, tenth, decimal-digits}

-- ---- bytes that do not stand in a text

pub free_append : (b : ℕ) (x y : List ℕ) → Free b x → Free b y → Free b (x ++ y)
free_append b [] y f g = g
free_append b (a ∷ x) y f g = (f.0, free_append b x y f.1 g)

-- ---- the digits of a number

either : (P : List ℕ → Type 0) (k : ℕ) (x y : List ℕ) → (k < 10 → P x) → (10 ≤ k → P y) → P (cond (ltb k 10) x y)
either P k x y f g = by (ltb k 10) refl
  where
    by : (b : Bool) → ltb k 10 ≡ b → P (cond b x y)
    by true e = f (ltb-true k 10 e)
    by false e = g (ltb-false k 10 e)

-- a byte below the digits is none of them
module _ (b : ℕ) (low : b < digit0) where
  digits_free : (f k : ℕ) → Free b (digits_of f k)
  unfolding digits_of
  digits_free zero k = tt
  digits_free (suc f) k =
      either (Free b) k (digit k ∷ []) (digits_of f (k / 10) ++ (digit (k % 10) ∷ []))
      (λ l. (λ e. omega arith, tt))
      (λ l. free_append b (digits_of f (k / 10)) (digit (k % 10) ∷ []) (digits_free f (k / 10)) (λ e. omega arith, tt))

  pub decimal_free : (k : ℕ) → Free b (decimal k)
  unfolding decimal
  decimal_free k = digits_free (suc k) k

-- there is one digit at least
digits-some : (f k : ℕ) → 0 < length (digits_of (suc f) k)
unfolding digits_of
digits-some f k =
    either (λ (l : List ℕ). 0 < length l) k (digit k ∷ []) (digits_of f (k / 10) ++ (digit (k % 10) ∷ [])) (λ l. omega arith)
    (λ l. rw (length-append (digits_of f (k / 10)) (digit (k % 10) ∷ [])) (omega arith))

pub decimal-some : (k : ℕ) → 0 < length (decimal k)
unfolding decimal
decimal-some k = digits-some k k

-- ---- what digits spell

appended-digit : (n d : ℕ) → d < 10 → appended n (digit d) ≡ Some (n * 10 + d)
unfolding appended digit_of
appended-digit n d h =
    let e : digit d - digit0 ≡ d = omega arith in
    rw (le-leb digit0 (digit d) (omega arith), le-leb (digit d) digit9 (omega arith), e)

one_spelt : (n d : ℕ) → d < 10 → spelt n (digit d ∷ []) ≡ Some (n * 10 + d)
unfolding spelt
one_spelt n d h = rw (appended-digit n d h)

digits-spelt : (f k : ℕ) → k < 10 ^ suc f → spelt 0 (digits_of (suc f) k) ≡ Some k
unfolding digits_of
digits-spelt zero k h =
    either (λ (l : List ℕ). spelt 0 l ≡ Some k) k (digit k ∷ []) _ (λ l. one_spelt 0 k l ∙ ap Some (omega arith)) (λ l. absurd (omega arith))
digits-spelt (suc f) k h =
    either (λ (l : List ℕ). spelt 0 l ≡ Some k) k (digit k ∷ []) (digits_of (suc f) (k / 10) ++ (digit (k % 10) ∷ []))
    (λ l. one_spelt 0 k l ∙ ap Some (omega arith))
    (λ l.
    spelt_append 0 (digits_of (suc f) (k / 10)) (digit (k % 10) ∷ [])
    ∙ rw (digits-spelt f (k / 10) (tenth (suc f) k h)) (one_spelt (k / 10) (k % 10) (omega arith) ∙ ap Some (omega arith)))

-- the first digit is 0 in 0 alone
digits-first : (f k : ℕ) → 0 < k → k < 10 ^ suc f → get_or (digits_of (suc f) k) 0 0 ≡ digit0 → ⊥
unfolding digits_of
digits-first zero k z h =
    either (λ (l : List ℕ). get_or l 0 0 ≡ digit0 → ⊥) k (digit k ∷ []) _ (λ l e. omega arith) (λ l. absurd (omega arith))
digits-first (suc f) k z h =
    either (λ (l : List ℕ). get_or l 0 0 ≡ digit0 → ⊥) k (digit k ∷ []) (digits_of (suc f) (k / 10) ++ (digit (k % 10) ∷ []))
    (λ l e. omega arith)
    (λ l.
    rw (get_or-append (digits_of (suc f) (k / 10)) (digit (k % 10) ∷ []) 0 0 (digits-some f (k / 10)))
    (digits-first f (k / 10) (omega arith) (tenth (suc f) k h)))

zero-whole : (f : ℕ) → whole (suc f) (digits_of (suc f) 0) ≡ Some 0
unfolding digits_of whole
zero-whole f = refl

more_whole : (f k : ℕ) → 0 < k → k < 10 ^ suc f → whole (suc f) (digits_of (suc f) k) ≡ Some k
unfolding whole
more_whole f k z h =
    let l = digits_of (suc f) k in
    let some = digits-some f k in
    rw (ne_eqb (length l) 0 (λ e. omega arith), ne_eqb (get_or l 0 0) digit0 (digits-first f k z h), le-leb (length l) (suc f) (digits-short (suc f) k))
    (digits-spelt f k h)

-- a number with at most f + 1 digits reads back where so many are allowed
pub decimal-whole : (f k : ℕ) → k < 10 ^ suc f → whole (suc f) (decimal k) ≡ Some k
decimal-whole f zero h = rw (decimal-digits f 0 h) (zero-whole f)
decimal-whole f (suc k) h = rw (decimal-digits f (suc k) h) (more_whole f (suc k) (omega arith) h)

-- ---- a vertex number or count

pub number-back : (k : ℕ) → k < 10 ^ number_digits → number_of (decimal k) ≡ Some k
unfolding number_of
number-back k h = decimal-whole 3 k h

pub value_back : (k : ℕ) → k < 10 ^ number_digits → value_of (decimal k) ≡ k
unfolding value_of
value_back k h = rw (number-back k h)

-- ---- a coordinate

-- its three decimals
abbrev thirds : ℕ → List ℕ
thirds m = digit (m / 100 % 10) ∷ digit (m / 10 % 10) ∷ digit (m % 10) ∷ []

thirds_free : (b m : ℕ) → b < digit0 → Free b (thirds m)
thirds_free b m h = (λ e. omega arith, (λ e. omega arith, (λ e. omega arith, tt)))

decimals-back : (m : ℕ) → decimals (thirds m) ≡ Some (m % 1000)
unfolding decimals spelt
decimals-back m =
    rw (appended-digit 0 (m / 100 % 10) (omega arith), appended-digit _ (m / 10 % 10) (omega arith), appended-digit _ (m % 10) (omega arith))
    (ap Some (omega arith))

millimetres_free : (b m : ℕ) → b < digit0 → (point ≡ b → ⊥) → Free b (millimetres_of m)
unfolding millimetres_of
millimetres_free b m h n = free_append b (decimal (m / 1000)) (point ∷ thirds m) (decimal_free b h (m / 1000)) (n, thirds_free b m h)

unsigned_back : (neg : Bool) (m : ℕ) → m ≤ coordinate_limit → unsigned neg (split point (millimetres_of m)) ≡ Ok (signed neg m)
unfolding unsigned millimetres millimetres_of
unsigned_back neg m h =
    let e : m / 1000 * 1000 + m % 1000 ≡ m = omega arith in
    rw (split-joined point (decimal (m / 1000)) (thirds m) (decimal_free point (omega arith) (m / 1000)), split_free point (thirds m) (thirds_free point m (omega arith)))
    (rw (decimal-whole 5 (m / 1000) (omega arith), decimals-back m, e, le-leb m coordinate_limit h))

-- the first byte of a text that holds b nowhere is not b
first-not : (b : ℕ) (x y : List ℕ) → 0 < length x → Free b x → eqb (get_or (x ++ y) 0 0) b ≡ false
first-not b [] y h f = absurd (omega arith)
first-not b (a ∷ x) y h f = ne_eqb a b f.0

no-comma : (z : ℤ) → Free comma (coordinate_text z)
unfolding coordinate_text sign_of
no-comma (pos n) = millimetres_free comma n (omega arith) (λ e. omega arith)
no-comma (negsuc n) = (λ e. omega arith, millimetres_free comma (suc n) (omega arith) (λ e. omega arith))

pub coordinate_free : (b : ℕ) (z : ℤ) → b < minus → Free b (coordinate_text z)
unfolding coordinate_text sign_of
coordinate_free b (pos n) h = millimetres_free b n (omega arith) (λ e. omega arith)
coordinate_free b (negsuc n) h = (λ e. omega arith, millimetres_free b (suc n) (omega arith) (λ e. omega arith))

pub coordinate-some : (z : ℤ) → 0 < length (coordinate_text z)
unfolding coordinate_text millimetres_of
coordinate-some z =
    rw (length-append (sign_of z) (millimetres_of (nat_abs z)), length-append (decimal (nat_abs z / 1000)) (point ∷ thirds (nat_abs z))) (omega arith)

plus_first : (m : ℕ) → eqb (get_or (millimetres_of m) 0 0) minus ≡ false
unfolding millimetres_of
plus_first m = first-not minus (decimal (m / 1000)) (point ∷ thirds m) (decimal-some (m / 1000)) (decimal_free minus (omega arith) (m / 1000))

back : (z : ℤ) → nat_abs z ≤ coordinate_limit → coordinate_of (coordinate_text z) ≡ Ok z
unfolding coordinate_of coordinate_text sign_of
back (pos n) h =
    rw (split_free comma (millimetres_of n) (no-comma (pos n)), plus_first n) (unsigned_back false n h)
back (negsuc n) h =
    rw (split_free comma (minus ∷ millimetres_of (suc n)) (no-comma (negsuc n))) (unsigned_back true (suc n) h)

pub coordinate-back : (z : ℤ) → in_range z ≡ true → coordinate_of (coordinate_text z) ≡ Ok z
coordinate-back z h = back z (in_range_within z h).abs

pub thousandths_back : (z : ℤ) → in_range z ≡ true → thousandths_of (coordinate_text z) ≡ z
unfolding thousandths_of
thousandths_back z h = rw (coordinate-back z h)
