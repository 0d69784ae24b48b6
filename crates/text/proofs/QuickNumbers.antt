-- Numbers read quickly: digits that go on, numbers not starting with 0, decimals, coordinates.
-- Assumes nothing.
use Prim.Native.Nat.{ℕ, ◌+◌, ◌-◌, ◌*◌, ◌^◌, ◌≤◌, ◌<◌}
use native.Mathlib.Nat.{pow-suc, pow-le-pow_right, lt_of_lt_of_le, mul-le-mul}
use native.Mathlib.Numerals.{add-one}
use native.Mathlib.Omega.{arith}
use mathlib.Core.Path.{◌≡◌, refl, sym, ap, ◌∙◌}
use mathlib.Core.Bool.{Bool, true, false}
use mathlib.Core.List.{List, [], ◌∷◌, ◌++◌, append_assoc, append-nil}
use mathlib.Core.Logic.{◌⊎◌, inl, inr}
use lib.Dec.{eqb, lit<}
use lib.IntN.{ℤ}
use lib.ListN.{length, get_or, take, drop, length-append}
use lib.Seq.{take-suc, length-take-le}
use borrow.Author.Tests.{le-leb, ne_eqb}
use Rattle.std.proofs.Common.{Some}
use Rattle.std.proofs.lemmas.List.{take-append-drop, get_or-take, take_rest}
use Rattle.std.proofs.lemmas.Slice.{first_rest}
use Rattle.limits.specs.Limits.{comma, minus, point, digit0, whole_digits, decimal_digits, number_digits, coordinate_limit}
use Rattle.laws.proofs.PieceLaws.{split-joined, split_free}
use Rattle.format.proofs.NumberLaws.{above_append, above_lower, above_free, appended-is, appended-small, spelt_above, spelt_append}
use Rattle.format.specs.Number.{digit_of, appended, spelt, whole, decimals, signed, millimetres, unsigned, coordinate_of, number_of}
use Rattle.format.specs.GoodFields.{Above}
use Rattle.text.specs.QuickLoops.{DigitsAt, WholeAt, DecimalsAt, PartAt, UnsignedAt, CoordinateAt, NumberAt}

-- ---- bytes

-- what stands behind the first byte
abbrev pub after : List ℕ → List ℕ
after t = take (length t - 1) (drop 1 t)

pub first_byte : (t : List ℕ) (x : ℕ) → get_or t 0 0 ≡ x → 0 < x → t ≡ x ∷ after t
first_byte [] x e h = absurd (omega arith)
first_byte (y ∷ t) x e h = first_rest (y ∷ t) 0 (omega arith) ∙ ap (λ (z : ℕ). z ∷ after (y ∷ t)) e

-- ---- digits

one_spelt : (n x m : ℕ) → appended n x ≡ Some m → spelt n (x ∷ []) ≡ Some m
unfolding spelt
one_spelt n x m e = rw e

module _ (t : List ℕ) (most : ℕ) where
  pub digits-none : DigitsAt t most 0 0
  unfolding spelt
  digits-none = record { few = omega arith; inside = omega arith; spells = refl; small = lit< tt }

  -- a digit more
  pub digits_more : (m n k d : ℕ) → m ≤ most → m ≤ length t → DigitsAt t most n k → k < length (take m t) → digit_of (get_or (take m t) k 0) ≡ Some d
      → DigitsAt t most (n * 10 + d) (k + 1)
  digits_more m n k d l g s h q =
      let i : k < m = omega (arith, length-take-le m t g) in
      let e = appended-is n (get_or t k 0) d (rw (get_or-take m t k 0 i) at q) in
      record {
        few = omega arith;
        inside = omega arith;
        spells = rw (add-one k, take-suc t k 0 (omega arith), spelt_append 0 (take k t) (get_or t k 0 ∷ []), s.spells) (one_spelt n _ _ e);
        small = rw (add-one k, pow-suc) (omega (arith, s.small, appended-small n (get_or t k 0) _ e));
      }

  -- at most six digits are below a million
  pub digits_under : (n k : ℕ) → most ≤ whole_digits → DigitsAt t most n k → n < 10 ^ 6
  digits_under n k h d =
      let l : k ≤ 6 = omega (arith, d.few) in
      let p : 10 ^ k ≤ 10 ^ 6 = pow-le-pow_right (lit< tt) l in
      lt_of_lt_of_le d.small p

  -- what stands behind them
  abbrev pub behind : ℕ → List ℕ
  behind k = take (length t - k) (drop k t)

  pub cut_at : (k : ℕ) → t ≡ take k t ++ behind k
  cut_at k = sym (take-append-drop k t) ∙ ap (λ (l : List ℕ). take k t ++ l) (sym (take_rest t k))

-- ---- 0, or digits not starting with 0

whole_one : (most n : ℕ) (l : List ℕ) → length l ≡ 1 → get_or l 0 0 ≡ digit0 → spelt 0 l ≡ Some n → whole most l ≡ Some n
unfolding whole spelt appended digit_of
whole_one most n [] h q e = absurd (omega arith)
whole_one most n (x ∷ []) h q e = rw q (rw q at e)
whole_one most n (x ∷ y ∷ l) h q e = absurd (omega arith)

whole_more : (most n : ℕ) (l : List ℕ) → 0 < length l → length l ≤ most → (get_or l 0 0 ≡ digit0 → ⊥) → spelt 0 l ≡ Some n → whole most l ≡ Some n
unfolding whole
whole_more most n l s g z e = rw (ne_eqb (length l) 0 (λ q. omega arith), ne_eqb (get_or l 0 0) digit0 z, le-leb (length l) most g) e

module _ (t : List ℕ) (most n k : ℕ) (d : DigitsAt t most n k) (some : (k ≡ 0) → ⊥) where
  whole_of : whole most (take k t) ≡ Some n → WholeAt t most n (behind t most k)
  whole_of e =
      let l = length-take-le k t d.inside in
      record {
        digits = take k t;
        here = cut_at t most k;
        some = omega arith;
        is = e;
        small = lt_of_lt_of_le d.small (pow-le-pow_right (lit< tt) d.few);
        plain = spelt_above 0 n (take k t) d.spells;
      }

  its_first : get_or (take k t) 0 0 ≡ get_or t 0 0
  its_first = get_or-take k t 0 0 (omega arith)

  pub whole_at : ((get_or t 0 0 ≡ digit0) × (k ≡ 1)) ⊎ (get_or t 0 0 ≡ digit0 → ⊥) → WholeAt t most n (behind t most k)
  whole_at (inl z) = whole_of (whole_one most n (take k t) (length-take-le k t d.inside ∙ z.1) (its_first ∙ z.0) d.spells)
  whole_at (inr z) =
      let l = length-take-le k t d.inside in
      whole_of (whole_more most n (take k t) (omega arith) (omega (arith, d.few)) (λ q. z (sym its_first ∙ q)) d.spells)

-- ---- decimals

module _ (t : List ℕ) (n k : ℕ) (d : DigitsAt t decimal_digits n k) (some : (k ≡ 0) → ⊥) where
  pub decimals_at : (s m : ℕ) → 10 ^ (decimal_digits - k) ≡ s → s ≤ 100 → m ≡ n * s → DecimalsAt t m (behind t decimal_digits k)
  unfolding decimals
  decimals_at s m p h e =
      let q = length-take-le k t d.inside in
      let f : n < 10 ^ 3 = lt_of_lt_of_le d.small (pow-le-pow_right (lit< tt) d.few) in
      let l : n ≤ 999 = omega arith in
      let g : n * s ≤ 999 * 100 = mul-le-mul l h in
      record {
        digits = take k t;
        here = cut_at t decimal_digits k;
        is = rw (q, ne_eqb k 0 some, le-leb k decimal_digits d.few, d.spells, p, e);
        small = omega arith;
        plain = spelt_above 0 n (take k t) d.spells;
      }

-- ---- a coordinate

-- nothing
pub part_none : (t : List ℕ) → PartAt t 0 t
unfolding unsigned
part_none t = record {
  field = [];
  here = refl;
  is = λ neg w a. rw (append-nil w, split_free point w (above_free digit0 point w (omega arith) a));
  small = omega arith;
  plain = tt;
}

-- a point and decimals
pub part_decimals : (t : List ℕ) (n : ℕ) (rest : List ℕ) → get_or t 0 0 ≡ point → DecimalsAt (after t) n rest → PartAt t n rest
unfolding unsigned
part_decimals t n rest e d = record {
  field = point ∷ d.digits;
  here = first_byte t point e (omega arith) ∙ ap (λ (l : List ℕ). point ∷ l) d.here;
  is = λ neg w a.
      rw (
        split-joined point w d.digits (above_free digit0 point w (omega arith) a),
        split_free point d.digits (above_free digit0 point d.digits (omega arith) d.plain),
        d.is,
      );
  small = d.small;
  plain = (omega arith, above_lower digit0 point d.digits (omega arith) d.plain);
}

-- whole millimetres and thousandths within the limits
pub unsigned_at : (neg : Bool) (t : List ℕ) (w n : ℕ) (between rest : List ℕ) (z : ℤ) → WholeAt t whole_digits w between → PartAt between n rest
    → w * 1000 + n ≤ coordinate_limit → z ≡ signed neg (w * 1000 + n) → UnsignedAt neg t z rest
unfolding millimetres
unsigned_at neg t w n between rest z d p h e = record {
  field = d.digits ++ p.field;
  here = d.here ∙ rw p.here (sym (append_assoc d.digits p.field rest));
  some = rw (length-append d.digits p.field) (omega arith);
  is = p.is neg d.digits d.plain ∙ rw (d.is, le-leb (w * 1000 + n) coordinate_limit h, e);
  plain = above_append point d.digits p.field (above_lower digit0 point d.digits (omega arith) d.plain) p.plain;
}

first-high : (b c : ℕ) (l : List ℕ) → c < b → 0 < length l → Above b l → eqb (get_or l 0 0) c ≡ false
first-high b c [] h s f = absurd (omega arith)
first-high b c (x ∷ l) h s f = ne_eqb x c (λ e. omega (arith, f.0))

-- with no minus
pub coordinate_plus : (t : List ℕ) (z : ℤ) (rest : List ℕ) → UnsignedAt false t z rest → CoordinateAt t z rest
unfolding coordinate_of
coordinate_plus t z rest m = record {
  field = m.field;
  here = m.here;
  some = m.some;
  is = rw (split_free comma m.field (above_free point comma m.field (omega arith) m.plain), first-high point minus m.field (omega arith) m.some m.plain) m.is;
  plain = above_lower point minus m.field (omega arith) m.plain;
}

-- with a minus
pub coordinate_minus : (t : List ℕ) (z : ℤ) (rest : List ℕ) → get_or t 0 0 ≡ minus → UnsignedAt true (after t) z rest → CoordinateAt t z rest
unfolding coordinate_of
coordinate_minus t z rest e m = record {
  field = minus ∷ m.field;
  here = first_byte t minus e (omega arith) ∙ ap (λ (l : List ℕ). minus ∷ l) m.here;
  some = omega arith;
  is = rw (split_free comma (minus ∷ m.field) (λ e. omega arith, above_free point comma m.field (omega arith) m.plain)) m.is;
  plain = (omega arith, above_lower point minus m.field (omega arith) m.plain);
}

pub number_at : (t : List ℕ) (count n : ℕ) (rest : List ℕ) → WholeAt t number_digits n rest → (n ≡ 0 → ⊥) → n ≤ count → NumberAt t count n rest
unfolding number_of
number_at t count n rest w z h = record { field = w.digits; here = w.here; some = w.some; is = w.is; low = omega arith; high = h; plain = w.plain }
