-- The numbers of the text file, as functions of a field's bytes.
use Rattle.std.specs.Prelude.{ℕ, ◌+◌, ◌-◌, ◌*◌, ◌^◌, Bool, true, false, cond, List, [], ◌∷◌, length, get_or, drop, eqb, leb, ℤ, pos, neg_ℤ, Option, Some, None, Result, Ok, Err}
use Rattle.limits.specs.Limits.{comma, minus, point, digit0, digit9, coordinate_limit, whole_digits, decimal_digits, number_digits}
use Rattle.laws.specs.Pieces.{Pieces, rest, piece, split}
use Rattle.faults.specs.declared.Fault.{Fault}
use Rattle.faults.specs.declared.Fault.TheVariants as fault

-- ---- digits

-- the digit that a byte is
unfoldable pub digit_of : ℕ → Option ℕ
digit_of x = cond (leb digit0 x) (cond (leb x digit9) (Some (x - digit0)) None) None

-- what comes of a number, where there is one
abbrev pub onto : Option ℕ → (ℕ → Option ℕ) → Option ℕ
onto (Some n) f = f n
onto None f = None

-- n with the digit x written after it
unfoldable pub appended : ℕ → ℕ → Option ℕ
appended n x = onto (digit_of x) (λ d. Some (n * 10 + d))

-- the number that digits spell, where n is spelt before them
unfoldable pub spelt : ℕ → List ℕ → Option ℕ
spelt n [] = Some n
spelt n (x ∷ xs) = onto (appended n x) (λ m. spelt m xs)

-- 0, or one to k digits not starting with 0
unfoldable pub whole : ℕ → List ℕ → Option ℕ
whole k l =
    cond (eqb (length l) 0) None
    (cond (eqb (get_or l 0 0) digit0) (cond (eqb (length l) 1) (Some 0) None)
    (cond (leb (length l) k) (spelt 0 l) None))

-- a number k times as large
abbrev pub times : ℕ → Option ℕ → Option ℕ
times k (Some n) = Some (n * k)
times k None = None

-- one to three digits after the point, in thousandths
unfoldable pub decimals : List ℕ → Option ℕ
decimals l =
    cond (eqb (length l) 0) None
    (cond (leb (length l) decimal_digits) (times (10 ^ (decimal_digits - length l)) (spelt 0 l)) None)

-- ---- a coordinate: an optional minus, then 0 or one to six digits not starting with 0, then optionally a point and one to three digits

-- the text is cut: the byte that it is cut at stands in it
abbrev pub cut : Pieces → Bool
cut (rest l) = false
cut (piece l p) = true

-- the number behind an optional minus
abbrev pub signed : Bool → ℕ → ℤ
signed true n = neg_ℤ (pos n)
signed false n = pos n

-- whole millimetres and thousandths: NUMBER where one is not of the stated form, RANGE beyond the limits; -0.0 is zero
unfoldable pub millimetres : Bool → Option ℕ → Option ℕ → Result ℤ Fault
millimetres neg (Some w) (Some f) =
    cond (leb (w * 1000 + f) coordinate_limit) (Ok (signed neg (w * 1000 + f))) (Err fault.Range)
millimetres neg (Some w) None = Err fault.Number
millimetres neg None (Some f) = Err fault.Number
millimetres neg None None = Err fault.Number

-- what stands after the minus, cut at each point
unfoldable pub unsigned : Bool → Pieces → Result ℤ Fault
unsigned neg (rest w) = millimetres neg (whole whole_digits w) (Some 0)
unsigned neg (piece w (rest f)) = millimetres neg (whole whole_digits w) (decimals f)
unsigned neg (piece w (piece f p)) = Err fault.Number

-- a coordinate: COMMA where the field holds one, then NUMBER, then RANGE
unfoldable pub coordinate_of : List ℕ → Result ℤ Fault
coordinate_of l =
    cond (cut (split comma l)) (Err fault.Comma)
    (cond (eqb (get_or l 0 0) minus) (unsigned true (split point (drop 1 l))) (unsigned false (split point l)))

-- its thousandths, 0 where it is none
abbrev pub thousandths_in : Result ℤ Fault → ℤ
thousandths_in (Ok z) = z
thousandths_in (Err f) = pos 0

-- the thousandths that a coordinate field says
unfoldable pub thousandths_of : List ℕ → ℤ
thousandths_of l = thousandths_in (coordinate_of l)

-- ---- a vertex number or count: 0 or one to four digits not starting with 0

-- a vertex number or count field
unfoldable pub number_of : List ℕ → Option ℕ
number_of l = whole number_digits l

-- the number, 0 where it is none
abbrev pub value_in : Option ℕ → ℕ
value_in (Some n) = n
value_in None = 0

-- the number that such a field says
unfoldable pub value_of : List ℕ → ℕ
value_of l = value_in (number_of l)
