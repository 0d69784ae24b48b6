-- What the first fields of a text say, stored one after the other: a field more, and all of them.
-- Assumes nothing.
use Prim.Native.Nat.{ℕ, suc, ◌+◌, ◌-◌, ◌≤◌, ◌<◌}
use native.Mathlib.Nat.{sub-zero}
use native.Mathlib.Numerals.{add-one}
use native.Mathlib.Omega.{arith}
use mathlib.Core.Path.{◌≡◌, refl, sym, ap, ◌∙◌}
use mathlib.Core.List.{List}
use lib.ListN.{length, get_or, set}
use lib.Seq.{sets}
use Rattle.limits.specs.Limits.{space}
use Rattle.laws.specs.Pieces.{Pieces, rest, piece, split}
use Rattle.format.specs.Number.{value_of}
use Rattle.format.specs.Line.{first_of, numbers_of}
use Rattle.format.proofs.FieldLaws.{length-first, first-none, first_then, sets-whole}
use Rattle.text.specs.ReadingLoops.{FirstField}

module _ {A : Type 0} (f : List ℕ → A) (n : ℕ) (s : List ℕ) where
  -- what is said of what is left, stored from place i on, makes the whole
  pub record SaidSoFar (values : List A) (i : ℕ) (t : List ℕ) : Type 0 where
    pub same : first_of f n (split space s) ≡ sets values i (first_of f (n - i) (split space t))

  pub said_none : (values : List A) → length values ≡ n → SaidSoFar values 0 s
  said_none values e = record {
    same = rw sub-zero (sym (sets-whole (first_of f n (split space s)) values (length-first f n (split space s) ∙ sym e)));
  }

  pub said_more : {values : List A} {i : ℕ} {t : List ℕ} (field more : List ℕ) (v : A) → SaidSoFar values i t → i < n → FirstField t field more → v ≡ f field
      → SaidSoFar (set values i v) (i + 1) more
  said_more {values = values} {i = i} {t = t} field more v k h e q =
      let m : n - i ≡ suc (n - (i + 1)) = omega arith in
      record { same = k.same ∙ ap (sets values i) (first_then f t field more e (n - i) (n - (i + 1)) m) ∙ rw (q, add-one i) }

  pub said_all : {values : List A} {i : ℕ} {t : List ℕ} → SaidSoFar values i t → n ≤ i → values ≡ first_of f n (split space s)
  said_all {i = i} {t = t} k h =
      let z : n - i ≡ 0 = omega arith in
      sym (k.same ∙ rw (first-none f (n - i) (split space t) z))

-- the first two numbers are the first two of the first eight
pub first_number : (p : Pieces) → get_or (first_of value_of 2 p) 0 0 ≡ get_or (numbers_of p) 0 0
unfolding first_of
first_number (rest l) = refl
first_number (piece l p) = refl

pub second_number : (p : Pieces) → get_or (first_of value_of 2 p) 1 0 ≡ get_or (numbers_of p) 1 0
unfolding first_of
second_number (rest l) = refl
second_number (piece l (rest m)) = refl
second_number (piece l (piece m p)) = refl
