-- What reading numbers promises, in the words of specs/: two answers that a contract allows are equal. A reader starts here.
-- Assumes nothing.
use Prim.Native.Nat.{ℕ, ◌+◌, ◌≤◌, ◌<◌}
use native.Mathlib.Nat.{eq-or-lt_of_le, le_of_eq, le_refl}
use native.Mathlib.Omega.{arith}
use mathlib.Core.Path.{◌≡◌, refl, sym, ap, ◌∙◌}
use mathlib.Core.Logic.{◌⊎◌, inl, inr, ⊎_elim}
use mathlib.Core.List.{List, ◌∷◌, ◌++◌}
use lib.IntN.{ℤ}
use lib.ListN.{length, take, drop}
use lib.Seq.{drop-append-add, length-take-le}
use Rattle.std.specs.Prelude.{◌==◌, Option, Some, None, position, unwrap_or, Result, IfNone, IfSome}
use Rattle.std.proofs.lemmas.List.Quantifiers.{position-Some}
use Rattle.laws.specs.Pieces.{Pieces, rest, piece, split, FirstAt}
use Rattle.numbers.proofs.PartLaws.{parts_at, whole_at}
use Rattle.faults.specs.declared.Fault.{Fault}
use Rattle.format.specs.Number.{digit_of, coordinate_of, thousandths_of, number_of, value_of}

one : {A : Type 0} {a b x : A} → a ≡ x → b ≡ x → a ≡ b
one p q = p ∙ sym q

-- ---- numbers

-- `digit`
pub digit_unique : (x : ℕ) (a b : Option ℕ) → a ≡ digit_of x → b ≡ digit_of x → a ≡ b
digit_unique x a b = one

-- `coordinate`
pub coordinate_unique : (l : List ℕ) (a b : Result ℤ Fault) → a ≡ coordinate_of l → b ≡ coordinate_of l → a ≡ b
coordinate_unique l a b = one

-- `thousandths`
pub thousandths_unique : (l : List ℕ) (a b : ℤ) → a ≡ thousandths_of l → b ≡ thousandths_of l → a ≡ b
thousandths_unique l a b = one

-- `number`
pub number_unique : (l : List ℕ) (a b : Option ℕ) → a ≡ number_of l → b ≡ number_of l → a ≡ b
number_unique l a b = one

-- `value`
pub value_unique : (l : List ℕ) (a b : ℕ) → a ≡ value_of l → b ≡ value_of l → a ≡ b
value_unique l a b = one

-- ---- parts of a text

-- `find`
pub find_unique : (b : ℕ) (l : List ℕ) (r s : Option ℕ) → r ≡ position (λ x. x == b) l → s ≡ position (λ x. x == b) l → r ≡ s
find_unique b l r s = one

-- `until`
pub until_unique : (l : List ℕ) (k : ℕ) (a b : List ℕ) → a ≡ take k l → b ≡ take k l → a ≡ b
until_unique l k a b = one

-- `from`
pub from_unique : (l : List ℕ) (k : ℕ) (a b : List ℕ) → a ≡ drop k l → b ≡ drop k l → a ≡ b
from_unique l k a b = one

-- `past`
pub past_unique : (l : List ℕ) (k : ℕ) (a b : List ℕ) → a ≡ drop (k + 1) l → b ≡ drop (k + 1) l → a ≡ b
past_unique l k a b = one

no_cut : {X : Type 0} (l m : List ℕ) (p : Pieces) → piece m p ≡ rest l → X
no_cut l m p h = let z : ◌≡◌ {A = ℕ} 0 1 = cc in absurd (omega arith)

-- where `find` finds nothing its answer stands for the length: then it is where b stands first
pub find_first : (b : ℕ) (l : List ℕ) (r : Option ℕ) → r ≡ position (λ x. x == b) l → FirstAt b l (unwrap_or r (length l))
find_first b l (Some k) e =
    let h : k < length l = (position-Some (λ x. x == b) l k 0 (sym e)).0 in
    record { high = omega arith; hit = λ _. parts_at b l k (sym e); miss = λ n. absurd (omega arith) }
find_first b l None e = record { high = le_refl _; hit = λ n. absurd (omega arith); miss = λ _. whole_at b l (sym e) }

-- and there is one such place
module _ (b : ℕ) (l : List ℕ) where
  same-front : (r s : ℕ) (p q : Pieces) → r ≤ length l → s ≤ length l → piece (take r l) p ≡ piece (take s l) q → r ≡ s
  same-front r s p q h k e =
      let f : take r l ≡ take s l = cc in
      sym (length-take-le r l h) ∙ ap length f ∙ length-take-le s l k

  module _ (r s : ℕ) (f : FirstAt b l r) (g : FirstAt b l s) where
    found : r < length l → (s ≡ length l) ⊎ (s < length l) → r ≡ s
    found h (inl k) = no_cut l _ _ (sym (f.hit h) ∙ g.miss (le_of_eq (sym k)))
    found h (inr k) = same-front r s _ _ f.high g.high (sym (f.hit h) ∙ g.hit k)

    nowhere : r ≡ length l → (s ≡ length l) ⊎ (s < length l) → r ≡ s
    nowhere h (inl k) = h ∙ sym k
    nowhere h (inr k) = no_cut l _ _ (sym (g.hit k) ∙ f.miss (le_of_eq (sym h)))

    pub first_unique : r ≡ s
    first_unique = ⊎_elim (λ h. nowhere h (eq-or-lt_of_le g.high)) (λ h. found h (eq-or-lt_of_le g.high)) (eq-or-lt_of_le f.high)

-- what `split_once` says of its answer: what stands before the first b and after it, or that b stands nowhere
pub record Once (b : ℕ) (t : List ℕ) (r : Option (List ℕ × List ℕ)) : Type 0 where
  pub whole : IfNone r (split b t ≡ rest t)
  pub joined : IfSome r (λ p. t ≡ p.0 ++ (b ∷ p.1))
  pub parts : IfSome r (λ p. split b t ≡ piece p.0 (split b p.1))

-- `split_once`
pub once_unique : (b : ℕ) (t : List ℕ) (r s : Option (List ℕ × List ℕ)) → Once b t r → Once b t s → r ≡ s
once_unique b t None None f g = refl
once_unique b t None (Some (y, v)) f g = no_cut t y (split b v) (sym g.parts ∙ f.whole)
once_unique b t (Some (x, u)) None f g = no_cut t x (split b u) (sym f.parts ∙ g.whole)
once_unique b t (Some (x, u)) (Some (y, v)) f g =
    let e : piece x (split b u) ≡ piece y (split b v) = sym f.parts ∙ g.parts in
    let p : x ≡ y = cc in
    let q : x ++ (b ∷ u) ≡ x ++ (b ∷ v) = sym f.joined ∙ g.joined ∙ rw p in
    let w : u ≡ v = sym (drop-append-add x (b ∷ u) 1) ∙ ap (drop (length x + 1)) q ∙ drop-append-add x (b ∷ v) 1 in
    λ i. Some (p i, w i)
