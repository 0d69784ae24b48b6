-- What the refusal table promises: the numbers are those of the page and tell the faults apart, and an answer's numbers tell its verdict.
-- Assumes nothing.
use mathlib.Core.Path.{◌≡◌, refl, sym, ap, ◌∙◌}
use mathlib.Core.List.{List, [], ◌∷◌, map}
use Prim.Native.Nat.{ℕ, zero, suc}
use lib.ListN.{get_or}
use Rattle.faults.specs.declared.Fault.{Fault}
use Rattle.faults.specs.declared.Fault.TheVariants.{Long, Mark, Shape, Comma, Number, Range, Many, Vertex, Room, End, Kind, Spare, Repeat, Join}
use Rattle.faults.specs.declared.Refusal.{Refusal}
use Rattle.faults.specs.declared.Refuser.{Refuser}
use Rattle.faults.specs.declared.Spot.{Spot}
use Rattle.faults.specs.Spots.{spot_of, refuser_of}
use Rattle.faults.specs.Refusals.{number_of, Verdict, accepted, refused, Answer, answer_of}

-- the faults in the page's order
abbrev pub faults : List Fault
faults = Long ∷ Mark ∷ Shape ∷ Comma ∷ Number ∷ Range ∷ Many ∷ Vertex ∷ Room ∷ End ∷ Kind ∷ Spare ∷ Repeat ∷ Join ∷ []

-- their numbers count from 1
pub numbers_of_page : map number_of faults ≡ 1 ∷ 2 ∷ 3 ∷ 4 ∷ 5 ∷ 6 ∷ 7 ∷ 8 ∷ 9 ∷ 10 ∷ 11 ∷ 12 ∷ 13 ∷ 14 ∷ []
numbers_of_page = refl

-- where a fault stands in the list, from 0: its number is one more
pub record Listed (f : Fault) : Type 0 where
  pub at : ℕ
  pub next : number_of f ≡ suc at
  pub same : get_or faults at Long ≡ f

pub listed : (f : Fault) → Listed f
listed Long = record { at = 0; next = refl; same = refl }
listed Mark = record { at = 1; next = refl; same = refl }
listed Shape = record { at = 2; next = refl; same = refl }
listed Comma = record { at = 3; next = refl; same = refl }
listed Number = record { at = 4; next = refl; same = refl }
listed Range = record { at = 5; next = refl; same = refl }
listed Many = record { at = 6; next = refl; same = refl }
listed Vertex = record { at = 7; next = refl; same = refl }
listed Room = record { at = 8; next = refl; same = refl }
listed End = record { at = 9; next = refl; same = refl }
listed Kind = record { at = 10; next = refl; same = refl }
listed Spare = record { at = 11; next = refl; same = refl }
listed Repeat = record { at = 12; next = refl; same = refl }
listed Join = record { at = 13; next = refl; same = refl }

-- the fault that has a number
abbrev pub fault_at : ℕ → Fault
fault_at zero = Long
fault_at (suc n) = get_or faults n Long

pub fault_of_number : (f : Fault) → fault_at (number_of f) ≡ f
fault_of_number f = ap fault_at (listed f).next ∙ (listed f).same

-- two faults with one number are one fault
pub number_tells_fault : (f g : Fault) → number_of f ≡ number_of g → f ≡ g
number_tells_fault f g e = sym (fault_of_number f) ∙ ap fault_at e ∙ fault_of_number g

module _ {A : Type 0} where
  told : ℕ → Answer A → Verdict A
  told zero a = accepted a.values
  told (suc n) a = refused (record { fault = fault_at (suc n); place = a.place; second = a.second })

  -- the verdict that an answer's numbers tell
  verdict_in : Answer A → Verdict A
  verdict_in a = told a.number a

  told_refused : (r : Refusal) (a : Answer A) → a.place ≡ r.place → a.second ≡ r.second
      → told (number_of r.fault) a ≡ refused r
  unfolding told
  told_refused r a p s =
      ap (λ (n : ℕ). told n a) (listed r.fault).next
      ∙ (λ i. refused (record { fault = (listed r.fault).same i; place = p i; second = s i }))

  verdict_told : (zeros : A) (v : Verdict A) → verdict_in (answer_of zeros v) ≡ v
  unfolding answer_of told verdict_in
  verdict_told zeros (accepted v) = refl
  verdict_told zeros (refused r) = told_refused r (answer_of zeros (refused r)) refl refl

  -- two verdicts with one answer are one verdict
  pub answer_tells_verdict : (zeros : A) (v w : Verdict A) → answer_of zeros v ≡ answer_of zeros w → v ≡ w
  answer_tells_verdict zeros v w e = sym (verdict_told zeros v) ∙ ap verdict_in e ∙ verdict_told zeros w

-- ---- two answers that a contract allows are equal

-- `u32::from` of a fault
pub number_unique : (f : Fault) (a b : ℕ) → a ≡ number_of f → b ≡ number_of f → a ≡ b
number_unique f a b p q = p ∙ sym q

-- `spot_of`
pub spot_unique : (who : Refuser) (r : Refusal) (a b : Spot) → a ≡ spot_of who r → b ≡ spot_of who r → a ≡ b
spot_unique who r a b p q = p ∙ sym q

-- `refuser_of`
pub refuser_unique : (f : Fault) (a b : Refuser) → a ≡ refuser_of f → b ≡ refuser_of f → a ≡ b
refuser_unique f a b p q = p ∙ sym q
