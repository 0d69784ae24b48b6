-- From the answer at the width of the longest one to the answer of an entry, and from there to the array that the caller sees.
-- Assumes nothing.
use Prim.Native.Nat.{ℕ, zero, suc, ◌+◌, ◌≤◌}
use mathlib.Core.Path.{◌≡◌, refl, sym, ap, ◌∙◌}
use mathlib.Core.List.{List, [], ◌∷◌}
use native.Mathlib.Omega.{arith}
use lib.ListN.{take}
use Rattle.std.specs.Prelude.{Result, Ok, Err}
use Rattle.faults.specs.Refusals.{Verdict, accepted, refused, number_of, answer_of}
use Rattle.faults.specs.declared.Refusal.{Refusal}
use Rattle.brine.specs.Front.{zeros, answer_to, in_order, FrontAnswer}
use Rattle.brine.specs.FrontLoops.{verdict_by, Tells}
use Rattle.brine.specs.declared.told.Told.{Told}
use Rattle.brine.specs.declared.told.Told.{Told}

-- ---- an answer's numbers, with zeros behind them

-- the first of four zeros
few-zeros : (k : ℕ) → k ≤ 4 → take k (0 ∷ 0 ∷ 0 ∷ 0 ∷ []) ≡ zeros k
few-zeros zero h = refl
few-zeros (suc zero) h = refl
few-zeros (suc (suc zero)) h = refl
few-zeros (suc (suc (suc zero))) h = refl
few-zeros (suc (suc (suc (suc zero)))) h = refl
few-zeros (suc (suc (suc (suc (suc k))))) h = absurd (omega arith)

-- three numbers, and as many more
take-three : (k x y z : ℕ) (l : List ℕ) → take (3 + k) (x ∷ y ∷ z ∷ l) ≡ x ∷ y ∷ z ∷ take k l
take-three k x y z l = let e : 3 + k ≡ suc (suc (suc k)) = omega arith in rw e

module _ {V : Type 0} (values : V → List ℕ) where
  -- DONE and an entry's own values
  pub done_told : (k : ℕ) {v : V} {said : Result V Refusal} {numbers : List ℕ} (four : List ℕ) → said ≡ Ok v → numbers ≡ 0 ∷ 0 ∷ 0 ∷ four → take k four ≡ values v
      → FrontAnswer k (verdict_by values said) 0 (take (3 + k) numbers)
  unfolding answer_of
  done_told k four p e f = rw (p, e) (record { number = refl; numbers = take-three k 0 0 0 four ∙ ap (λ (l : List ℕ). 0 ∷ 0 ∷ 0 ∷ l) f })

  -- a refusal
  pub refusal_told : (k : ℕ) {said : Result V Refusal} {r : Refusal} {n m : ℕ} → said ≡ Err r → n ≡ number_of r.fault → m ≡ n → k ≤ 4
      → FrontAnswer k (verdict_by values said) n (take (3 + k) (m ∷ r.place ∷ r.second ∷ 0 ∷ 0 ∷ 0 ∷ 0 ∷ []))
  unfolding answer_of
  refusal_told k {r = r} p e f h =
      rw (p, f, e)
      (record {
        number = refl;
        numbers =
            take-three k (number_of r.fault) r.place r.second (0 ∷ 0 ∷ 0 ∷ 0 ∷ [])
            ∙ ap (λ (l : List ℕ). number_of r.fault ∷ r.place ∷ r.second ∷ l) (few-zeros k h);
      })

  -- a verdict that says the same of each answer is the same
  pub same_verdict : (f : Result V Refusal → Verdict (List ℕ)) → ((v : V) → f (Ok v) ≡ accepted (values v)) → ((r : Refusal) → f (Err r) ≡ refused r)
      → (said : Result V Refusal) → verdict_by values said ≡ f said
  same_verdict f h g (Ok v) = sym (h v)
  same_verdict f h g (Err r) = sym (g r)

-- ---- the answer that the caller sees

-- as many of the numbers as the array has room for
pub told_front : {k : ℕ} {v : Verdict (List ℕ)} {front : List ℕ} (t : Told) (n : ℕ) → Tells k v t → n ≡ 3 + k → front ≡ take n t.numbers → FrontAnswer k v t.number front
told_front t n h e f = record { number = h.number; numbers = f ∙ ap (λ (m : ℕ). take m t.numbers) e ∙ h.numbers }

-- the answer to a verdict is the answer to any with the same numbers
pub answered : {k : ℕ} {v w : Verdict (List ℕ)} {returned : ℕ} {answer : List ℕ} → answer_to k v ≡ answer_to k w → FrontAnswer k v returned answer → FrontAnswer k w returned answer
answered e h = record { number = h.number ∙ ap (λ a. a.number) e; numbers = h.numbers ∙ ap in_order e }
