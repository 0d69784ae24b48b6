-- The front for C: an answer is an array of numbers (number, place, second number, then the entry's own values) and the returned number.
--   values   the entry's own numbers, zeros where it refused
--   memory   what the caller lent besides the answer array
use Rattle.std.specs.Prelude.{◌≡◌, List, [], ◌∷◌, ℕ, zero, suc, length}
use Rattle.faults.specs.Refusals.{Verdict, accepted, and_then, Answer, answer_of}

-- as many zeros as an entry has values of its own
abbrev pub zeros : ℕ → List ℕ
zeros zero = []
zeros (suc k) = 0 ∷ zeros k

-- the page's answer to a verdict of an entry with k values of its own
abbrev pub answer_to : ℕ → Verdict (List ℕ) → Answer (List ℕ)
answer_to k verdict = answer_of (zeros k) verdict

-- its numbers in their order: number, place, second number, values
abbrev pub in_order : Answer (List ℕ) → List ℕ
in_order a = a.number ∷ a.place ∷ a.second ∷ a.values

module _ {A : Type 0} where
  -- an acceptance that has no value of its own
  abbrev pub no_value : Verdict A → Verdict (List ℕ)
  no_value verdict = and_then verdict λ x. accepted []

  -- an acceptance whose one value is how many there are
  abbrev pub how_many : Verdict (List A) → Verdict (List ℕ)
  how_many verdict = and_then verdict λ xs. accepted (length xs ∷ [])

-- the returned number is the page's, and the answer array, written whole, is the page's answer
pub record FrontAnswer (k : ℕ) (verdict : Verdict (List ℕ)) (returned : ℕ) (answer : List ℕ) : Type 0 where
  pub number : returned ≡ (answer_to k verdict).number
  pub numbers : answer ≡ in_order (answer_to k verdict)

-- the same, and the lent memory afterwards is what is due
pub record FrontDone {Memory : Type 0} (k : ℕ) (verdict : Verdict (List ℕ)) (returned : ℕ) (answer : List ℕ) (memory due : Memory) : Type 0 where
  pub answered : FrontAnswer k verdict returned answer
  pub left : memory ≡ due
