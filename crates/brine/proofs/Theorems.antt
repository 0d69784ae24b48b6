-- What the front for C promises beyond the entries behind it: an array and a returned number that a contract allows are the only ones, the
-- returned number is the first of the array, and the array tells the verdict. Assumes nothing.
use Prim.Native.Nat.{ℕ}
use mathlib.Core.Path.{◌≡◌, refl, sym, ap, ◌∙◌}
use mathlib.Core.List.{List}
use lib.IntN.{ℤ}
use lib.ListN.{get_or, drop}
use Rattle.faults.specs.Refusals.{Verdict, Answer}
use Rattle.faults.proofs.Theorems.{answer_tells_verdict}
use Rattle.brine.specs.Entries.{ReadFront, JudgeFront, CutFront, SignFront, TextFront}
use Rattle.brine.specs.Front.{zeros, answer_to, in_order, FrontAnswer, FrontDone}

-- ---- two answers, and two memories, that a contract allows are equal

-- what a contract fixes: the returned number and the answer array
pub record SameAnswer (r r' : ℕ) (answer answer' : List ℕ) : Type 0 where
  pub returned : r ≡ r'
  pub array : answer ≡ answer'

-- and the lent memory
pub record SameDone {Memory : Type 0} (r r' : ℕ) (answer answer' : List ℕ) (memory memory' : Memory) : Type 0 where
  pub answered : SameAnswer r r' answer answer'
  pub left : memory ≡ memory'

module _ {k : ℕ} {v : Verdict (List ℕ)} {r r' : ℕ} {answer answer' : List ℕ} where
  pub answer_unique : FrontAnswer k v r answer → FrontAnswer k v r' answer' → SameAnswer r r' answer answer'
  answer_unique h g = record { returned = h.number ∙ sym g.number; array = h.numbers ∙ sym g.numbers }

  pub done_unique : {Memory : Type 0} {memory memory' due : Memory} → FrontDone k v r answer memory due → FrontDone k v r' answer' memory' due
      → SameDone r r' answer answer' memory memory'
  done_unique h g = record { answered = answer_unique h.answered g.answered; left = h.left ∙ sym g.left }

module _ {r r' : ℕ} {answer answer' : List ℕ} where
  -- `brine_read`
  pub read_unique : (file : List ℕ) (vertices : List ℤ) (elements : List ℕ) {v v' : List ℤ} {e e' : List ℕ}
      → ReadFront file vertices elements r answer v e → ReadFront file vertices elements r' answer' v' e'
      → SameDone {Memory = List ℤ × List ℕ} r r' answer answer' (v, e) (v', e')
  read_unique file vertices elements = done_unique

  -- `brine_judge`
  pub judge_unique : (v n : ℕ) (elements : List ℕ) → JudgeFront v n elements r answer → JudgeFront v n elements r' answer' → SameAnswer r r' answer answer'
  judge_unique v n elements = answer_unique

  -- `brine_cut`
  pub cut_unique : (v n : ℕ) (elements tetrahedra : List ℕ) {new new' : List ℕ}
      → CutFront v n elements tetrahedra r answer new → CutFront v n elements tetrahedra r' answer' new' → SameDone r r' answer answer' new new'
  cut_unique v n elements tetrahedra = done_unique

  -- `brine_signs`
  pub sign_unique : (v n : ℕ) (elements : List ℕ) (vertices : List ℤ)
      → SignFront v n elements vertices r answer → SignFront v n elements vertices r' answer' → SameAnswer r r' answer answer'
  sign_unique v n elements vertices = answer_unique

  -- `brine_write_vertex`, `brine_write_element`, `brine_write_end`, `brine_convert`
  pub text_unique : (verdict : Verdict (List ℕ)) (buffer : List ℕ) {new new' : List ℕ}
      → TextFront verdict buffer r answer new → TextFront verdict buffer r' answer' new' → SameDone r r' answer answer' new new'
  text_unique verdict buffer = done_unique

-- ---- the returned number is the first of the array

pub returned_first : {k : ℕ} {v : Verdict (List ℕ)} {r : ℕ} {answer : List ℕ} → FrontAnswer k v r answer → r ≡ get_or answer 0 0
returned_first h = h.number ∙ sym (ap (λ (l : List ℕ). get_or l 0 0) h.numbers)

-- ---- the array tells the verdict: no two verdicts have one array

-- the answer whose numbers stand in an array
answer_in : List ℕ → Answer (List ℕ)
answer_in l = record { number = get_or l 0 0; place = get_or l 1 0; second = get_or l 2 0; values = drop 3 l }

answer_in_order : (a : Answer (List ℕ)) → answer_in (in_order a) ≡ a
unfolding answer_in
answer_in_order a = refl

pub array_tells_verdict : (k : ℕ) (v w : Verdict (List ℕ)) → in_order (answer_to k v) ≡ in_order (answer_to k w) → v ≡ w
array_tells_verdict k v w e =
    answer_tells_verdict (zeros k) v w (sym (answer_in_order (answer_to k v)) ∙ ap answer_in e ∙ answer_in_order (answer_to k w))
