-- What the record writers answer and leave in the lent buffer, and the verdict on writing a refusal.
use Rattle.std.specs.Prelude.{ℕ, ◌≡◌, List, [], ◌∷◌, length, Result, Ok, Err}
use Rattle.laws.specs.Lent.{laid}
use Rattle.faults.specs.Refusals.{Verdict, accepted, refused, and_then, records_of, answer_of}
use Rattle.faults.specs.declared.Refusal.{Refusal}
use Rattle.writing.specs.Written.{in_room, refusal_line}

-- ROOM for the line `NO number place second`; nothing else is judged
unfoldable pub write_refusal_verdict : Refusal → (room : ℕ) → Verdict (List ℕ)
write_refusal_verdict r room = in_room room (refusal_line r)

-- the page's verdict that an answer stands for: accepted with the length of the record, or refused
unfoldable pub write_verdict : Result ℕ Refusal → Verdict (List ℕ)
write_verdict (Ok n) = accepted (n ∷ [])
write_verdict (Err r) = refused r

-- where the page's verdict is a text, the answer is its length and the buffer holds the text, then what stood behind it;
-- where it is a refusal, the answer is this refusal and the buffer is as it was
pub record WriteDone (verdict : Verdict (List ℕ)) (old : List ℕ) (r : Result ℕ Refusal) (new : List ℕ) : Type 0 where
  pub answer : answer_of (0 ∷ []) (write_verdict r) ≡ answer_of (0 ∷ []) (and_then verdict (λ text. accepted (length text ∷ [])))
  pub buffer : new ≡ laid (records_of (λ text. text) verdict) old
