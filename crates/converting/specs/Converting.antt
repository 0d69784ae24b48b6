-- What `convert` answers and leaves in the lent output, and how long the output is at most.
use Rattle.std.specs.Prelude.{ℕ, ◌+◌, ◌*◌, ◌≡◌, List, [], ◌∷◌, length, Result, Ok, Err}
use Rattle.limits.specs.Limits.{vertex_limit, tetrahedron_limit}
use Rattle.laws.specs.Lent.{laid}
use Rattle.faults.specs.Refusals.{Verdict, accepted, refused, and_then, records_of, answer_of}
use Rattle.faults.specs.declared.Refusal.{Refusal}
use Rattle.writing.specs.Written.{in_room}
use Rattle.converting.specs.Conversion.{conversion}

-- the longest lines: `VX -500.000 -500.000 -500.000`, `TE 4093 4094 4095 4096`, `EN 4096 6144`, each with its byte 10
abbrev pub longest_vertex : ℕ
longest_vertex = 30

abbrev pub longest_tetrahedron : ℕ
longest_tetrahedron = 23

abbrev pub longest_end : ℕ
longest_end = 13

-- no conversion gives a longer text: at most 4,096 vertices, 6,144 tetrahedra, then EN
abbrev pub longest_output : ℕ
longest_output = longest_vertex * vertex_limit + longest_tetrahedron * tetrahedron_limit + longest_end

-- the conversion, then ROOM at place 0 where the text is longer than the output
unfoldable pub conversion_into : (room : ℕ) → List ℕ → Verdict (List ℕ)
conversion_into room input = and_then (conversion input) (in_room room)

-- the page's verdict that an answer stands for: accepted with the length of the text, or refused
unfoldable pub convert_verdict : Result ℕ Refusal → Verdict (List ℕ)
convert_verdict (Ok n) = accepted (n ∷ [])
convert_verdict (Err r) = refused r

-- where the verdict is a text, the answer is its length and the output holds the text, then what stood behind it;
-- where it is a refusal, the answer is this refusal and the output is as it was
pub record Left (verdict : Verdict (List ℕ)) (old : List ℕ) (r : Result ℕ Refusal) (new : List ℕ) : Type 0 where
  pub answer : answer_of (0 ∷ []) (convert_verdict r) ≡ answer_of (0 ∷ []) (and_then verdict (λ text. accepted (length text ∷ [])))
  pub output : new ≡ laid (records_of (λ text. text) verdict) old

-- converting: the answer, and the output afterwards, for every input and every output
pub record ConvertDone (input old : List ℕ) (r : Result ℕ Refusal) (new : List ℕ) : Type 0 where
  pub left : Left (conversion_into (length old) input) old r new
