-- What the program's two calls give it to write: `convert`, and `write_refusal` where that refuses.
use Rattle.std.specs.Prelude.{ℕ, List, [], length, take, Result, Ok, Err}
use Rattle.faults.specs.declared.Refusal.{Refusal}
use Rattle.writing.specs.Writing.{write_refusal_verdict, WriteDone}

-- how long the line of a refusal is at most
abbrev pub longest_line : ℕ
longest_line = 48

-- the second call: where the conversion is refused, its refusal is written into a lent line; else there is none
abbrev pub LineDone : Result ℕ Refusal → (old : List ℕ) → Result ℕ Refusal → (new : List ℕ) → Type 0
LineDone (Ok n) old a new = Unit {0}
LineDone (Err r) old a new = WriteDone (write_refusal_verdict r (length old)) old a new

-- as many bytes of the line as the second call answers
abbrev pub line_bytes : Result ℕ Refusal → List ℕ → List ℕ
line_bytes (Ok m) bytes = take m bytes
line_bytes (Err r) bytes = []

-- what the program has to write: as many bytes of the output as the first call answers, or else those of the line
abbrev pub bytes_from : Result ℕ Refusal → (output : List ℕ) → Result ℕ Refusal → (bytes : List ℕ) → List ℕ
bytes_from (Ok n) output a bytes = take n output
bytes_from (Err r) output a bytes = line_bytes a bytes
