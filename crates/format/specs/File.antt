-- The verdict on a whole text file: LONG, then its lines in order, threading the reader's state.
use Rattle.std.specs.Prelude.{ℕ, ◌+◌, true, false, cond, List, [], ◌∷◌, length, ltb, Result, Ok, Err}
use Rattle.limits.specs.Limits.{line_end, file_limit}
use Rattle.laws.specs.Pieces.{Pieces, rest, piece, split}
use Rattle.faults.specs.Refusals.{Verdict, accepted, refused, refuse}
use Rattle.faults.specs.declared.Fault.{Fault}
use Rattle.faults.specs.declared.Fault.TheVariants as fault
use Rattle.format.specs.Line.{line_verdict}
use Rattle.format.specs.declared.ReaderState.{ReaderState}
use Rattle.format.specs.declared.Rooms.{Rooms}

-- before the first line
unfoldable pub start : ReaderState
start = record { vertices = 0; elements = 0; ended = false }

-- the lines of a file, each cut off its byte 10
abbrev pub lines_of : List ℕ → Pieces
lines_of file = split line_end file

-- after the last line: the two counts, or END one past the last line for a missing EN
unfoldable pub at_end : ReaderState → ℕ → Verdict (List ℕ)
at_end state n = cond state.ended (accepted (state.vertices ∷ state.elements ∷ [])) (refused (refuse fault.End n))

-- a line's fault refuses the file with the line's number; else the next line is judged
abbrev pub onward : Result ReaderState Fault → ℕ → (ReaderState → Verdict (List ℕ)) → Verdict (List ℕ)
onward (Ok state) n next = next state
onward (Err f) n next = refused (refuse f n)

-- the lines from the n-th on; what stands after the last byte 10 is a line too, unless it is nothing
unfoldable pub file_from : Rooms → ReaderState → ℕ → Pieces → Verdict (List ℕ)
file_from rooms state n (rest []) = at_end state n
file_from rooms state n (rest (x ∷ l)) = onward (line_verdict rooms state false (x ∷ l)) n (λ s. at_end s (n + 1))
file_from rooms state n (piece l p) = onward (line_verdict rooms state true l) n (λ s. file_from rooms s (n + 1) p)

-- LONG above 65,536 bytes; then lines in order, counted from 1
unfoldable pub file_verdict : Rooms → List ℕ → Verdict (List ℕ)
file_verdict rooms file = cond (ltb file_limit (length file)) (refused (refuse fault.Long 0)) (file_from rooms start 1 (lines_of file))
