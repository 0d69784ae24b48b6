-- The written text: a line for each record, the written file, the verdicts of the record writers, and the line of a refusal.
-- A line stands here without its byte 10 until it is closed.
use Rattle.std.specs.Prelude.{ℕ, zero, suc, ◌+◌, ◌/◌, ◌%◌, cond, not, ◌&&◌, ◌||◌, List, [], ◌∷◌, ◌++◌, map, length, get_or, take, drop, eqb, ltb, ℤ, pos, negsuc, nat_abs, Result, Ok, Err}
use Rattle.limits.specs.Limits.{line_end, space, minus, point, digit0, vertex_limit, tetrahedron_limit, vertex_width, element_width}
use Rattle.laws.specs.Words.{gather}
use Rattle.faults.specs.Refusals.{Verdict, accepted, refused, refuse, refuse_if, number_of}
use Rattle.volume.specs.Volume.{in_range}
use Rattle.records.specs.Record.{kind_of, used_of, record_finding}
use Rattle.faults.specs.declared.Fault.{Fault}
use Rattle.faults.specs.declared.Fault.TheVariants as fault
use Rattle.faults.specs.declared.Refusal.{Refusal}
use Rattle.format.specs.Line.{mark_bytes, after}
use Rattle.format.specs.File.{start}
use Rattle.format.specs.declared.Mark.{Mark}
use Rattle.format.specs.declared.Mark.TheVariants.{Vx, Te, Py, Pr, Hx, En, Unknown}
use Rattle.format.specs.declared.ReaderState.{ReaderState}

-- ---- numbers

-- the digit of a number below 10
abbrev pub digit : ℕ → ℕ
digit k = digit0 + k

-- at most f digits of k, the last ones
unfoldable pub digits_of : ℕ → ℕ → List ℕ
digits_of zero k = []
digits_of (suc f) k = cond (ltb k 10) (digit k ∷ []) (digits_of f (k / 10) ++ (digit (k % 10) ∷ []))

-- a number in decimal, however long, with no 0 in front: it has no more digits than one more than itself
unfoldable pub decimal : ℕ → List ℕ
decimal k = digits_of (suc k) k

-- no minus on zero
unfoldable pub sign_of : ℤ → List ℕ
sign_of (pos n) = []
sign_of (negsuc n) = minus ∷ []

-- thousandths as millimetres, always with three decimals
unfoldable pub millimetres_of : ℕ → List ℕ
millimetres_of m =
    decimal (m / 1000) ++ (point ∷ digit (m / 100 % 10) ∷ digit (m / 10 % 10) ∷ digit (m % 10) ∷ [])

-- a coordinate
unfoldable pub coordinate_text : ℤ → List ℕ
coordinate_text z = sign_of z ++ millimetres_of (nat_abs z)

-- ---- lines

-- a mark, then fields, each preceded by exactly one space
unfoldable pub line_with : List ℕ → List (List ℕ) → List ℕ
line_with mark fields = mark ++ gather (λ f. space ∷ f) fields

-- each line ends in byte 10
abbrev pub closed : List ℕ → List ℕ
closed l = l ++ (line_end ∷ [])

-- VX x y z
unfoldable pub vertex_line : (x y z : ℤ) → List ℕ
vertex_line x y z = line_with (mark_bytes Vx) (coordinate_text x ∷ coordinate_text y ∷ coordinate_text z ∷ [])

-- the mark of a kind: TE, PY, PR, HX, never PZ
unfoldable pub mark_of_kind : ℕ → Mark
mark_of_kind k = cond (eqb k 4) Te (cond (eqb k 5) Py (cond (eqb k 6) Pr (cond (eqb k 8) Hx Unknown)))

-- TE, PY, PR or HX and the vertex numbers
unfoldable pub element_line : List ℕ → List ℕ
element_line r = line_with (mark_bytes (mark_of_kind (kind_of r))) (map decimal (used_of r))

-- EN with the two counts
unfoldable pub end_line : (vertices elements : ℕ) → List ℕ
end_line v e = line_with (mark_bytes En) (decimal v ∷ decimal e ∷ [])

-- ---- the written file: all vertices, all elements, then EN with their counts

-- the lines of a vertex of the table, of an element of the table, in the reader's state before them
unfoldable pub vertex_lines : ReaderState → List ℤ → List (List ℕ)
vertex_lines state r = vertex_line (get_or r 0 (pos 0)) (get_or r 1 (pos 0)) (get_or r 2 (pos 0)) ∷ []

-- the lines of an element record, in the reader's state before them
unfoldable pub element_lines : ReaderState → List ℕ → List (List ℕ)
element_lines state r = element_line r ∷ []

-- the reader's state after lines
unfoldable pub after_lines : ReaderState → List (List ℕ) → ReaderState
after_lines state [] = state
after_lines state (l ∷ ls) = after_lines (after state l) ls

-- the lines of the first n records of a table, each record w numbers wide, in the reader's state before them
unfoldable pub lines_from : {A : Type 0} → (ReaderState → List A → List (List ℕ)) → ℕ → ReaderState → ℕ → List A → List (List ℕ)
lines_from f w state zero t = []
lines_from f w state (suc n) t =
    f state (take w t) ++ lines_from f w (after_lines state (f state (take w t))) n (drop w t)

-- the lines of the written file
unfoldable pub file_lines : List ℤ → List ℕ → (vertices elements : ℕ) → List (List ℕ)
file_lines vt et v e =
    let vs = lines_from vertex_lines vertex_width start v vt in
    vs ++ (lines_from element_lines element_width (after_lines start vs) e et ++ (end_line v e ∷ []))

-- the written file, each line closed
unfoldable pub written_file : List ℤ → List ℕ → (vertices elements : ℕ) → List ℕ
written_file vt et v e = gather closed (file_lines vt et v e)

-- ---- the verdicts of the record writers: a record writer's record is 1, a count and a lent length have place 0

-- ROOM for a text in a buffer; else the text
unfoldable pub in_room : ℕ → List ℕ → Verdict (List ℕ)
in_room room text = refuse_if (ltb room (length text)) (refuse fault.Room 0) (accepted text)

-- RANGE for a vertex; then ROOM
unfoldable pub write_vertex_verdict : (x y z : ℤ) (room : ℕ) → Verdict (List ℕ)
write_vertex_verdict x y z room =
    refuse_if (not (in_range x && (in_range y && in_range z))) (refuse fault.Range 1) (in_room room (closed (vertex_line x y z)))

-- the first fault of a record, or what comes next
abbrev pub unless_found : Result (Unit {0}) Fault → Verdict (List ℕ) → Verdict (List ℕ)
unless_found (Ok u) next = next
unless_found (Err f) next = refused (refuse f 1)

-- KIND, VERTEX (limit 4,096), SPARE, REPEAT for an element; then ROOM
unfoldable pub write_element_verdict : List ℕ → (room : ℕ) → Verdict (List ℕ)
write_element_verdict r room = unless_found (record_finding vertex_limit r) (in_room room (closed (element_line r)))

-- MANY for EN, whose element limit is 6,144; then ROOM
unfoldable pub write_end_verdict : (vertices elements room : ℕ) → Verdict (List ℕ)
write_end_verdict v e room =
    refuse_if (ltb vertex_limit v || ltb tetrahedron_limit e) (refuse fault.Many 0) (in_room room (closed (end_line v e)))

-- ---- a refusal

-- the bytes N and O
abbrev pub no_bytes : List ℕ
no_bytes = 78 ∷ 79 ∷ []

-- one line `NO number place second`
unfoldable pub refusal_line : Refusal → List ℕ
refusal_line r = closed (line_with no_bytes (decimal (number_of r.fault) ∷ decimal r.place ∷ decimal r.second ∷ []))
