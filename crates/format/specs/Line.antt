-- A line of the text file, without its byte 10: its mark, its fields, and the verdict on it in the page's order of tests.
--   state   what the lines before it told: how many vertices and elements, and whether EN was among them
--   rooms   how many numbers the two lent tables hold
--   role    what a line is by its mark: a vertex, an element, the end, or nothing known
use Rattle.std.specs.Prelude.{ℕ, zero, suc, ◌+◌, ◌*◌, Bool, true, false, cond, not, ◌&&◌, List, [], ◌∷◌, get_or, drop, eqb, leb, ltb, Option, Some, None, Result, Ok, Err, ℤ}
use Rattle.limits.specs.Limits.{space, mark_width, fields_at, vertex_limit, element_limit, vertex_width, element_width, corner_width}
use Rattle.laws.specs.Pieces.{Pieces, rest, piece, split}
use Rattle.faults.specs.declared.Fault.{Fault}
use Rattle.faults.specs.declared.Fault.TheVariants as fault
use Rattle.format.specs.Number.{coordinate_of, number_of, value_of}
use Rattle.format.specs.declared.Mark.{Mark}
use Rattle.format.specs.declared.Mark.TheVariants.{Vx, Te, Py, Pz, Pr, Hx, En, Unknown}
use Rattle.format.specs.declared.Role.{Role}
use Rattle.format.specs.declared.Role.TheVariants.{VertexLine, ElementLine, EndLine, UnknownLine}
use Rattle.format.specs.declared.ReaderState.{ReaderState}
use Rattle.format.specs.declared.Rooms.{Rooms}

-- ---- the mark

-- the two bytes of a mark: E 69, H 72, N 78, P 80, R 82, T 84, V 86, X 88, Y 89, Z 90
abbrev pub mark_bytes : Mark → List ℕ
mark_bytes Vx = 86 ∷ 88 ∷ []
mark_bytes Te = 84 ∷ 69 ∷ []
mark_bytes Py = 80 ∷ 89 ∷ []
mark_bytes Pz = 80 ∷ 90 ∷ []
mark_bytes Pr = 80 ∷ 82 ∷ []
mark_bytes Hx = 72 ∷ 88 ∷ []
mark_bytes En = 69 ∷ 78 ∷ []
mark_bytes Unknown = []

-- a and b are the two bytes of the mark
abbrev pub spells : Mark → ℕ → ℕ → Bool
spells m a b = eqb a (get_or (mark_bytes m) 0 0) && eqb b (get_or (mark_bytes m) 1 0)

-- the mark with the bytes a and b
unfoldable pub mark_with : ℕ → ℕ → Mark
mark_with a b =
    cond (spells Vx a b) Vx
    (cond (spells Te a b) Te
    (cond (spells Py a b) Py
    (cond (spells Pz a b) Pz
    (cond (spells Pr a b) Pr
    (cond (spells Hx a b) Hx
    (cond (spells En a b) En
    Unknown))))))

-- a line starts with a two-byte mark
unfoldable pub mark_of : List ℕ → Mark
mark_of l = mark_with (get_or l 0 0) (get_or l 1 0)

-- how many fields a mark has: VX x y z; TE PY PR HX 4, 5, 6, 8 vertex numbers; PZ tip, then base 1 2 3 4; EN two counts
abbrev pub wants : Mark → ℕ
wants Vx = 3
wants Te = 4
wants Py = 5
wants Pz = 5
wants Pr = 6
wants Hx = 8
wants En = 2
wants Unknown = 0

-- VX is a vertex, TE PY PZ PR HX an element, EN the last line
abbrev pub role_of : Mark → Role
role_of Vx = VertexLine
role_of Te = ElementLine
role_of Py = ElementLine
role_of Pz = ElementLine
role_of Pr = ElementLine
role_of Hx = ElementLine
role_of En = EndLine
role_of Unknown = UnknownLine

-- ---- the fields

-- what stands after the mark and its space, cut at each space
unfoldable pub fields_of : List ℕ → Pieces
fields_of l = split space (drop fields_at l)

-- one or more bytes
abbrev pub some : List ℕ → Bool
some [] = false
some (x ∷ l) = true

-- the pieces are n fields: a field is one or more bytes, none a space
unfoldable pub are_fields : ℕ → Pieces → Bool
are_fields zero (rest l) = false
are_fields zero (piece l p) = false
are_fields (suc n) (rest l) = some l && eqb n 0
are_fields (suc n) (piece l p) = some l && are_fields n p

-- the first n fields, each by what it says; where there is none, what no bytes say
unfoldable pub first_of : {A : Type 0} → (List ℕ → A) → ℕ → Pieces → List A
first_of f zero p = []
first_of f (suc n) (rest l) = f l ∷ first_of f n (rest [])
first_of f (suc n) (piece l p) = f l ∷ first_of f n p

-- the numbers of the first eight fields, 0 where there is none
abbrev pub numbers_of : Pieces → List ℕ
numbers_of p = first_of value_of corner_width p

-- ---- a field: COMMA, NUMBER, then RANGE or VERTEX

-- a coordinate
abbrev pub judge_coordinate : Result ℤ Fault → Result (Unit {0}) Fault
judge_coordinate (Ok z) = Ok tt
judge_coordinate (Err f) = Err f

-- a count
abbrev pub judge_count : Option ℕ → Result (Unit {0}) Fault
judge_count (Some n) = Ok tt
judge_count None = Err fault.Number

-- a vertex number: not 0, and not above the vertex count
abbrev pub judge_vertex : ℕ → Option ℕ → Result (Unit {0}) Fault
judge_vertex count (Some n) = cond (eqb n 0) (Err fault.Vertex) (cond (ltb count n) (Err fault.Vertex) (Ok tt))
judge_vertex count None = Err fault.Number

-- a field of a line, by the line's role
unfoldable pub field_verdict : ReaderState → Role → List ℕ → Result (Unit {0}) Fault
field_verdict state VertexLine l = judge_coordinate (coordinate_of l)
field_verdict state ElementLine l = judge_vertex state.vertices (number_of l)
field_verdict state EndLine l = judge_count (number_of l)
field_verdict state UnknownLine l = Ok tt

-- the first fault of two
abbrev pub first : Result (Unit {0}) Fault → Result (Unit {0}) Fault → Result (Unit {0}) Fault
first (Ok tt) j = j
first (Err f) j = Err f

-- fields left to right
unfoldable pub fields_verdict : ReaderState → Role → Pieces → Result (Unit {0}) Fault
fields_verdict state role (rest l) = field_verdict state role l
fields_verdict state role (piece l p) = first (field_verdict state role l) (fields_verdict state role p)

-- ---- the tests of a line, each true where the line is refused

-- MARK: unknown or short mark, VX after an element
unfoldable pub bad_mark : ReaderState → Role → Bool
bad_mark state VertexLine = ltb 0 state.elements
bad_mark state ElementLine = false
bad_mark state EndLine = false
bad_mark state UnknownLine = true

-- MANY: a VX or element line beyond its limit
unfoldable pub too_many : ReaderState → Role → Bool
too_many state VertexLine = leb vertex_limit state.vertices
too_many state ElementLine = leb element_limit state.elements
too_many state EndLine = false
too_many state UnknownLine = false

-- SHAPE: wrong number of fields, wrong spacing (also right after the mark)
unfoldable pub bad_shape : ℕ → List ℕ → Bool
bad_shape n l = not (eqb (get_or l mark_width 0) space && are_fields n (fields_of l))

-- ROOM: a lent table too short for the record
unfoldable pub no_room : Rooms → ReaderState → Role → Bool
no_room rooms state VertexLine = ltb rooms.vertices (vertex_width * (state.vertices + 1))
no_room rooms state ElementLine = ltb rooms.elements (element_width * (state.elements + 1))
no_room rooms state EndLine = false
no_room rooms state UnknownLine = false

-- END: EN counts differ from the file's
unfoldable pub bad_counts : ReaderState → Role → Pieces → Bool
bad_counts state VertexLine p = false
bad_counts state ElementLine p = false
bad_counts state EndLine p =
    not (eqb (get_or (numbers_of p) 0 0) state.vertices && eqb (get_or (numbers_of p) 1 0) state.elements)
bad_counts state UnknownLine p = false

-- ---- the verdict on a line

-- the state after a line: one vertex more, one element more, or ended
unfoldable pub after_role : ReaderState → Role → ReaderState
after_role state VertexLine = record { vertices = state.vertices + 1; elements = state.elements; ended = state.ended }
after_role state ElementLine = record { vertices = state.vertices; elements = state.elements + 1; ended = state.ended }
after_role state EndLine = record { vertices = state.vertices; elements = state.elements; ended = true }
after_role state UnknownLine = state

-- the state after a line, which its mark decides
unfoldable pub after : ReaderState → List ℕ → ReaderState
after state l = after_role state (role_of (mark_of l))

-- refused where the test holds; else what comes next
abbrev pub given : Bool → Fault → Result ReaderState Fault → Result ReaderState Fault
given test f next = cond test (Err f) next

-- refused where the fields are; else what comes next
abbrev pub judged : Result (Unit {0}) Fault → Result ReaderState Fault → Result ReaderState Fault
judged (Ok tt) next = next
judged (Err f) next = Err f

-- in a line: anything after EN; missing byte 10 (closed: it stands at the line's end); mark; MANY; field count and spacing;
-- fields left to right; ROOM; the EN counts last, by END alone
unfoldable pub line_verdict : Rooms → ReaderState → Bool → List ℕ → Result ReaderState Fault
line_verdict rooms state closed l =
    given state.ended fault.Mark
    (given (not closed) fault.Shape
    (given (bad_mark state (role_of (mark_of l))) fault.Mark
    (given (too_many state (role_of (mark_of l))) fault.Many
    (given (bad_shape (wants (mark_of l)) l) fault.Shape
    (judged (fields_verdict state (role_of (mark_of l)) (fields_of l))
    (given (no_room rooms state (role_of (mark_of l))) fault.Room
    (given (bad_counts state (role_of (mark_of l)) (fields_of l)) fault.End
    (Ok (after state l)))))))))
