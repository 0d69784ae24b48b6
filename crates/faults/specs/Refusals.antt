-- Refusal numbers: the page's table, and what an answer says in numbers.
--   verdict   what an entry says of its input: accepted, with its own values, or refused, with fault, place and second number
--   answer    the same in the page's numbers: number, place, second number, then the entry's own values
use Rattle.std.specs.Prelude.{Bool, cond, List, [], ℕ, Result, Ok, Err}
use Rattle.faults.specs.declared.Fault.{Fault}
use Rattle.faults.specs.declared.Fault.TheVariants.{Long, Mark, Shape, Comma, Number, Range, Many, Vertex, Room, End, Kind, Spare, Repeat, Join}
use Rattle.faults.specs.declared.Refusal.{Refusal}

-- 0 DONE: accepted
abbrev pub done : ℕ
done = 0

-- 1 LONG: file above 65,536 bytes
-- 2 MARK: unknown or short mark, VX after an element, any line after EN
-- 3 SHAPE: wrong number of fields, wrong spacing, or no byte 10 at the end
-- 4 COMMA: a coordinate field holds a comma
-- 5 NUMBER: a field is not of the stated form
-- 6 RANGE: a coordinate beyond the limits
-- 7 MANY: a count above its limit
-- 8 VERTEX: a vertex number 0 or above the vertex count
-- 9 ROOM: a lent table or buffer too short
-- 10 END: no EN line, or EN counts differ from the file's
-- 11 KIND: a kind other than 4, 5, 6, 8
-- 12 SPARE: an unused vertex number of an element not zero
-- 13 REPEAT: a vertex twice in one element
-- 14 JOIN: two elements do not fit
abbrev pub number_of : Fault → ℕ
number_of Long = 1
number_of Mark = 2
number_of Shape = 3
number_of Comma = 4
number_of Number = 5
number_of Range = 6
number_of Many = 7
number_of Vertex = 8
number_of Room = 9
number_of End = 10
number_of Kind = 11
number_of Spare = 12
number_of Repeat = 13
number_of Join = 14

-- accepted with the entry's own values, or refused
pub data Verdict (A : Type 0) : Type 0 where
  accepted : A → Verdict A
  refused : Refusal → Verdict A

-- a fault with the place that it names; the second number is 0
abbrev pub refuse : Fault → ℕ → Refusal
refuse f n = record { fault = f; place = n; second = 0 }

-- JOIN carries j, then i
abbrev pub refuse_pair : ℕ → ℕ → Refusal
refuse_pair j i = record { fault = Join; place = j; second = i }

module _ {A : Type 0} where
  -- refused where the test holds, else what comes next
  abbrev pub refuse_if : Bool → Refusal → Verdict A → Verdict A
  refuse_if b r next = cond b (refused r) next

-- what judging a part comes to, where its verdict is this one
abbrev pub ruled : {A : Type 0} → Verdict A → Result (Unit {0}) Refusal
ruled (accepted v) = Ok tt
ruled (refused r) = Err r

module _ {A B : Type 0} where
  -- what comes after an acceptance; a refusal stays as it is
  abbrev pub and_then : Verdict A → (A → Verdict B) → Verdict B
  and_then (accepted v) next = next v
  and_then (refused r) next = refused r

  -- a refused call stores nothing; an accepted one stores only its records
  abbrev pub records_of : (A → List B) → Verdict A → List B
  records_of f (accepted v) = f v
  records_of f (refused r) = []

-- an answer in the page's numbers
pub record Answer (A : Type 0) : Type 0 where
  pub number : ℕ
  pub place : ℕ
  pub second : ℕ
  pub values : A

-- every other number in a refused answer is 0: `zeros` are the values of a refused answer
unfoldable pub answer_of : {A : Type 0} → A → Verdict A → Answer A
answer_of zeros (accepted v) = record { number = done; place = 0; second = 0; values = v }
answer_of zeros (refused r) = record { number = number_of r.fault; place = r.place; second = r.second; values = zeros }
