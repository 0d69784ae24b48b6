-- What the place of a refusal means: it depends on the fault and on who refused, for VERTEX, MANY and ROOM are refused both in a file and in tables.
use Rattle.std.specs.Prelude.{cond, eqb}
use Rattle.faults.specs.declared.Fault.{Fault}
use Rattle.faults.specs.declared.Fault.TheVariants.{Long, Mark, Shape, Comma, Number, Range, Many, Vertex, Room, End, Kind, Spare, Repeat, Join}
use Rattle.faults.specs.declared.Refusal.{Refusal}
use Rattle.faults.specs.declared.Refuser.{Refuser}
use Rattle.faults.specs.declared.Refuser.TheVariants.{Reading, Judging}
use Rattle.faults.specs.declared.Spot.{Spot}
use Rattle.faults.specs.declared.Spot.TheVariants as spot

-- what a fault of tables names: an element, a vertex, or a pair of elements
pub data Subject : Type 0 where
  an_element : Subject
  a_vertex : Subject
  a_pair : Subject

-- a fault of tables names an element; RANGE names a vertex, JOIN a pair of elements
abbrev pub subject_of : Fault → Subject
subject_of Long = an_element
subject_of Mark = an_element
subject_of Shape = an_element
subject_of Comma = an_element
subject_of Number = an_element
subject_of Range = a_vertex
subject_of Many = an_element
subject_of Vertex = an_element
subject_of Room = an_element
subject_of End = an_element
subject_of Kind = an_element
subject_of Spare = an_element
subject_of Repeat = an_element
subject_of Join = a_pair

-- in tables the place is an index from 1; of a pair it is that of the later element, and the second number that of the earlier
abbrev pub table_spot : Subject → Refusal → Spot
table_spot an_element r = spot.Element r.place
table_spot a_vertex r = spot.Vertex r.place
table_spot a_pair r = spot.Elements r.place r.second

-- in a file the place is a line's number, from 1
abbrev pub spot_in : Refuser → Refusal → Spot
spot_in Reading r = spot.Line r.place
spot_in Judging r = table_spot (subject_of r.fault) r

-- place 0 is the file or a table as a whole
unfoldable pub spot_of : Refuser → Refusal → Spot
spot_of who r = cond (eqb r.place 0) spot.Whole (spot_in who r)

-- where a file is read and what was read is then judged: reading leaves KIND, SPARE, REPEAT and JOIN to judging, and nothing else
abbrev pub refuser_of : Fault → Refuser
refuser_of Long = Reading
refuser_of Mark = Reading
refuser_of Shape = Reading
refuser_of Comma = Reading
refuser_of Number = Reading
refuser_of Range = Reading
refuser_of Many = Reading
refuser_of Vertex = Reading
refuser_of Room = Reading
refuser_of End = Reading
refuser_of Kind = Judging
refuser_of Spare = Judging
refuser_of Repeat = Judging
refuser_of Join = Judging
