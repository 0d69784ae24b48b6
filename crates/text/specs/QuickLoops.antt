-- What the quick reading of a line says of a text: each contract cuts the text into the bytes that were read and what stands behind them.
use Rattle.std.specs.Prelude.{ℕ, ◌*◌, ◌-◌, ◌^◌, ◌≤◌, ◌<◌, ◌≡◌, Bool, false, cond, List, ◌∷◌, ◌++◌, map, eqb, length, take, replicate, ℤ, Option, Some, Ok, IfSome}
use Rattle.limits.specs.Limits.{line_end, space, minus, point, digit0, whole_digits, corner_width, vertex_width, element_width}
use Rattle.laws.specs.Pieces.{split}
use Rattle.format.specs.Number.{spelt, whole, decimals, millimetres, unsigned, coordinate_of, number_of, value_of}
use Rattle.format.specs.Line.{wants, role_of, after_role}
use Rattle.format.specs.Records.{tip_first}
use Rattle.format.specs.GoodFields.{Above, Good, Each, spaced}
use Rattle.format.specs.declared.Role.{Role}
use Rattle.format.specs.declared.Role.TheVariants.{ElementLine}
use Rattle.format.specs.declared.Mark.{Mark}
use Rattle.format.specs.declared.ReaderState.{ReaderState}
use Rattle.format.specs.declared.Rooms.{Rooms}
use Rattle.text.specs.ReadingLoops.{Own, LineTaken}
use Rattle.text.specs.declared.quick.Run.{Run}

-- ---- numbers

-- the first k bytes of a text are digits, at most so many, and spell n
pub record DigitsAt (t : List ℕ) (most n k : ℕ) : Type 0 where
  pub few : k ≤ most
  pub inside : k ≤ length t
  pub spells : spelt 0 (take k t) ≡ Some n
  pub small : n < 10 ^ k

-- 0, or digits not starting with 0
pub record WholeAt (t : List ℕ) (most n : ℕ) (rest : List ℕ) : Type 0 where
  pub digits : List ℕ
  pub here : t ≡ digits ++ rest
  pub some : 0 < length digits
  pub is : whole most digits ≡ Some n
  pub small : n < 10 ^ most
  pub plain : Above digit0 digits

-- decimals, in thousandths
pub record DecimalsAt (t : List ℕ) (n : ℕ) (rest : List ℕ) : Type 0 where
  pub digits : List ℕ
  pub here : t ≡ digits ++ rest
  pub is : decimals digits ≡ Some n
  pub small : n < 100000
  pub plain : Above digit0 digits

-- what stands behind the whole millimetres of a coordinate: n thousandths
pub record PartAt (t : List ℕ) (n : ℕ) (rest : List ℕ) : Type 0 where
  pub field : List ℕ
  pub here : t ≡ field ++ rest
  pub is : (neg : Bool) (w : List ℕ) → Above digit0 w → unsigned neg (split point (w ++ field)) ≡ millimetres neg (whole whole_digits w) (Some n)
  pub small : n < 100000
  pub plain : Above point field

-- a coordinate without its sign
pub record UnsignedAt (neg : Bool) (t : List ℕ) (z : ℤ) (rest : List ℕ) : Type 0 where
  pub field : List ℕ
  pub here : t ≡ field ++ rest
  pub some : 0 < length field
  pub is : unsigned neg (split point field) ≡ Ok z
  pub plain : Above point field

-- a coordinate
pub record CoordinateAt (t : List ℕ) (z : ℤ) (rest : List ℕ) : Type 0 where
  pub field : List ℕ
  pub here : t ≡ field ++ rest
  pub some : 0 < length field
  pub is : coordinate_of field ≡ Ok z
  pub plain : Above minus field

-- a vertex number
pub record NumberAt (t : List ℕ) (count n : ℕ) (rest : List ℕ) : Type 0 where
  pub field : List ℕ
  pub here : t ≡ field ++ rest
  pub some : 0 < length field
  pub is : number_of field ≡ Some n
  pub low : 0 < n
  pub high : n ≤ count
  pub plain : Above digit0 field

-- ---- fields

-- the byte that ends field k of n
abbrev pub end_of : ℕ → ℕ → ℕ
end_of k n = cond (eqb k n) line_end space

-- a good field of a line of that role, and what it says
pub record FieldAt {A : Type 0} (value : List ℕ → A) (state : ReaderState) (role : Role) (t : List ℕ) (v : A) (rest : List ℕ) : Type 0 where
  pub field : List ℕ
  pub here : t ≡ field ++ rest
  pub good : Good state role field
  pub says : v ≡ value field

-- what is read at the front of a text is such a field and what it says
abbrev pub Reads : {A : Type 0} → (List ℕ → Option (Run A) → Type 0) → (List ℕ → A) → ReaderState → Role → Type 0
Reads {A} gives value state role = (t : List ℕ) (r : Option (Run A)) → gives t r → IfSome r (λ q. FieldAt value state role t q.value q.rest.now)

-- good fields up to the end of the line: what each says
pub record FieldsAt {A : Type 0} (value : List ℕ → A) (state : ReaderState) (role : Role) (t : List ℕ) (values : List A) (rest : List ℕ) : Type 0 where
  pub fields : List (List ℕ)
  pub some : 0 < length fields
  pub here : space ∷ t ≡ spaced fields ++ (line_end ∷ rest)
  pub each : Each (Good state role) fields
  pub says : values ≡ map value fields

-- the record of an element line but PZ: its kind, its corners, then zeros
pub record ElementRead (mark : Mark) (state : ReaderState) (t element rest : List ℕ) : Type 0 where
  pub plain : tip_first mark ≡ false
  pub corners : List ℕ
  pub count : length corners ≡ wants mark
  pub read : FieldsAt value_of state ElementLine t corners rest
  pub says : element ≡ wants mark ∷ (corners ++ replicate (corner_width - wants mark) 0)

-- ---- a line

-- the line at the front of t is taken and kept, or declined; the records before it are left alone
pub record LineQuick (t : List ℕ) (mark : Mark) (rooms : Rooms) (state : ReaderState) (vertices : List ℤ) (elements : List ℕ) (taken : Option ℕ) (vertices' : List ℤ) (elements' : List ℕ) : Type 0 where
  pub own : Own vertices' elements'
  pub vertex_front : take (vertex_width * state.vertices) vertices' ≡ take (vertex_width * state.vertices) vertices
  pub element_front : take (element_width * state.elements) elements' ≡ take (element_width * state.elements) elements
  pub done : IfSome taken (λ n. LineTaken t rooms state vertices elements (after_role state (role_of mark)) n vertices' elements')
