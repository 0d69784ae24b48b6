-- The faults that reading gives, and where: a line's fault is none of KIND, SPARE, REPEAT and JOIN, and a line's number is not 0.
-- Assumes nothing.
use Prim.Native.Nat.{ℕ, ◌+◌, ◌*◌, ◌<◌}
use mathlib.Core.Path.{◌≡◌, refl, subst}
use mathlib.Core.Bool.{Bool, true, false, cond, not}
use mathlib.Core.List.{List, [], ◌∷◌}
use native.Mathlib.Omega.{arith}
use borrow.Author.Tests.{ne_eqb}
use lib.Dec.{eqb, leb, ltb}
use lib.IntN.{ℤ}
use lib.ListN.{length, get_or, drop}
use Rattle.std.specs.Prelude.{Option, Some, None, Result, Ok, Err}
use Rattle.laws.specs.Pieces.{Pieces, rest, piece, split}
use Rattle.faults.specs.declared.Fault.{Fault}
use Rattle.faults.specs.declared.Fault.TheVariants as fault
use Rattle.faults.specs.declared.Refusal.{Refusal}
use Rattle.faults.specs.Refusals.{Verdict, accepted, refused, refuse}
use Rattle.limits.specs.Limits as limits
use Rattle.format.specs.Number.{cut, whole, decimals, millimetres, unsigned, coordinate_of}
use Rattle.format.specs.Number as number
use Rattle.format.specs.Line.{mark_of, role_of, wants, fields_of, judge_coordinate, judge_count, judge_vertex, field_verdict, first, fields_verdict, bad_mark, too_many, bad_shape, no_room, bad_counts, given, judged, line_verdict}
use Rattle.format.specs.File.{start, lines_of, at_end, onward, file_from, file_verdict}
use Rattle.format.specs.declared.Role.{Role}
use Rattle.format.specs.declared.Role.TheVariants.{VertexLine, ElementLine, EndLine, UnknownLine}
use Rattle.format.specs.declared.ReaderState.{ReaderState}
use Rattle.format.specs.declared.Rooms.{Rooms}
use Rattle.faults.specs.Spots.{spot_of, refuser_of}
use Rattle.faults.specs.declared.Refuser.TheVariants.{Reading}
use Rattle.faults.specs.declared.Spot.TheVariants as spot

-- a fault that is reading's
abbrev OfReading : Fault → Type 0
OfReading f = refuser_of f ≡ Reading

-- what a field, a line and a file may name
abbrev InField : Result ℤ Fault → Type 0
InField (Ok z) = Unit {0}
InField (Err f) = OfReading f

abbrev InFields : Result (Unit {0}) Fault → Type 0
InFields (Ok tt) = Unit {0}
InFields (Err f) = OfReading f

abbrev InLine : Result ReaderState Fault → Type 0
InLine (Ok state) = Unit {0}
InLine (Err f) = OfReading f

-- a fault of reading, at a line
record AtLine (r : Refusal) : Type 0 where
  fault : OfReading r.fault
  line : 0 < r.place

abbrev InLines : Verdict (List ℕ) → Type 0
InLines (accepted counts) = Unit {0}
InLines (refused r) = AtLine r

-- ---- fields

choice : {A : Type 0} (P : A → Type 0) (b : Bool) (x y : A) → P x → P y → P (cond b x y)
choice P true x y p q = p
choice P false x y p q = q

millimetres_in : (neg : Bool) (w f : Option ℕ) → InField (millimetres neg w f)
unfolding millimetres
millimetres_in neg (Some w) (Some f) =
    choice InField (leb (w * 1000 + f) limits.coordinate_limit) (Ok (number.signed neg (w * 1000 + f))) (Err fault.Range) tt refl
millimetres_in neg (Some w) None = refl
millimetres_in neg None (Some f) = refl
millimetres_in neg None None = refl

unsigned_in : (neg : Bool) (p : Pieces) → InField (unsigned neg p)
unfolding unsigned
unsigned_in neg (rest w) = millimetres_in neg (whole limits.whole_digits w) (Some 0)
unsigned_in neg (piece w (rest f)) = millimetres_in neg (whole limits.whole_digits w) (decimals f)
unsigned_in neg (piece w (piece f p)) = refl

coordinate_in : (l : List ℕ) → InField (coordinate_of l)
unfolding coordinate_of
coordinate_in l =
    choice InField (cut (split limits.comma l)) (Err fault.Comma) _ refl
    (choice InField (eqb (get_or l 0 0) limits.minus) _ _ (unsigned_in true (split limits.point (drop 1 l))) (unsigned_in false (split limits.point l)))

judged-coordinate : (c : Result ℤ Fault) → InField c → InFields (judge_coordinate c)
judged-coordinate (Ok z) h = tt
judged-coordinate (Err f) h = h

judged-count : (s : Option ℕ) → InFields (judge_count s)
judged-count (Some n) = tt
judged-count None = refl

judged-vertex : (count : ℕ) (s : Option ℕ) → InFields (judge_vertex count s)
judged-vertex count (Some n) = choice InFields (eqb n 0) (Err fault.Vertex) _ refl (choice InFields (ltb count n) (Err fault.Vertex) (Ok tt) refl tt)
judged-vertex count None = refl

field_in : (state : ReaderState) (role : Role) (l : List ℕ) → InFields (field_verdict state role l)
unfolding field_verdict
field_in state VertexLine l = judged-coordinate (coordinate_of l) (coordinate_in l)
field_in state ElementLine l = judged-vertex state.vertices (number.number_of l)
field_in state EndLine l = judged-count (number.number_of l)
field_in state UnknownLine l = tt

first_in : (j k : Result (Unit {0}) Fault) → InFields j → InFields k → InFields (first j k)
first_in (Ok tt) k h g = g
first_in (Err f) k h g = h

fields_in : (state : ReaderState) (role : Role) (p : Pieces) → InFields (fields_verdict state role p)
unfolding fields_verdict
fields_in state role (rest l) = field_in state role l
fields_in state role (piece l p) =
    first_in (field_verdict state role l) (fields_verdict state role p) (field_in state role l) (fields_in state role p)

-- ---- a line

given_in : (b : Bool) (f : Fault) (next : Result ReaderState Fault) → OfReading f → InLine next → InLine (given b f next)
given_in b f next h g = choice InLine b (Err f) next h g

judged_in : (j : Result (Unit {0}) Fault) (next : Result ReaderState Fault) → InFields j → InLine next → InLine (judged j next)
judged_in (Ok tt) next h g = g
judged_in (Err f) next h g = h

line_in : (rooms : Rooms) (state : ReaderState) (closed : Bool) (l : List ℕ) → InLine (line_verdict rooms state closed l)
unfolding line_verdict
line_in rooms state closed l =
    given_in state.ended fault.Mark _ refl
    (given_in (not closed) fault.Shape _ refl
    (given_in (bad_mark state (role_of (mark_of l))) fault.Mark _ refl
    (given_in (too_many state (role_of (mark_of l))) fault.Many _ refl
    (given_in (bad_shape (wants (mark_of l)) l) fault.Shape _ refl
    (judged_in (fields_verdict state (role_of (mark_of l)) (fields_of l)) _ (fields_in state (role_of (mark_of l)) (fields_of l))
    (given_in (no_room rooms state (role_of (mark_of l))) fault.Room _ refl
    (given_in (bad_counts state (role_of (mark_of l)) (fields_of l)) fault.End _ refl tt)))))))

-- ---- the lines of a file

end_in : (state : ReaderState) (n : ℕ) → 0 < n → InLines (at_end state n)
unfolding at_end
end_in state n h = choice InLines state.ended _ _ tt (record { fault = refl; line = h })

onward_in : (line : Result ReaderState Fault) (n : ℕ) (next : ReaderState → Verdict (List ℕ)) → 0 < n → InLine line → ((s : ReaderState) → InLines (next s))
    → InLines (onward line n next)
onward_in (Ok state) n next h g k = k state
onward_in (Err f) n next h g k = record { fault = g; line = h }

lines_in : (rooms : Rooms) (state : ReaderState) (n : ℕ) (p : Pieces) → 0 < n → InLines (file_from rooms state n p)
unfolding file_from
lines_in rooms state n (rest []) h = end_in state n h
lines_in rooms state n (rest (x ∷ l)) h =
    onward_in (line_verdict rooms state false (x ∷ l)) n _ h (line_in rooms state false (x ∷ l)) (λ s. end_in s (n + 1) (omega arith))
lines_in rooms state n (piece l p) h =
    onward_in (line_verdict rooms state true l) n _ h (line_in rooms state true l) (λ s. lines_in rooms s (n + 1) p (omega arith))

-- ---- the spot

-- a fault of reading at a line has that line as its spot
line_spot : (r : Refusal) → AtLine r → spot_of (refuser_of r.fault) r ≡ spot.Line r.place
unfolding spot_of
line_spot r h = rw (h.fault, ne_eqb r.place 0 (λ e. omega (arith, h.line)))

-- LONG has the file
long_spot : (r : Refusal) → r ≡ refuse fault.Long 0 → spot_of (refuser_of r.fault) r ≡ spot.Whole
unfolding spot_of
long_spot r e = rw e

-- the file itself where it is too long, else the line that the refusal names
pub read_spot : (rooms : Rooms) (file : List ℕ) (r : Refusal) → file_verdict rooms file ≡ refused r
    → spot_of (refuser_of r.fault) r ≡ cond (ltb limits.file_limit (length file)) spot.Whole (spot.Line r.place)
unfolding file_verdict
read_spot rooms file r = go (ltb limits.file_limit (length file)) (file_from rooms start 1 (lines_of file)) (lines_in rooms start 1 (lines_of file) (omega arith))
  where
    at : (v : Verdict (List ℕ)) → InLines v → v ≡ refused r → spot_of (refuser_of r.fault) r ≡ spot.Line r.place
    at (accepted counts) h e = absurd (let q : ◌≡◌ {A = ℕ} 0 1 = cc in omega arith)
    at (refused s) h e = let q : s ≡ r = cc in line_spot r (subst AtLine q h)

    go : (b : Bool) (v : Verdict (List ℕ)) → InLines v → cond b (refused (refuse fault.Long 0)) v ≡ refused r
        → spot_of (refuser_of r.fault) r ≡ cond b spot.Whole (spot.Line r.place)
    go true v h e = let q : r ≡ refuse fault.Long 0 = cc in long_spot r q
    go false v h e = at v h e
