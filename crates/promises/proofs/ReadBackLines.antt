-- A written line is read: the line of a vertex, of an element, and EN is accepted in every state that allows it, and adds its record and no other.
-- Assumes nothing.
use Prim.Native.Nat.{ℕ, zero, suc, ◌+◌, ◌-◌, ◌*◌, ◌^◌, ◌≤◌, ◌<◌}
use native.Mathlib.Omega.{arith}
use mathlib.Core.Path.{◌≡◌, refl, sym, ap, ◌∙◌, subst}
use mathlib.Core.Bool.{true, false}
use mathlib.Core.List.{List, [], ◌∷◌, ◌++◌, map}
use lib.Dec.{T, eqb, ltb, leb, eqb→eq, ltb→lt, leb→le}
use lib.IntN.{ℤ}
use lib.ListN.{length, get_or, replicate, length-append, length-map}
use borrow.Author.Tests.{le-ltb, lt-leb, eq-eqb, ne_eqb}
use Rattle.std.specs.Prelude.{Ok}
use Rattle.limits.specs.Limits.{line_end, minus, vertex_limit, element_limit, vertex_width, element_width, corner_width, number_digits, mark_width}
use Rattle.laws.specs.Words.{every}
use Rattle.laws.proofs.PieceLaws.{Free}
use Rattle.laws.proofs.TestLaws.{and_left, and_right}
use Rattle.std.specs.Prelude.{Ok}
use Rattle.volume.specs.Volume.{in_range}
use Rattle.records.specs.Record.{kind_of, used_of, spare_of, is_kind, record_finding}
use Rattle.records.specs.WholeRecords.{is_number}
use Rattle.records.proofs.RecordLaws.{IsOne, is_4, is_5, is_6, is_8, which_kind, used_length, record_parts, clean_faultless, clean-whole}
use Rattle.format.specs.Number.{value_of}
use Rattle.format.specs.Line.{mark_bytes, mark_with, mark_of, wants, role_of, first_of, field_verdict, bad_mark, too_many, no_room, bad_counts, after_role, after}
use Rattle.format.specs.Records.{tip_first, vertex_records, element_records}
use Rattle.format.specs.declared.Mark.{Mark}
use Rattle.format.specs.declared.Mark.TheVariants.{Vx, Te, Py, Pz, Pr, Hx, En, Unknown}
use Rattle.format.specs.declared.Role.{Role}
use Rattle.format.specs.declared.Role.TheVariants.{VertexLine, ElementLine, EndLine}
use Rattle.format.specs.declared.ReaderState.{ReaderState}
use Rattle.format.specs.declared.Rooms.{Rooms}
use Rattle.format.specs.GoodFields.{Good, Each, spaced}
use Rattle.format.proofs.NumberLaws.{free_above}
use Rattle.format.proofs.GoodLineLaws.{line_of, GoodLine, its_role, its_verdict, its_next, its_free, vertex_added, no_element_added, element_added, no_vertex_added}
use Rattle.writing.specs.Written.{decimal, coordinate_text, line_with, vertex_line, mark_of_kind, element_line, end_line}
use Rattle.promises.specs.ReadBack.{reading, ended, LineBack}
use Rattle.promises.proofs.ReadBackNumbers.{decimal_free, decimal-some, number-back, value_back, coordinate-back, thousandths_back, coordinate_free, coordinate-some}

-- ---- a line that is read

-- it reads back, holds no byte 10, and the state after it is the next
pub record LineRead (rooms : Rooms) (state : ReaderState) (l : List ℕ) (vs : List ℤ) (es : List ℕ) (next : ReaderState) : Type 0 where
  pub back : LineBack rooms state l vs es next
  pub unbroken : Free line_end l
  pub same : after state l ≡ next

-- the two bytes of a mark
abbrev first : Mark → ℕ
first m = get_or (mark_bytes m) 0 0

abbrev second : Mark → ℕ
second m = get_or (mark_bytes m) 1 0

mark_back : (m : Mark) → length (mark_bytes m) ≡ mark_width → m ≡ mark_with (first m) (second m)
unfolding mark_with
mark_back Vx h = refl
mark_back Te h = refl
mark_back Py h = refl
mark_back Pz h = refl
mark_back Pr h = refl
mark_back Hx h = refl
mark_back En h = refl
mark_back Unknown h = absurd (omega arith)

two_bytes : (a l : List ℕ) → length a ≡ mark_width → get_or a 0 0 ∷ get_or a 1 0 ∷ l ≡ a ++ l
two_bytes [] l h = absurd (omega arith)
two_bytes (x ∷ []) l h = absurd (omega arith)
two_bytes (x ∷ y ∷ []) l h = refl
two_bytes (x ∷ y ∷ z ∷ a) l h = absurd (omega arith)

-- a mark and good fields are written as a line, and the line is read
module _ {rooms : Rooms} {state : ReaderState} {m : Mark} {role : Role} {fs : List (List ℕ)} (known : length (mark_bytes m) ≡ mark_width)
    (g : GoodLine rooms state m role (first m) (second m) fs)
  where
    line_read : {vs : List ℤ} {es : List ℕ}
        → vertex_records state (role_of (mark_of (line_of (first m) (second m) fs))) (line_of (first m) (second m) fs) ≡ vs
        → element_records state (role_of (mark_of (line_of (first m) (second m) fs))) (line_of (first m) (second m) fs) ≡ es
        → LineRead rooms state (line_with (mark_bytes m) fs) vs es (after_role state role)
    unfolding line_with
    line_read {vs} {es} v e =
        subst (λ (l : List ℕ). LineRead rooms state l vs es (after_role state role)) (two_bytes (mark_bytes m) (spaced fs) known)
        (record { back = record { verdict = its_verdict g; vertices = v; elements = e }; unbroken = its_free g; same = its_next g })

-- ---- a vertex

coordinate-field : (state : ReaderState) (z : ℤ) → in_range z ≡ true → Good state VertexLine (coordinate_text z)
unfolding field_verdict
coordinate-field state z h = record {
  some = coordinate-some z;
  plain = free_above minus (coordinate_text z) (λ b k. coordinate_free b z k);
  passes = rw (coordinate-back z h);
}

module _ (rooms : Rooms) (v : ℕ) (x y z : ℤ) (hx : in_range x ≡ true) (hy : in_range y ≡ true) (hz : in_range z ≡ true) where
  vertex_good : v < vertex_limit → vertex_width * (v + 1) ≤ rooms.vertices
      → GoodLine rooms (reading v 0) Vx VertexLine (first Vx) (second Vx) (coordinate_text x ∷ coordinate_text y ∷ coordinate_text z ∷ [])
  unfolding bad_mark too_many no_room bad_counts
  vertex_good few room = record {
    marked = mark_back Vx refl;
    said = refl;
    going = refl;
    known = refl;
    few = lt-leb vertex_limit v few;
    some = omega arith;
    count = refl;
    each = (coordinate-field _ x hx, (coordinate-field _ y hy, (coordinate-field _ z hz, tt)));
    room = le-ltb rooms.vertices (vertex_width * (v + 1)) room;
    counts = refl;
  }

  -- VX x y z adds the vertex x y z
  pub vertex_read : v < vertex_limit → vertex_width * (v + 1) ≤ rooms.vertices
      → LineRead rooms (reading v 0) (vertex_line x y z) (x ∷ y ∷ z ∷ []) [] (reading (v + 1) 0)
  unfolding vertex_line after_role
  vertex_read few room =
      let g = vertex_good few room in
      line_read refl g (vertex_added g ∙ rw (thousandths_back x hx, thousandths_back y hy, thousandths_back z hz)) (no_element_added g)

-- ---- an element

decimal-field : (state : ReaderState) (role : Role) (k : ℕ) → field_verdict state role (decimal k) ≡ Ok tt → Good state role (decimal k)
decimal-field state role k h = record { some = decimal-some k; plain = free_above minus (decimal k) (λ b q. decimal_free b (omega arith) k); passes = h }

-- a vertex number between 1 and v
module _ (v : ℕ) (few : v ≤ vertex_limit) (k : ℕ) (h : T (is_number v k)) where
  low : 0 < k
  low = ltb→lt 0 k (and_left (ltb 0 k) (leb k v) h)

  high : k ≤ v
  high = leb→le k v (and_right (ltb 0 k) (leb k v) h)

  short : k < 10 ^ number_digits
  short = omega (arith, high)

  number-field : (e : ℕ) → Good (reading v e) ElementLine (decimal k)
  unfolding field_verdict
  number-field e = decimal-field _ _ k (rw (number-back k short, ne_eqb k 0 (λ z. omega (arith, low)), le-ltb v k high))

  number_value : value_of (decimal k) ≡ k
  number_value = value_back k short

module _ (v : ℕ) (few : v ≤ vertex_limit) where
  number-fields : (e : ℕ) (l : List ℕ) → T (every (is_number v) l) → Each (Good (reading v e) ElementLine) (map decimal l)
  number-fields e [] h = tt
  number-fields e (k ∷ l) h =
      (number-field v few k (and_left (is_number v k) (every (is_number v) l) h) e, number-fields e l (and_right (is_number v k) (every (is_number v) l) h))

  number-values : (l : List ℕ) → T (every (is_number v) l) → map value_of (map decimal l) ≡ l
  number-values [] h = refl
  number-values (k ∷ l) h =
      rw (number_value v few k (and_left (is_number v k) (every (is_number v) l) h), number-values l (and_right (is_number v k) (every (is_number v) l) h))

-- the numbers that are not used are zeros
zeros_are : (n : ℕ) (zs : List ℕ) → length zs ≡ n → T (every (eqb 0) zs) → replicate n 0 ≡ zs
zeros_are zero [] h z = refl
zeros_are zero (x ∷ zs) h z = absurd (omega arith)
zeros_are (suc n) [] h z = absurd (omega arith)
zeros_are (suc n) (x ∷ zs) h z =
    let e : 0 ≡ x = eqb→eq 0 x (and_left (eqb 0 x) (every (eqb 0) zs) z) in
    rw (zeros_are n zs (omega arith) (and_right (eqb 0 x) (every (eqb 0) zs) z), e)

-- the mark of a kind: it is an element's, has as many fields as the kind says, and does not have the tip first
record MarkOf (k : ℕ) (m : Mark) : Type 0 where
  known : length (mark_bytes m) ≡ mark_width
  role : role_of m ≡ ElementLine
  counted : wants m ≡ k
  plain : tip_first m ≡ false

kind_mark : (k : ℕ) → T (is_kind k) → MarkOf k (mark_of_kind k)
unfolding mark_of_kind
kind_mark k h = go (which_kind k h)
  where
    go : IsOne k → MarkOf k (mark_of_kind k)
    go (is_4 e) = rw e (record { known = refl; role = refl; counted = refl; plain = refl })
    go (is_5 e) = rw e (record { known = refl; role = refl; counted = refl; plain = refl })
    go (is_6 e) = rw e (record { known = refl; role = refl; counted = refl; plain = refl })
    go (is_8 e) = rw e (record { known = refl; role = refl; counted = refl; plain = refl })

some-corners : (kind : ℕ) → T (is_kind kind) → 0 < kind
some-corners kind h = go (which_kind kind h)
  where
    go : IsOne kind → 0 < kind
    go (is_4 p) = omega arith
    go (is_5 p) = omega arith
    go (is_6 p) = omega arith
    go (is_8 p) = omega arith

module _ (rooms : Rooms) (v e : ℕ) (few_vertices : v ≤ vertex_limit) (few : e < element_limit) (room : element_width * (e + 1) ≤ rooms.elements) where
  element_good : (m : Mark) (used : List ℕ) → 0 < length used → MarkOf (length used) m → T (every (is_number v) used)
      → GoodLine rooms (reading v e) m ElementLine (first m) (second m) (map decimal used)
  unfolding bad_mark too_many no_room bad_counts
  element_good m used some mark inside = record {
    marked = mark_back m mark.known;
    said = sym mark.role;
    going = refl;
    known = refl;
    few = lt-leb element_limit e few;
    some = rw (length-map used decimal) some;
    count = length-map used decimal ∙ sym mark.counted;
    each = number-fields v few_vertices e used inside;
    room = le-ltb rooms.elements (element_width * (e + 1)) room;
    counts = refl;
  }

  parts_read : (kind : ℕ) (used zs : List ℕ) → length used ≡ kind → T (is_kind kind) → T (every (is_number v) used) → T (every (eqb 0) zs)
      → length used + length zs ≡ corner_width
      → LineRead rooms (reading v e) (line_with (mark_bytes (mark_of_kind kind)) (map decimal used)) [] (kind ∷ (used ++ zs)) (reading v (e + 1))
  unfolding after_role
  parts_read kind used zs n h inside zeros wide =
      let mark = kind_mark kind h in
      let g = element_good (mark_of_kind kind) used (rw n (some-corners kind h)) (rw n mark) inside in
      let k : length zs ≡ corner_width - wants (mark_of_kind kind) = omega (arith, mark.counted) in
      line_read mark.known g (no_vertex_added g mark.plain)
      (element_added g mark.plain ∙ rw (number-values v few_vertices used inside, zeros_are (corner_width - wants (mark_of_kind kind)) zs k zeros, mark.counted))

  -- TE, PY, PR or HX adds the record that it was written from
  pub element_read : (r : List ℕ) → record_finding v r ≡ Ok tt → LineRead rooms (reading v e) (element_line r) [] r (reading v (e + 1))
  unfolding element_line
  element_read r clean =
      let f = clean_faultless v r clean in
      let n = used_length r (clean-whole v r clean) in
      let parts = record_parts r f.wide in
      let w : length (used_of r) + length (spare_of r) ≡ corner_width = omega (arith, simp length-append at (ap length parts), f.wide) in
      subst (λ (q : List ℕ). LineRead rooms (reading v e) (element_line r) [] q (reading v (e + 1))) (sym parts)
      (parts_read (kind_of r) (used_of r) (spare_of r) n f.kind f.inside f.unused w)

-- ---- the end

module _ (rooms : Rooms) (v e : ℕ) (few_vertices : v ≤ vertex_limit) (few : e ≤ element_limit) where
  count-field : (k : ℕ) → k < 10 ^ number_digits → Good (reading v e) EndLine (decimal k)
  unfolding field_verdict
  count-field k h = decimal-field _ _ k (rw (number-back k h))

  end_good : GoodLine rooms (reading v e) En EndLine (first En) (second En) (decimal v ∷ decimal e ∷ [])
  unfolding bad_mark too_many no_room bad_counts first_of
  end_good = record {
    marked = mark_back En refl;
    said = refl;
    going = refl;
    known = refl;
    few = refl;
    some = omega arith;
    count = refl;
    each = (count-field v (omega arith), (count-field e (omega arith), tt));
    room = refl;
    counts = rw (value_back v (omega arith), value_back e (omega arith), eq-eqb v v refl, eq-eqb e e refl);
  }

  -- EN with the counts of the file ends it
  pub end_read : LineRead rooms (reading v e) (end_line v e) [] [] (ended v e)
  unfolding end_line vertex_records element_records after_role
  end_read = let g = end_good in line_read refl g (rw (← its_role g)) (rw (← its_role g))
