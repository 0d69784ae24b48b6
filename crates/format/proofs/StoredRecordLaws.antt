-- What reading stores: each coordinate is within the limits, and each element record has no fault but that a vertex may stand in it twice,
-- which reading does not judge. Assumes nothing.
use Prim.Native.Nat.{ℕ, zero, suc, ◌+◌, ◌*◌, ◌≤◌, ◌<◌}
use native.Mathlib.Nat.{le_refl, le_trans, mul-suc, mul-zero, add_comm}
use native.Mathlib.Omega.{arith}
use mathlib.Core.Path.{◌≡◌, refl, sym, ◌∙◌}
use mathlib.Core.Bool.{Bool, true, false, cond, ◌&&◌, true≢false}
use mathlib.Core.List.{List, [], ◌∷◌, ◌++◌, map}
use lib.Dec.{T, eqb, ltb, leb, eqb→eq, ltb→lt, leb→le, lt→ltb, le→leb}
use lib.IntN.{ℤ}
use lib.ListN.{length, get_or, take, drop, length-append}
use lib.Seq.{drop-drop, take_at, drop_at}
use borrow.Author.Tests.{le-leb, leb-true, eqb-false, ltb-false, eq-eqb, not-false}
use Rattle.std.specs.Prelude.{Option, Some, None, Result, Ok, Err}
use Rattle.limits.specs.Limits.{comma, minus, coordinate_limit, space, vertex_width, element_width, corner_width, mark_width}
use Rattle.laws.specs.Pieces.{Pieces, rest, piece, split}
use Rattle.laws.specs.Words.{every}
use Rattle.laws.proofs.TestLaws.{true-T, T_true, and_right, and_both}
use Rattle.laws.proofs.EveryLaws.{every_map, every_append}
use Rattle.faults.specs.Refusals.{accepted}
use Rattle.faults.specs.declared.Fault.{Fault}
use Rattle.faults.specs.declared.Fault.TheVariants as fault
use Rattle.volume.specs.Volume.{in_range}
use Rattle.records.specs.Record as record_of
use Rattle.records.specs.Record.{kind_of, used_of, spare_of, is_kind}
use Rattle.records.specs.WholeRecords.{is_number}
use Rattle.format.specs.Number.{cut, signed, millimetres, whole, unsigned, coordinate_of, thousandths_in, thousandths_of, value_in, number_of, value_of}
use Rattle.format.specs.Line.{mark_of, role_of, wants, fields_of, some, are_fields, first_of, numbers_of, judge_vertex, first, field_verdict, fields_verdict, bad_shape, after_role, after}
use Rattle.format.specs.File.{start, lines_of, file_verdict}
use Rattle.format.specs.Records.{vertex_record, tip_first, corner_fields, element_record, vertex_records, element_records, records_from}
use Rattle.format.specs.StoredRecords.{Stored, EachRecord}
use Rattle.format.specs.declared.Mark.{Mark}
use Rattle.format.specs.declared.Mark.TheVariants.{Vx, Te, Py, Pz, Pr, Hx, En, Unknown}
use Rattle.format.specs.declared.Role.{Role}
use Rattle.format.specs.declared.Role.TheVariants.{VertexLine, ElementLine, EndLine, UnknownLine}
use Rattle.format.specs.declared.ReaderState.{ReaderState}
use Rattle.format.specs.declared.Rooms.{Rooms}
use Rattle.format.proofs.FieldLaws.{none_wanted}
use Rattle.format.proofs.FileLaws.{Taken, accepted-holds}

-- ---- a coordinate that is read is within the limits

record Ranged (c : Result ℤ Fault) : Type 0 where
  in_range_lem : T (in_range (thousandths_in c))

wrong_ranged : (f : _) → Ranged (Err f)
unfolding in_range
wrong_ranged f = record { in_range_lem = tt }

signed-ranged : (neg : Bool) (n : ℕ) → n ≤ coordinate_limit → T (in_range (signed neg n))
unfolding in_range
signed-ranged false n h = true-T (le-leb n coordinate_limit h)
signed-ranged true zero h = tt
signed-ranged true (suc n) h = and_both (leb n 499999) true (true-T (le-leb n 499999 (omega arith))) tt

millimetres-ranged : (neg : Bool) (w f : Option ℕ) → Ranged (millimetres neg w f)
unfolding millimetres
millimetres-ranged neg (Some w) (Some f) = by (leb (w * 1000 + f) coordinate_limit) refl
  where
    by : (b : Bool) → leb (w * 1000 + f) coordinate_limit ≡ b → Ranged (cond b (Ok (signed neg (w * 1000 + f))) (Err fault.Range))
    by true e = record { in_range_lem = signed-ranged neg (w * 1000 + f) (leb-true _ _ e) }
    by false e = wrong_ranged fault.Range
millimetres-ranged neg (Some w) None = wrong_ranged fault.Number
millimetres-ranged neg None (Some f) = wrong_ranged fault.Number
millimetres-ranged neg None None = wrong_ranged fault.Number

unsigned-ranged : (neg : Bool) (p : Pieces) → Ranged (unsigned neg p)
unfolding unsigned
unsigned-ranged neg (rest w) = millimetres-ranged neg _ _
unsigned-ranged neg (piece w (rest f)) = millimetres-ranged neg _ _
unsigned-ranged neg (piece w (piece f p)) = wrong_ranged fault.Number

-- of two coordinates that are, the one that a test picks is
either_ranged : (b : Bool) (c d : Result ℤ Fault) → Ranged c → Ranged d → Ranged (cond b c d)
either_ranged true c d f g = f
either_ranged false c d f g = g

thousandths_ranged : (l : List ℕ) → T (in_range (thousandths_of l))
unfolding thousandths_of coordinate_of
thousandths_ranged l =
    let c : Ranged (coordinate_of l) =
    either_ranged (cut (split comma l)) _ _ (wrong_ranged fault.Comma)
    (either_ranged (eqb (get_or l 0 0) minus) _ _ (unsigned-ranged true _) (unsigned-ranged false _)) in
    c.in_range_lem

first-ranged : (n : ℕ) (p : Pieces) → T (every in_range (first_of thousandths_of n p))
unfolding first_of
first-ranged zero p = tt
first-ranged (suc n) (rest l) = and_both (in_range (thousandths_of l)) _ (thousandths_ranged l) (first-ranged n (rest []))
first-ranged (suc n) (piece l p) = and_both (in_range (thousandths_of l)) _ (thousandths_ranged l) (first-ranged n p)

line-ranged : (state : ReaderState) (role : Role) (l : List ℕ) → T (every in_range (vertex_records state role l))
unfolding vertex_records vertex_record
line-ranged state VertexLine l = first-ranged vertex_width (fields_of l)
line-ranged state ElementLine l = tt
line-ranged state EndLine l = tt
line-ranged state UnknownLine l = tt

pub records_ranged : (state : ReaderState) (p : Pieces) → T (every in_range (records_from vertex_records state p))
unfolding records_from
records_ranged state (rest l) = tt
records_ranged state (piece l p) =
    every_append in_range (vertex_records state (role_of (mark_of l)) l) (records_from vertex_records (after state l) p)
    (line-ranged state (role_of (mark_of l)) l) (records_ranged (after state l) p)

-- ---- a vertex number that is read is between 1 and the vertex count

passed_number : (state : ReaderState) (v : ℕ) → state.vertices ≤ v → (l : List ℕ) → field_verdict state ElementLine l ≡ Ok tt
    → T (is_number v (value_of l))
unfolding field_verdict value_of
passed_number state v h l = by (number_of l)
  where
    no : {X : Type 0} (f : Fault) → Err f ≡ Ok (tt {0}) → X
    no f e = let z : ◌≡◌ {A = ℕ} 0 1 = cc in absurd (omega arith)

    by : (s : Option ℕ) → judge_vertex state.vertices s ≡ Ok tt → T (is_number v (value_in s))
    by (Some n) e = tests (eqb n 0) refl (ltb state.vertices n) refl e
      where
        tests : (a : Bool) → eqb n 0 ≡ a → (b : Bool) → ltb state.vertices n ≡ b
            → cond a (Err fault.Vertex) (cond b (Err fault.Vertex) (Ok tt)) ≡ Ok (tt {0}) → T (is_number v n)
        tests true p b q e = no fault.Vertex e
        tests false p true q e = no fault.Vertex e
        tests false p false q e =
            and_both (ltb 0 n) (leb n v) (lt→ltb 0 n (let z = eqb-false n 0 p in omega arith))
            (le→leb n v (le_trans (ltb-false state.vertices n q) h))
    by None e = no fault.Number e

-- ---- the first fields of a line, one by one

both_passed : (j k : Result (Unit {0}) Fault) → first j k ≡ Ok tt → (j ≡ Ok tt) × (k ≡ Ok tt)
both_passed (Ok tt) k e = (refl, e)
both_passed (Err f) k e = let z : ◌≡◌ {A = ℕ} 0 1 = cc in absurd (omega arith)

-- the last of the fields
last_field : (m : ℕ) (l : List ℕ) → are_fields (suc m) (rest l) ≡ true → m ≡ 0
unfolding are_fields
last_field m l e = eqb→eq m 0 (and_right (some l) (eqb m 0) (true-T e))

more_fields : (m : ℕ) (l : List ℕ) (p : Pieces) → are_fields (suc m) (piece l p) ≡ true → are_fields m p ≡ true
unfolding are_fields
more_fields m l p e = T_true (are_fields m p) (and_right (some l) (are_fields m p) (true-T e))

-- what holds of what a field says that passes holds of what each says
module _
    {A : Type 0}
    (state : ReaderState)
    (role : Role)
    (f : List ℕ → A)
    (Q : A → Type 0)
    (d : A)
    (passes : (l : List ℕ) → field_verdict state role l ≡ Ok tt → Q (f l))
  where
    field_at : (n m : ℕ) (p : Pieces) → are_fields m p ≡ true → fields_verdict state role p ≡ Ok tt → (i : ℕ) → i < n → i < m
        → Q (get_or (first_of f n p) i d)
    unfolding fields_verdict first_of
    field_at zero m p a h i b c = absurd (omega arith)
    field_at (suc n) zero p a h i b c = absurd (omega arith)
    field_at (suc n) (suc m) (rest l) a h zero b c = passes l h
    field_at (suc n) (suc m) (rest l) a h (suc i) b c = let z = last_field m l a in absurd (omega arith)
    field_at (suc n) (suc m) (piece l p) a h zero b c = passes l (both_passed (field_verdict state role l) (fields_verdict state role p) h).0
    field_at (suc n) (suc m) (piece l p) a h (suc i) b c =
        field_at n m p (more_fields m l p a) (both_passed (field_verdict state role l) (fields_verdict state role p) h).1 i (omega arith) (omega arith)

-- where there is no field, the number is 0
none-at : (n i : ℕ) → get_or (first_of value_of n (rest [])) i 0 ≡ 0
unfolding first_of value_of number_of whole
none-at zero i = refl
none-at (suc n) zero = refl
none-at (suc n) (suc i) = none-at n i

zero-at : (n m : ℕ) (p : Pieces) → are_fields m p ≡ true → (i : ℕ) → m ≤ i → get_or (first_of value_of n p) i 0 ≡ 0
unfolding first_of
zero-at zero m p a i h = refl
zero-at (suc n) zero p a i h = absurd (true≢false (sym a ∙ none_wanted p))
zero-at (suc n) (suc m) (rest l) a zero h = absurd (omega arith)
zero-at (suc n) (suc m) (rest l) a (suc i) h = none-at n i
zero-at (suc n) (suc m) (piece l p) a zero h = absurd (omega arith)
zero-at (suc n) (suc m) (piece l p) a (suc i) h = zero-at n m p (more_fields m l p a) i (omega arith)

-- ---- the record of a line

module _ (state : ReaderState) (v : ℕ) (low : state.vertices ≤ v) (p : Pieces) where
  abbrev corner : ℕ → ℕ
  corner j = get_or (numbers_of p) j 0

  module _ (k : ℕ) (few : k ≤ corner_width) (a : are_fields k p ≡ true) (h : fields_verdict state ElementLine p ≡ Ok tt) where
    corners-inside : (js : List ℕ) → T (every (λ j. ltb j k) js) → T (every (is_number v) (map corner js))
    corners-inside =
        every_map (is_number v) corner (λ j. ltb j k)
        (λ j b.
        let l = ltb→lt j k b in
        field_at state ElementLine value_of (λ n. T (is_number v n)) 0 (passed_number state v low) corner_width k p a h j (omega arith) l)

    corners-zero : (js : List ℕ) → T (every (λ j. leb k j) js) → T (every (eqb 0) (map corner js))
    corners-zero =
        every_map (eqb 0) corner (λ j. leb k j) (λ j b. true-T (eq-eqb 0 (corner j) (sym (zero-at corner_width k p a j (leb→le k j b)))))

  element_stored : (m : Mark) → role_of m ≡ ElementLine → are_fields (wants m) p ≡ true → fields_verdict state ElementLine p ≡ Ok tt
      → Stored v (element_record state m p)
  unfolding element_record is_kind kind_of used_of spare_of record_of.numbers_of
  element_stored Te e a h = record {
    wide = refl;
    kind = tt;
    inside = corners-inside 4 (omega arith) a h (take 4 (corner_fields (tip_first Te))) tt;
    unused = corners-zero 4 (omega arith) a h (drop 4 (corner_fields (tip_first Te))) tt;
  }
  element_stored Py e a h = record {
    wide = refl;
    kind = tt;
    inside = corners-inside 5 (omega arith) a h (take 5 (corner_fields (tip_first Py))) tt;
    unused = corners-zero 5 (omega arith) a h (drop 5 (corner_fields (tip_first Py))) tt;
  }
  element_stored Pz e a h = record {
    wide = refl;
    kind = tt;
    inside = corners-inside 5 (omega arith) a h (take 5 (corner_fields (tip_first Pz))) tt;
    unused = corners-zero 5 (omega arith) a h (drop 5 (corner_fields (tip_first Pz))) tt;
  }
  element_stored Pr e a h = record {
    wide = refl;
    kind = tt;
    inside = corners-inside 6 (omega arith) a h (take 6 (corner_fields (tip_first Pr))) tt;
    unused = corners-zero 6 (omega arith) a h (drop 6 (corner_fields (tip_first Pr))) tt;
  }
  element_stored Hx e a h = record {
    wide = refl;
    kind = tt;
    inside = corners-inside 8 (omega arith) a h (take 8 (corner_fields (tip_first Hx))) tt;
    unused = corners-zero 8 (omega arith) a h (drop 8 (corner_fields (tip_first Hx))) tt;
  }
  element_stored Vx e a h = let z : ◌≡◌ {A = ℕ} 0 1 = cc in absurd (omega arith)
  element_stored En e a h = let z : ◌≡◌ {A = ℕ} 0 1 = cc in absurd (omega arith)
  element_stored Unknown e a h = let z : ◌≡◌ {A = ℕ} 0 1 = cc in absurd (omega arith)

-- ---- the records of a table

record_more : {A : Type 0} (w : ℕ) (P : List A → Type 0) (r l : List A) → length r ≡ w → P r → EachRecord w P l → EachRecord w P (r ++ l)
record_more w P r l e p h zero b = rw (mul-zero w, take_at r l w e) p
record_more w P r l e p h (suc i) b =
    rw (mul-suc w i, add_comm (w * i) w, ← drop-drop (w * i) w (r ++ l), drop_at r l w e)
    (h i (let s = mul-suc w (suc i) in omega (arith, length-append r l)))

-- ---- the records of a file

-- the vertices so far are not more than the file's, and each record that the lines left add is as it should be
record Holding (v : ℕ) (state : ReaderState) (p : Pieces) : Type 0 where
  low : state.vertices ≤ v
  stored : EachRecord element_width (Stored v) (records_from element_records state p)

fields_there : (n : ℕ) (l : List ℕ) → bad_shape n l ≡ false → are_fields n (fields_of l) ≡ true
unfolding bad_shape
fields_there n l h =
    let shaped : Bool = eqb (get_or l mark_width 0) space && are_fields n (fields_of l) in
    T_true (are_fields n (fields_of l)) (and_right (eqb (get_or l mark_width 0) space) (are_fields n (fields_of l)) (true-T (not-false shaped h)))

-- vertices do not grow fewer
grows : (state : ReaderState) (role : Role) → state.vertices ≤ (after_role state role).vertices
unfolding after_role
grows state VertexLine = omega arith
grows state ElementLine = le_refl state.vertices
grows state EndLine = le_refl state.vertices
grows state UnknownLine = le_refl state.vertices

module _ (state : ReaderState) (v : ℕ) (low : state.vertices ≤ v) (l : List ℕ) where
  stored_more : (m : Mark) → mark_of l ≡ m → role_of m ≡ ElementLine → are_fields (wants m) (fields_of l) ≡ true
      → fields_verdict state ElementLine (fields_of l) ≡ Ok tt → (more : List ℕ) → EachRecord element_width (Stored v) more
      → EachRecord element_width (Stored v) (element_record state (mark_of l) (fields_of l) ++ more)
  stored_more m e r a h more g =
      let s : Stored v (element_record state (mark_of l) (fields_of l)) = rw e (element_stored state v low (fields_of l) m r a h) in
      record_more element_width (Stored v) (element_record state (mark_of l) (fields_of l)) more s.wide s g

  stored_by : (m : Mark) → mark_of l ≡ m → are_fields (wants m) (fields_of l) ≡ true → fields_verdict state (role_of m) (fields_of l) ≡ Ok tt
      → (more : List ℕ) → EachRecord element_width (Stored v) more → EachRecord element_width (Stored v) (element_records state (role_of m) l ++ more)
  unfolding element_records
  stored_by Vx e a h more g = g
  stored_by Te e a h more g = stored_more Te e refl a h more g
  stored_by Py e a h more g = stored_more Py e refl a h more g
  stored_by Pz e a h more g = stored_more Pz e refl a h more g
  stored_by Pr e a h more g = stored_more Pr e refl a h more g
  stored_by Hx e a h more g = stored_more Hx e refl a h more g
  stored_by En e a h more g = g
  stored_by Unknown e a h more g = g

module _ (rooms : Rooms) (v n : ℕ) where
  last_holds : (state : ReaderState) → v ∷ n ∷ [] ≡ state.vertices ∷ state.elements ∷ [] → Holding v state (rest [])
  unfolding records_from
  last_holds state e = record {
    low = let q : v ≡ state.vertices = cc in omega arith;
    stored = λ i b. absurd (omega arith);
  }

  line-holds : (state : ReaderState) (l : List ℕ) (p : Pieces) → Taken rooms state l (after state l) → Holding v (after state l) p
      → Holding v state (piece l p)
  unfolding records_from after
  line-holds state l p t h =
      let low = le_trans (grows state (role_of (mark_of l))) h.low in
      let a = fields_there (wants (mark_of l)) l t.shaped in
      record {
        low = low;
        stored = stored_by state v low l (mark_of l) refl a t.passed (records_from element_records (after state l) p) h.stored;
      }

  -- each element record of an accepted file
  pub file_stored : (file : List ℕ) → file_verdict rooms file ≡ accepted (v ∷ n ∷ []) → EachRecord element_width (Stored v) (records_from element_records start (lines_of file))
  file_stored file e = (accepted-holds rooms (v ∷ n ∷ []) (Holding v) last_holds line-holds file e).1.stored
