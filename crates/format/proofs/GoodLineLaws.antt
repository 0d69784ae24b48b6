-- A line of a mark and good fields, each preceded by exactly one space, is accepted, and adds the record that its fields say.
-- Assumes nothing.
use Prim.Native.Nat.{ℕ, zero, suc, ◌+◌, ◌-◌, ◌≤◌, ◌<◌}
use native.Mathlib.Omega.{arith}
use mathlib.Core.Path.{◌≡◌, refl, sym, ap, ◌∙◌}
use mathlib.Core.Bool.{true, false, true≢false}
use mathlib.Core.List.{List, [], ◌∷◌, ◌++◌, map, append-nil}
use lib.ListN.{length, get_or, drop, replicate, length-append, length-map, length-replicate}
use Rattle.std.specs.Prelude.{Ok}
use Rattle.limits.specs.Limits.{line_end, space, minus, fields_at, mark_width, vertex_width, corner_width}
use Rattle.laws.specs.Pieces.{Pieces, rest, piece, split}
use Rattle.laws.proofs.PieceLaws.{Free, split-joined, split_free}
use Rattle.format.specs.Number.{thousandths_of, number_of, whole, value_of}
use Rattle.format.specs.Line.{mark_with, mark_of, role_of, wants, fields_of, are_fields, first_of, fields_verdict, bad_mark, too_many, bad_shape, no_room, bad_counts, after_role, after, line_verdict}
use Rattle.format.specs.Records.{vertex_record, tip_first, corner_fields, element_record, vertex_records, element_records}
use Rattle.format.specs.GoodFields.{Above, Good, Each, spaced}
use Rattle.format.specs.declared.Mark.{Mark}
use Rattle.format.specs.declared.Mark.TheVariants.{Vx, Te, Py, Pz, Pr, Hx, En, Unknown}
use Rattle.format.specs.declared.Role.{Role}
use Rattle.format.specs.declared.Role.TheVariants.{VertexLine, ElementLine}
use Rattle.format.specs.declared.ReaderState.{ReaderState}
use Rattle.format.specs.declared.Rooms.{Rooms}
use Rattle.format.proofs.NumberLaws.{above_append, above_lower, above_free}
use Rattle.format.proofs.MarkLaws.{low_first, low_second}
use Rattle.format.proofs.FieldLaws.{some_bytes}
use Rattle.format.proofs.LineLaws.{passing-accepted}
use Rattle.format.proofs.FileRecordLaws.{corners-plain}

-- ---- fields

-- the pieces that fields make
abbrev pub in_pieces : List (List ℕ) → Pieces
in_pieces [] = rest []
in_pieces (f ∷ []) = rest f
in_pieces (f ∷ g ∷ fs) = piece f (in_pieces (g ∷ fs))

module _ (state : ReaderState) (role : Role) where
  spaceless : (f : List ℕ) → Good state role f → Free space f
  spaceless f g = above_free minus space f (omega arith) g.plain

  -- fields that were put together with spaces are cut again
  pieces_cut : (f : List ℕ) (fs : List (List ℕ)) → Each (Good state role) (f ∷ fs) → split space (f ++ spaced fs) ≡ in_pieces (f ∷ fs)
  pieces_cut f [] e = ap (split space) (append-nil f) ∙ split_free space f (spaceless f e.0)
  pieces_cut f (g ∷ fs) e = split-joined space f (g ++ spaced fs) (spaceless f e.0) ∙ ap (piece f) (pieces_cut g fs e.1)

  pieces_counted : (f : List ℕ) (fs : List (List ℕ)) → Each (Good state role) (f ∷ fs) → are_fields (suc (length fs)) (in_pieces (f ∷ fs)) ≡ true
  unfolding are_fields
  pieces_counted f [] e = rw (some_bytes f (λ z. omega (arith, e.0.some)))
  pieces_counted f (g ∷ fs) e = rw (some_bytes f (λ z. omega (arith, e.0.some))) (pieces_counted g fs e.1)

  pieces_pass : (f : List ℕ) (fs : List (List ℕ)) → Each (Good state role) (f ∷ fs) → fields_verdict state role (in_pieces (f ∷ fs)) ≡ Ok tt
  unfolding fields_verdict
  pieces_pass f [] e = e.0.passes
  pieces_pass f (g ∷ fs) e = rw e.0.passes (pieces_pass g fs e.1)

  -- no byte 10 stands in them
  spaced-high : (fs : List (List ℕ)) → Each (Good state role) fs → Above 11 (spaced fs)
  spaced-high [] e = tt
  spaced-high (f ∷ fs) e = (omega arith, above_append 11 f (spaced fs) (above_lower minus 11 f (omega arith) e.0.plain) (spaced-high fs e.1))

-- ---- what they say

first_all : {A : Type 0} (value : List ℕ → A) (f : List ℕ) (fs : List (List ℕ)) → first_of value (suc (length fs)) (in_pieces (f ∷ fs)) ≡ map value (f ∷ fs)
unfolding first_of
first_all value f [] = refl
first_all {A} value f (g ∷ fs) = ap (λ (l : List A). value f ∷ l) (first_all value g fs)

-- where there is no field, the number is 0
none_left : (n : ℕ) → first_of value_of n (rest []) ≡ replicate n 0
unfolding first_of value_of number_of whole
none_left zero = refl
none_left (suc n) = ap (λ (l : List ℕ). 0 ∷ l) (none_left n)

numbers_all : (n k : ℕ) (f : List ℕ) (fs : List (List ℕ)) → n ≡ suc (length fs) + k
    → first_of value_of n (in_pieces (f ∷ fs)) ≡ map value_of (f ∷ fs) ++ replicate k 0
unfolding first_of
numbers_all zero k f fs e = absurd (omega arith)
numbers_all (suc n) k f [] e =
    let q : n ≡ k = omega arith in
    ap (λ (l : List ℕ). value_of f ∷ l) (none_left n ∙ ap (λ (m : ℕ). replicate m 0) q)
numbers_all (suc n) k f (g ∷ fs) e = ap (λ (l : List ℕ). value_of f ∷ l) (numbers_all n k g fs (omega arith))

-- ---- a line

-- the two bytes of a mark, then the fields
abbrev pub line_of : ℕ → ℕ → List (List ℕ) → List ℕ
line_of a b fs = a ∷ b ∷ spaced fs

-- its mark is allowed in this state, it has as many fields as the mark has, and each is good
pub record GoodLine (rooms : Rooms) (state : ReaderState) (mark : Mark) (role : Role) (a b : ℕ) (fs : List (List ℕ)) : Type 0 where
  pub marked : mark ≡ mark_with a b
  pub said : role ≡ role_of mark
  pub going : state.ended ≡ false
  pub known : bad_mark state role ≡ false
  pub few : too_many state role ≡ false
  pub some : 0 < length fs
  pub count : length fs ≡ wants mark
  pub each : Each (Good state role) fs
  pub room : no_room rooms state role ≡ false
  pub counts : bad_counts state role (in_pieces fs) ≡ false

module _ (state : ReaderState) (role : Role) (a b : ℕ) where
  line-cut : (fs : List (List ℕ)) → 0 < length fs → Each (Good state role) fs → split space (drop fields_at (line_of a b fs)) ≡ in_pieces fs
  line-cut [] h e = absurd (omega arith)
  line-cut (f ∷ fs) h e = pieces_cut state role f fs e

  line-spaced : (fs : List (List ℕ)) → 0 < length fs → get_or (line_of a b fs) mark_width 0 ≡ space
  line-spaced [] h = absurd (omega arith)
  line-spaced (f ∷ fs) h = refl

  line_counted : (fs : List (List ℕ)) → 0 < length fs → Each (Good state role) fs → are_fields (length fs) (in_pieces fs) ≡ true
  line_counted [] h e = absurd (omega arith)
  line_counted (f ∷ fs) h e = pieces_counted state role f fs e

  line-passes : (fs : List (List ℕ)) → 0 < length fs → Each (Good state role) fs → fields_verdict state role (in_pieces fs) ≡ Ok tt
  line-passes [] h e = absurd (omega arith)
  line-passes (f ∷ fs) h e = pieces_pass state role f fs e

module _ {rooms : Rooms} {state : ReaderState} {mark : Mark} {role : Role} {a b : ℕ} {fs : List (List ℕ)} (g : GoodLine rooms state mark role a b fs) where
  pub its_mark : mark ≡ mark_of (line_of a b fs)
  unfolding mark_of
  its_mark = g.marked

  pub its_role : role ≡ role_of (mark_of (line_of a b fs))
  its_role = g.said ∙ ap role_of its_mark

  its_fields : fields_of (line_of a b fs) ≡ in_pieces fs
  unfolding fields_of
  its_fields = line-cut state role a b fs g.some g.each

  its_shape : bad_shape (wants mark) (line_of a b fs) ≡ false
  unfolding bad_shape
  its_shape = rw (line-spaced state role a b fs g.some, its_fields, ← g.count, line_counted state role a b fs g.some g.each)

  -- it is accepted
  pub its_verdict : line_verdict rooms state true (line_of a b fs) ≡ Ok (after_role state role)
  its_verdict = passing-accepted (record {
    marked = its_mark;
    said = g.said;
    going = g.going;
    known = g.known;
    few = g.few;
    shaped = its_shape;
    passed = ap (fields_verdict state role) its_fields ∙ line-passes state role a b fs g.some g.each;
    room = g.room;
    counts = ap (bad_counts state role) its_fields ∙ g.counts;
  })

  pub its_next : after state (line_of a b fs) ≡ after_role state role
  unfolding after
  its_next = ap (after_role state) (sym its_role)

  no-low : mark_with a b ≡ Unknown → ⊥
  unfolding bad_mark
  no-low q = true≢false (sym (ap (bad_mark state) (g.said ∙ ap role_of (g.marked ∙ q))) ∙ g.known)

  -- it holds no byte 10
  pub its_free : Free line_end (line_of a b fs)
  its_free = (
    λ e. no-low (low_first a b (omega arith)),
    (λ e. no-low (low_second a b (omega arith)), above_free 11 line_end (spaced fs) (omega arith) (spaced-high state role fs g.each)),
  )

-- ---- its record

pub vertex-wants : (m : Mark) → VertexLine ≡ role_of m → wants m ≡ vertex_width
vertex-wants Vx e = refl
vertex-wants Te e = let z : ◌≡◌ {A = ℕ} 0 1 = cc in absurd (omega arith)
vertex-wants Py e = let z : ◌≡◌ {A = ℕ} 0 1 = cc in absurd (omega arith)
vertex-wants Pz e = let z : ◌≡◌ {A = ℕ} 0 1 = cc in absurd (omega arith)
vertex-wants Pr e = let z : ◌≡◌ {A = ℕ} 0 1 = cc in absurd (omega arith)
vertex-wants Hx e = let z : ◌≡◌ {A = ℕ} 0 1 = cc in absurd (omega arith)
vertex-wants En e = let z : ◌≡◌ {A = ℕ} 0 1 = cc in absurd (omega arith)
vertex-wants Unknown e = let z : ◌≡◌ {A = ℕ} 0 1 = cc in absurd (omega arith)

pub wants-few : (m : Mark) → wants m ≤ corner_width
wants-few Vx = omega arith
wants-few Te = omega arith
wants-few Py = omega arith
wants-few Pz = omega arith
wants-few Pr = omega arith
wants-few Hx = omega arith
wants-few En = omega arith
wants-few Unknown = omega arith

first_coordinates : (fs : List (List ℕ)) (n : ℕ) → 0 < length fs → length fs ≡ n → first_of thousandths_of n (in_pieces fs) ≡ map thousandths_of fs
first_coordinates [] n h e = absurd (omega arith)
first_coordinates (f ∷ fs) n h e = rw (← e) (first_all thousandths_of f fs)

first-numbers : (fs : List (List ℕ)) (k : ℕ) → 0 < length fs → corner_width ≡ length fs + k → first_of value_of corner_width (in_pieces fs) ≡ map value_of fs ++ replicate k 0
first-numbers [] k h e = absurd (omega arith)
first-numbers (f ∷ fs) k h e = numbers_all corner_width k f fs e

module _ {rooms : Rooms} {state : ReaderState} {mark : Mark} {a b : ℕ} {fs : List (List ℕ)} where
  -- a vertex: what its fields say
  module _ (g : GoodLine rooms state mark VertexLine a b fs) where
    pub vertex_added : vertex_records state (role_of (mark_of (line_of a b fs))) (line_of a b fs) ≡ map thousandths_of fs
    unfolding vertex_records vertex_record
    vertex_added = rw (← its_role g, its_fields g) (first_coordinates fs vertex_width g.some (g.count ∙ vertex-wants mark g.said))

    pub no_element_added : element_records state (role_of (mark_of (line_of a b fs))) (line_of a b fs) ≡ []
    unfolding element_records
    no_element_added = rw (← its_role g)

  -- an element but PZ: its kind, what its fields say, then zeros
  module _ (g : GoodLine rooms state mark ElementLine a b fs) (plain : tip_first mark ≡ false) where
    pub element_added : element_records state (role_of (mark_of (line_of a b fs))) (line_of a b fs)
        ≡ wants mark ∷ (map value_of fs ++ replicate (corner_width - wants mark) 0)
    unfolding element_records element_record
    element_added =
        let w = wants-few mark in
        let k : ℕ = corner_width - wants mark in
        let numbers : List ℕ = map value_of fs ++ replicate k 0 in
        let q : corner_width ≡ length fs + k = omega (arith, g.count) in
        let z : length numbers ≡ corner_width = simp (length-append, length-map, length-replicate) (omega (arith, g.count)) in
        rw (← its_role g, ← its_mark g, plain, its_fields g)
        (ap (λ (l : List ℕ). wants mark ∷ map (λ j. get_or l j 0) (corner_fields false)) (first-numbers fs k g.some q)
        ∙ ap (λ (l : List ℕ). wants mark ∷ l) (corners-plain numbers z))

    pub no_vertex_added : vertex_records state (role_of (mark_of (line_of a b fs))) (line_of a b fs) ≡ []
    unfolding vertex_records
    no_vertex_added = rw (← its_role g)
