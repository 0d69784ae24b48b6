-- A line read quickly is accepted by the page's tests and adds its record: its bytes are cut into its mark and its fields again.
-- Assumes nothing.
use Prim.Native.Nat.{ℕ, ◌+◌, ◌*◌, ◌-◌, ◌≤◌}
use native.Mathlib.Omega.{arith}
use mathlib.Core.Path.{◌≡◌, refl, sym, ap, ◌∙◌}
use mathlib.Core.Bool.{false}
use mathlib.Core.List.{List, [], ◌∷◌, ◌++◌, append-nil}
use lib.IntN.{ℤ}
use lib.ListN.{length, get_or, take, drop, set, replicate, length-append, length-drop, length-map, length-replicate}
use lib.Seq.{length-take-le, drop-append-add}
use borrow.Author.Tests.{leb-false}
use borrow.Rule.Slice.PartMut.{mid_of, post_of, put_mid}
use Rattle.std.proofs.Common.{Some}
use Rattle.std.proofs.lemmas.List.{take_rest, drop-replicate}
use Rattle.std.proofs.lemmas.Slice.{take-put_mid, take-put_mid_below}
use Rattle.limits.specs.Limits.{line_end, space, fields_at, mark_width, vertex_limit, element_limit, vertex_width, element_width, corner_width}
use Rattle.laws.specs.Pieces.{Pieces, piece, split}
use Rattle.laws.proofs.PieceLaws.{split-joined}
use Rattle.format.specs.Number.{thousandths_of, value_of}
use Rattle.format.specs.Line.{mark_of, role_of, wants, bad_mark, too_many, no_room, bad_counts, after_role}
use Rattle.format.specs.Records.{tip_first}
use Rattle.format.specs.GoodFields.{spaced}
use Rattle.format.specs.declared.Mark.{Mark}
use Rattle.format.specs.declared.Role.{Role}
use Rattle.format.specs.declared.Role.TheVariants.{VertexLine, ElementLine}
use Rattle.format.specs.declared.ReaderState.{ReaderState}
use Rattle.format.specs.declared.Rooms.{Rooms}
use Rattle.format.proofs.GoodLineLaws.{in_pieces, line_of, GoodLine, its_verdict, its_free, vertex-wants, wants-few, vertex_added, no_element_added, element_added, no_vertex_added}
use Rattle.text.specs.ReadingLoops.{Own}
use Rattle.text.specs.QuickLoops.{FieldsAt, ElementRead, LineQuick}

-- what stands behind the mark and its space
abbrev pub fields_in : List ℕ → List ℕ
fields_in t = take (length t - fields_at) (drop fields_at t)

front-three : (t : List ℕ) → fields_at ≤ length t → get_or t mark_width 0 ≡ space → t ≡ get_or t 0 0 ∷ get_or t 1 0 ∷ space ∷ fields_in t
front-three [] h e = absurd (omega arith)
front-three (a ∷ []) h e = absurd (omega arith)
front-three (a ∷ b ∷ []) h e = absurd (omega arith)
front-three (a ∷ b ∷ x ∷ t) h e =
    ap (λ (y : ℕ). a ∷ b ∷ y ∷ t) e ∙ ap (λ (l : List ℕ). a ∷ b ∷ space ∷ l) (sym (take_rest (a ∷ b ∷ x ∷ t) fields_at))

size_put : {A : Type 0} (a k : ℕ) (xs ys : List A) → a + k ≤ length xs → length ys ≡ k → length (put_mid a k xs ys) ≡ length xs
size_put {A} a k xs ys h e = simp (length-append, length-drop) (omega (arith, length-take-le a xs))

says_count : {A : Type 0} {value : List ℕ → A} {state : ReaderState} {role : Role} {t : List ℕ} {values : List A} {rest : List ℕ}
    → (d : FieldsAt value state role t values rest) → length values ≡ length d.fields
says_count {value = value} d = ap length d.says ∙ length-map d.fields value

-- what stands behind the fields is a part of the text
pub rest_within : {A : Type 0} {value : List ℕ → A} {state : ReaderState} {role : Role} (t : List ℕ) {values : List A} (rest : List ℕ)
    → FieldsAt value state role (fields_in t) values rest → length rest ≤ length t
rest_within t rest d =
    let q = ap length d.here ∙ length-append (spaced d.fields) (line_end ∷ rest) in
    let f = ap length (take_rest t fields_at) ∙ length-drop fields_at t in
    omega arith

-- zeros, then a kind at their front and corners behind it
pub element_stored : (zeros corners : List ℕ) (first kind j : ℕ) → zeros ≡ replicate element_width 0 → first ≡ kind → j ≡ kind
    → take 1 (set zeros 0 first) ++ (corners ++ post_of 1 j (set zeros 0 first)) ≡ kind ∷ (corners ++ replicate (corner_width - kind) 0)
element_stored zeros corners first kind j e f q = rw (e, f, q) (ap (λ (l : List ℕ). kind ∷ (corners ++ l)) (drop-replicate kind corner_width 0))

pub element_read : (mark : Mark) (state : ReaderState) (t element corners rest : List ℕ) → tip_first mark ≡ false
    → FieldsAt value_of state ElementLine t corners rest → length corners ≡ wants mark
    → element ≡ wants mark ∷ (corners ++ replicate (corner_width - wants mark) 0) → ElementRead mark state t element rest
element_read mark state t element corners rest p f e q = record { plain = p; corners = corners; count = e; read = f; says = q }

-- the tests of a line that its fields do not decide are passed
pub record Allowed (t : List ℕ) (rooms : Rooms) (state : ReaderState) (mark : Mark) (role : Role) : Type 0 where
  pub known : bad_mark state role ≡ false
  pub few : too_many state role ≡ false
  pub room : no_room rooms state role ≡ false
  pub going : state.ended ≡ false
  pub long : fields_at ≤ length t
  pub spaced : get_or t mark_width 0 ≡ space
  pub marked : mark ≡ mark_of t
  pub said : role ≡ role_of mark

module _ {A : Type 0} {value : List ℕ → A} {t rest : List ℕ} {rooms : Rooms} {state : ReaderState} {mark : Mark} {role : Role} {values : List A}
    (a : Allowed t rooms state mark role) (d : FieldsAt value state role (fields_in t) values rest) (w : length d.fields ≡ wants mark)
    (counts : (p : Pieces) → bad_counts state role p ≡ false)
  where
    -- the line at the front of t: its mark, and the fields that were read
    abbrev line : List ℕ
    line = line_of (get_or t 0 0) (get_or t 1 0) d.fields

    good : GoodLine rooms state mark role (get_or t 0 0) (get_or t 1 0) d.fields
    unfolding mark_of
    good = record {
      marked = a.marked;
      said = a.said;
      going = a.going;
      known = a.known;
      few = a.few;
      some = d.some;
      count = w;
      each = d.each;
      room = a.room;
      counts = counts (in_pieces d.fields);
    }

    whole_text : t ≡ line ++ (line_end ∷ rest)
    whole_text = front-three t a.long a.spaced ∙ ap (λ (l : List ℕ). get_or t 0 0 ∷ get_or t 1 0 ∷ l) d.here

    taken : length t ≡ length line + 1 + length rest
    taken = ap length whole_text ∙ length-append line (line_end ∷ rest) ∙ omega arith

    behind_it : drop (length t - length rest) t ≡ rest
    behind_it =
        let q : length t - length rest ≡ length line + 1 = omega (arith, taken) in
        rw q (ap (drop (length line + 1)) whole_text ∙ drop-append-add line (line_end ∷ rest) 1)

    its_cut : split line_end t ≡ piece line (split line_end (drop (length t - length rest) t))
    its_cut = ap (split line_end) whole_text ∙ split-joined line_end line rest (its_free good) ∙ ap (λ (l : List ℕ). piece line (split line_end l)) (sym behind_it)

pub allowed : (t : List ℕ) (rooms : Rooms) (state : ReaderState) (mark : Mark) (role : Role) → bad_mark state role ≡ false → too_many state role ≡ false
    → no_room rooms state role ≡ false → state.ended ≡ false → fields_at ≤ length t → get_or t mark_width 0 ≡ space → mark ≡ mark_of t → role ≡ role_of mark
    → Allowed t rooms state mark role
allowed t rooms state mark role k f n g l s m q =
    record { known = k; few = f; room = n; going = g; long = l; spaced = s; marked = m; said = q }

-- ---- a vertex, an element

module _ (t rest : List ℕ) (mark : Mark) (rooms : Rooms) (state : ReaderState) (vertices : List ℤ) (elements : List ℕ) (o : Own vertices elements) where
  module _ (a : Allowed t rooms state mark VertexLine) (k : ℕ) (h : k ≡ vertex_width) (values : List ℤ) (same : length values ≡ length (mid_of (vertex_width * state.vertices) k vertices))
      (d : FieldsAt thousandths_of state VertexLine (fields_in t) values rest)
    where
      vertex_counts : (p : Pieces) → bad_counts state VertexLine p ≡ false
      unfolding bad_counts
      vertex_counts p = refl

      vertex-few : vertex_width * state.vertices + k ≤ length vertices
      unfolding too_many
      vertex-few = omega (arith, leb-false vertex_limit state.vertices a.few, o.vertex_length)

      size : length values ≡ k
      size = same ∙ length-take-le k (drop (vertex_width * state.vertices) vertices) (simp length-drop (omega (arith, vertex-few)))

      pub vertex_quick : LineQuick t mark rooms state vertices elements (Some (length t - length rest)) (put_mid (vertex_width * state.vertices) k vertices values) elements
      unfolding after_role
      vertex_quick =
          let base : ℕ = vertex_width * state.vertices in
          let s = size_put base k vertices values vertex-few size in
          let w : length d.fields ≡ wants mark = sym (says_count d) ∙ size ∙ h ∙ sym (vertex-wants mark a.said) in
          let g = good a d w vertex_counts in
          let n = taken a d w vertex_counts in
          let own : Own (put_mid base k vertices values) elements = record { vertex_length = s ∙ o.vertex_length; element_length = o.element_length } in
          record {
            own = own;
            vertex_front = take-put_mid_below base k vertices values base (omega arith) (omega (arith, vertex-few));
            element_front = refl;
            done = rw (← a.said) (record {
              line = line a d w vertex_counts;
              cut = its_cut a d w vertex_counts;
              some = omega arith;
              inside = omega arith;
              verdict = its_verdict g;
              own = own;
              vertex_table =
                  take-put_mid base k vertices values _ (omega (arith, size)) (omega (arith, vertex-few))
                  ∙ ap (λ (l : List ℤ). take base vertices ++ l) (d.says ∙ sym (vertex_added g));
              element_table = sym (append-nil _) ∙ ap (λ (l : List ℕ). take (element_width * state.elements) elements ++ l) (sym (no_element_added g));
            });
          }

  module _ (a : Allowed t rooms state mark ElementLine) (k : ℕ) (h : k ≡ element_width) (element : List ℕ)
      (e : ElementRead mark state (fields_in t) element rest)
    where
      element_counts : (p : Pieces) → bad_counts state ElementLine p ≡ false
      unfolding bad_counts
      element_counts p = refl

      pub element-few : element_width * state.elements + k ≤ length elements
      unfolding too_many
      element-few = omega (arith, leb-false element_limit state.elements a.few, o.element_length)

      element_size : length element ≡ k
      element_size =
          let w = wants-few mark in
          rw e.says (simp (length-append, length-replicate) (omega (arith, e.count)))

      pub element_quick : LineQuick t mark rooms state vertices elements (Some (length t - length rest)) vertices (put_mid (element_width * state.elements) k elements element)
      unfolding after_role
      element_quick =
          let base : ℕ = element_width * state.elements in
          let s = size_put base k elements element element-few element_size in
          let d = e.read in
          let w : length d.fields ≡ wants mark = sym (says_count d) ∙ e.count in
          let g = good a d w element_counts in
          let n = taken a d w element_counts in
          let own : Own vertices (put_mid base k elements element) = record { vertex_length = o.vertex_length; element_length = s ∙ o.element_length } in
          record {
            own = own;
            vertex_front = refl;
            element_front = take-put_mid_below base k elements element base (omega arith) (omega (arith, element-few));
            done = rw (← a.said) (record {
              line = line a d w element_counts;
              cut = its_cut a d w element_counts;
              some = omega arith;
              inside = omega arith;
              verdict = its_verdict g;
              own = own;
              vertex_table = sym (append-nil _) ∙ ap (λ (l : List ℤ). take (vertex_width * state.vertices) vertices ++ l) (sym (no_vertex_added g e.plain));
              element_table =
                  take-put_mid base k elements element _ (omega (arith, element_size)) (omega (arith, element-few))
                  ∙ ap (λ (l : List ℕ). take base elements ++ l)
                  (e.says ∙ rw d.says (sym (element_added g e.plain)));
            });
          }
