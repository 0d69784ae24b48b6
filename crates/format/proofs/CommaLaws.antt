-- An accepted file holds no comma: a line's mark, its spaces and its fields hold none.
-- Assumes nothing.
use Prim.Native.Nat.{ℕ}
use native.Mathlib.Omega.{arith}
use mathlib.Core.Path.{◌≡◌, refl, sym, ◌∙◌}
use mathlib.Core.Bool.{Bool, true, false, cond, ◌&&◌, true≢false}
use mathlib.Core.List.{List, [], ◌∷◌}
use lib.Dec.{eqb, leb}
use lib.ListN.{length, get_or}
use lib.IntN.{ℤ}
use borrow.Author.Tests.{eqb-true, not-false}
use Rattle.std.specs.Prelude.{Option, Some, None, Result, Ok, Err}
use Rattle.limits.specs.Limits.{line_end, space, comma, digit0, number_digits, mark_width}
use Rattle.laws.specs.Pieces.{Pieces, rest, piece, push, split}
use Rattle.laws.proofs.PieceLaws.{Free}
use Rattle.faults.specs.Refusals.{accepted}
use Rattle.faults.specs.declared.Fault.{Fault}
use Rattle.faults.specs.declared.Fault.TheVariants as fault
use Rattle.format.specs.Number.{cut, spelt, whole, number_of, coordinate_of}
use Rattle.format.specs.Line.{mark_with, mark_of, role_of, wants, fields_of, are_fields, first, judge_coordinate, judge_count, judge_vertex, field_verdict, fields_verdict, bad_mark, bad_shape, after}
use Rattle.format.specs.File.{file_verdict}
use Rattle.format.specs.declared.Mark.{Mark}
use Rattle.format.specs.declared.Mark.TheVariants.{Unknown}
use Rattle.format.specs.declared.Role.{Role}
use Rattle.format.specs.declared.Role.TheVariants.{VertexLine, ElementLine, EndLine, UnknownLine}
use Rattle.format.specs.declared.ReaderState.{ReaderState}
use Rattle.format.specs.declared.Rooms.{Rooms}
use Rattle.format.proofs.CutLaws.{uncut_free}
use Rattle.format.proofs.NumberLaws.{no_number, spelt_above, above_free}
use Rattle.format.proofs.MarkLaws.{comma-first, comma-second}
use Rattle.format.proofs.FileLaws.{Taken, accepted-holds}

-- ---- a text and its pieces

-- b stands in no piece
abbrev pub FreePieces : ℕ → Pieces → Type 0
FreePieces b (rest l) = Free b l
FreePieces b (piece l p) = Free b l × FreePieces b p

module _ (s b : ℕ) (n : s ≡ b → ⊥) where
  push_free : (x : ℕ) (p : Pieces) → FreePieces b (push x p) → (x ≡ b → ⊥) × FreePieces b p
  unfolding push
  push_free x (rest l) f = f
  push_free x (piece l p) f = (f.0.0, (f.0.1, f.1))

  first_free : (x : ℕ) (t : List ℕ) → (FreePieces b (split s t) → Free b t) → (q : Bool) → eqb x s ≡ q
      → FreePieces b (cond q (piece [] (split s t)) (push x (split s t))) → Free b (x ∷ t)
  first_free x t ih true e f = (λ z. n (sym (eqb-true x s e) ∙ z), ih f.1)
  first_free x t ih false e f = let h = push_free x (split s t) f in (h.0, ih h.1)

  -- where b is not the separator and stands in no piece, it stands nowhere
  pub pieces_free : (t : List ℕ) → FreePieces b (split s t) → Free b t
  unfolding split
  pieces_free [] f = tt
  pieces_free (x ∷ t) f = first_free x t (pieces_free t) (eqb x s) refl f

-- ---- a field

no_pass : {X : Type 0} (f : Fault) → Err f ≡ Ok (tt {0}) → X
no_pass f h = let z : ◌≡◌ {A = ℕ} 0 1 = cc in absurd (omega arith)

-- digits are no comma
spelt_free : (n m : ℕ) (l : List ℕ) → spelt n l ≡ Some m → Free comma l
spelt_free n m l h = above_free digit0 comma l (omega arith) (spelt_above n m l h)

zero_free : (l : List ℕ) → eqb (get_or l 0 0) digit0 ≡ true → eqb (length l) 1 ≡ true → Free comma l
zero_free [] e h = tt
zero_free (x ∷ []) e h = let z = eqb-true x digit0 e in (λ q. omega arith, tt)
zero_free (x ∷ y ∷ l) e h = let z = eqb-true (length (x ∷ y ∷ l)) 1 h in absurd (omega arith)

-- a vertex number or count holds no comma
number_free : (n : ℕ) (l : List ℕ) → number_of l ≡ Some n → Free comma l
unfolding number_of whole
number_free n l = by (eqb (length l) 0) (eqb (get_or l 0 0) digit0) (eqb (length l) 1) (leb (length l) number_digits) refl refl
  where
    by : (a b c d : Bool) → eqb (get_or l 0 0) digit0 ≡ b → eqb (length l) 1 ≡ c
        → cond a None (cond b (cond c (Some 0) None) (cond d (spelt 0 l) None)) ≡ Some n → Free comma l
    by true b c d p q h = no_number n h
    by false true true d p q h = zero_free l p q
    by false true false d p q h = no_number n h
    by false false c true p q h = spelt_free 0 n l h
    by false false c false p q h = no_number n h

wrong_where : (a : Bool) (f : Fault) (c : Result ℤ Fault) → judge_coordinate (cond a (Err f) c) ≡ Ok tt → a ≡ false
wrong_where true f c h = no_pass f h
wrong_where false f c h = refl

-- a coordinate that passes holds no comma
coordinate_free : (l : List ℕ) → judge_coordinate (coordinate_of l) ≡ Ok tt → Free comma l
unfolding coordinate_of
coordinate_free l h = uncut_free comma l (wrong_where (cut (split comma l)) _ _ h)

count_free : (l : List ℕ) (a : Option ℕ) → number_of l ≡ a → judge_count a ≡ Ok tt → Free comma l
count_free l (Some n) e h = number_free n l e
count_free l None e h = no_pass fault.Number h

vertex_free : (count : ℕ) (l : List ℕ) (a : Option ℕ) → number_of l ≡ a → judge_vertex count a ≡ Ok tt → Free comma l
vertex_free count l (Some n) e h = number_free n l e
vertex_free count l None e h = no_pass fault.Number h

module _ (state : ReaderState) where
  -- a field that passes holds no comma
  field_free : (role : Role) (l : List ℕ) → bad_mark state role ≡ false → field_verdict state role l ≡ Ok tt → Free comma l
  unfolding bad_mark field_verdict
  field_free VertexLine l k h = coordinate_free l h
  field_free ElementLine l k h = vertex_free state.vertices l (number_of l) refl h
  field_free EndLine l k h = count_free l (number_of l) refl h
  field_free UnknownLine l k h = absurd (true≢false k)

  more_free : (role : Role) (l : List ℕ) (p : Pieces) → bad_mark state role ≡ false
      → (fields_verdict state role p ≡ Ok tt → FreePieces comma p) → (j : Result (Unit {0}) Fault) → field_verdict state role l ≡ j
      → first j (fields_verdict state role p) ≡ Ok tt → Free comma l × FreePieces comma p
  more_free role l p k ih (Ok tt) e h = (field_free role l k e, ih h)
  more_free role l p k ih (Err f) e h = no_pass f h

  fields_free : (role : Role) (p : Pieces) → bad_mark state role ≡ false → fields_verdict state role p ≡ Ok tt → FreePieces comma p
  unfolding fields_verdict
  fields_free role (rest l) k h = field_free role l k h
  fields_free role (piece l p) k h = more_free role l p k (λ q. fields_free role p k q) (field_verdict state role l) refl h

  -- ---- a line

  unknown : {X : Type 0} (m : Mark) → m ≡ Unknown → bad_mark state (role_of m) ≡ false → X
  unfolding bad_mark
  unknown m e k = absurd (true≢false (rw e at k))

  apart : space ≡ comma → ⊥
  apart e = omega arith

  parts_free : (l : List ℕ) → get_or l mark_width 0 ≡ space → bad_mark state (role_of (mark_of l)) ≡ false
      → FreePieces comma (fields_of l) → Free comma l
  unfolding mark_of fields_of
  parts_free [] e k f = tt
  parts_free (a ∷ []) e k f = absurd (omega arith)
  parts_free (a ∷ b ∷ []) e k f = absurd (omega arith)
  parts_free (a ∷ b ∷ c ∷ l) e k f = (
    λ z. unknown (mark_with a b) (comma-first a b z) k,
    (
      λ z. unknown (mark_with a b) (comma-second a b z) k,
      (λ z. apart (sym e ∙ z), pieces_free space comma apart l f),
    ),
  )

  spaced : (n : ℕ) (l : List ℕ) → bad_shape n l ≡ false → get_or l mark_width 0 ≡ space
  unfolding bad_shape
  spaced n l h = eqb-true (get_or l mark_width 0) space (both (eqb (get_or l mark_width 0) space) (are_fields n (fields_of l)) (not-false _ h))
    where
      both : (a b : Bool) → (a && b) ≡ true → a ≡ true
      both true b q = refl
      both false b q = q

  line_free : (rooms : Rooms) (l : List ℕ) (next : ReaderState) → Taken rooms state l next → Free comma l
  line_free rooms l next t =
      parts_free l (spaced (wants (mark_of l)) l t.shaped) t.known (fields_free (role_of (mark_of l)) (fields_of l) t.known t.passed)

-- ---- a file

pub file_free : (rooms : Rooms) (cs file : List ℕ) → file_verdict rooms file ≡ accepted cs → Free comma file
file_free rooms cs file e =
    pieces_free line_end comma (λ z. omega arith) file
    (accepted-holds rooms cs (λ state p. FreePieces comma p) (λ state q. tt) (λ state l p t f. (line_free state rooms l (after state l) t, f)) file e).1
