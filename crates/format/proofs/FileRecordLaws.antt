-- Laws of records: the records of a line stand after those of the lines before it.
-- Each law is stated once, over the records of a table and where they begin, and holds of both tables.
-- Assumes nothing.
use Prim.Native.Nat.{ℕ, ◌+◌, ◌*◌, ◌≤◌}
use native.Mathlib.Omega.{arith}
use mathlib.Core.Path.{◌≡◌, refl, sym, ◌∙◌}
use mathlib.Core.Bool.{Bool, true, false}
use mathlib.Core.List.{List, [], ◌∷◌, ◌++◌, map, append_assoc}
use lib.ListN.{length, take, get_or}
use lib.Seq.{sets}
use Rattle.limits.specs.Limits.{line_end, vertex_width, element_width, corner_width}
use Rattle.laws.specs.Pieces.{piece, split}
use Rattle.laws.proofs.LentLaws.{placed-sets, take-placed}
use Rattle.format.specs.Number.{thousandths_of}
use Rattle.format.specs.Line.{mark_of, role_of, fields_of, numbers_of, after_role, after}
use Rattle.format.specs.Records.{vertex_record, tip_first, corner_fields, element_record, vertex_records, element_records, records_from}
use Rattle.format.specs.declared.Role.{Role}
use Rattle.format.specs.declared.Role.TheVariants.{VertexLine, ElementLine, EndLine, UnknownLine}
use Rattle.format.specs.declared.ReaderState.{ReaderState}
use Rattle.format.proofs.FieldLaws.{length-first}

-- ---- where the records of a table begin

abbrev pub vertex_place : ReaderState → ℕ
vertex_place state = vertex_width * state.vertices

abbrev pub element_place : ReaderState → ℕ
element_place state = element_width * state.elements

-- the state after a line stands where its records end
vertex_role : (state : ReaderState) (role : Role) (l : List ℕ)
    → vertex_place (after_role state role) ≡ vertex_place state + length (vertex_records state role l)
unfolding after_role vertex_records vertex_record
vertex_role state VertexLine l = rw (length-first thousandths_of vertex_width (fields_of l)) (omega arith)
vertex_role state ElementLine l = omega arith
vertex_role state EndLine l = omega arith
vertex_role state UnknownLine l = omega arith

eight : (f : ℕ → ℕ) (b : Bool) → length (map f (corner_fields b)) ≡ corner_width
eight f true = refl
eight f false = refl

element_role : (state : ReaderState) (role : Role) (l : List ℕ)
    → element_place (after_role state role) ≡ element_place state + length (element_records state role l)
unfolding after_role element_records element_record
element_role state VertexLine l = omega arith
element_role state ElementLine l = rw (eight (λ k. get_or (numbers_of (fields_of l)) k 0) (tip_first (mark_of l))) (omega arith)
element_role state EndLine l = omega arith
element_role state UnknownLine l = omega arith

pub vertex_grows : (state : ReaderState) (l : List ℕ)
    → vertex_place (after state l) ≡ vertex_place state + length (vertex_records state (role_of (mark_of l)) l)
unfolding after
vertex_grows state l = vertex_role state (role_of (mark_of l)) l

pub element_grows : (state : ReaderState) (l : List ℕ)
    → element_place (after state l) ≡ element_place state + length (element_records state (role_of (mark_of l)) l)
unfolding after
element_grows state l = element_role state (role_of (mark_of l)) l

-- eight numbers, taken one by one
pub corners-plain : (l : List ℕ) → length l ≡ corner_width → map (λ k. get_or l k 0) (corner_fields false) ≡ l
corners-plain [] h = absurd (omega arith)
corners-plain (a ∷ []) h = absurd (omega arith)
corners-plain (a ∷ b ∷ []) h = absurd (omega arith)
corners-plain (a ∷ b ∷ c ∷ []) h = absurd (omega arith)
corners-plain (a ∷ b ∷ c ∷ d ∷ []) h = absurd (omega arith)
corners-plain (a ∷ b ∷ c ∷ d ∷ e ∷ []) h = absurd (omega arith)
corners-plain (a ∷ b ∷ c ∷ d ∷ e ∷ f ∷ []) h = absurd (omega arith)
corners-plain (a ∷ b ∷ c ∷ d ∷ e ∷ f ∷ g ∷ []) h = absurd (omega arith)
corners-plain (a ∷ b ∷ c ∷ d ∷ e ∷ f ∷ g ∷ i ∷ []) h = refl
corners-plain (a ∷ b ∷ c ∷ d ∷ e ∷ f ∷ g ∷ i ∷ j ∷ l) h = absurd (omega arith)

-- ---- a line's records kept after those before it

module _ {A : Type 0} where
  -- the front of a table in which records were stored
  pub kept-front : (old new records : List A) (at next : ℕ) → new ≡ sets old at records → next ≡ at + length records → next ≤ length old
      → take next new ≡ take at old ++ records
  kept-front old new records at next e q h =
      let j : at + length records ≤ length old = omega arith in
      rw (q, e, placed-sets old at records j) (take-placed old at records j)

  -- nothing is left to add
  pub records_none : (records : ReaderState → Role → List ℕ → List A) (state : ReaderState) (t : List ℕ) → length t ≤ 0
      → records_from records state (split line_end t) ≡ []
  unfolding records_from split
  records_none records state [] h = refl
  records_none records state (x ∷ t) h = absurd (omega arith)

  -- what was kept before a line and its own record, then those of the lines behind it, in the state after it
  pub records_line : (records : ReaderState → Role → List ℕ → List A) (whole front front' : List A) (state next : ReaderState) (t u l : List ℕ)
      → split line_end t ≡ piece l (split line_end u) → next ≡ after state l
      → front' ≡ front ++ records state (role_of (mark_of l)) l
      → whole ≡ front ++ records_from records state (split line_end t)
      → whole ≡ front' ++ records_from records next (split line_end u)
  unfolding records_from
  records_line records whole front front' state next t u l c q e w =
      w ∙ rw (c, e, q) (sym (append_assoc front (records state (role_of (mark_of l)) l) (records_from records (after state l) (split line_end u))))
