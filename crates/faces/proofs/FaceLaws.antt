-- A face of an element by the places of the table of faces, and how an element's faces go on from it.
-- Assumes nothing.
use mathlib.Core.Path.{◌≡◌, refl, sym, ap, ◌∙◌}
use mathlib.Core.Bool.{Bool, true, false, cond, not}
use mathlib.Core.List.{List, [], ◌∷◌, map}
use Prim.Native.Nat.{ℕ, zero, suc, ◌<◌}
use lib.Dec.{T, eqb}
use lib.ListN.{length, get_or, drop, length-map}
use lib.Seq.{drop-cons}
use borrow.Author.Tests.{eq-eqb, ne_eqb, not-true}
use Rattle.laws.specs.Words.{every}
use Rattle.laws.proofs.TestLaws.{and_left, and_right, T_true}
use Rattle.solids.specs.declared.Solid.{Solid}
use Rattle.solids.specs.declared.Solid.TheVariants.{Tetrahedron, Pyramid, Prism, Hexahedron}
use Rattle.solids.specs.Solids.{Face, three, four, element, faces, face_count, face_corners, face_place, at, on_face, of_face, faces_of}

-- the face of three or four vertices; a fourth place 0 is none
abbrev cornered : (ℕ → ℕ) → ℕ → ℕ → ℕ → ℕ → Face ℕ
cornered f p q r s = cond (eqb s 0) (three (f p) (f q) (f r)) (four (f p) (f q) (f r) (f s))

-- the fourth place of a face is a place
abbrev fourth_ok : Face ℕ → Bool
fourth_ok (three p q r) = true
fourth_ok (four p q r s) = not (eqb s 0)

faces_ok_lem : (s : Solid) → T (every fourth_ok (faces s))
faces_ok_lem Tetrahedron = tt
faces_ok_lem Pyramid = tt
faces_ok_lem Prism = tt
faces_ok_lem Hexahedron = tt

abbrev place_in : List (Face ℕ) → ℕ → ℕ → ℕ
place_in fs i k = get_or (get_or (map of_face fs) i []) k 0

face_in : (vs : List ℕ) (fs : List (Face ℕ)) → T (every fourth_ok fs) → (i : ℕ)
    → cornered (at vs) (place_in fs i 0) (place_in fs i 1) (place_in fs i 2) (place_in fs i 3) ≡ get_or (map (on_face (at vs)) fs) i (three 0 0 0)
face_in vs [] h i = refl
face_in vs (three p q r ∷ fs) h zero = refl
face_in vs (four p q r s ∷ fs) h zero =
    let e : eqb s 0 ≡ false = not-true (eqb s 0) (T_true (not (eqb s 0)) (and_left (not (eqb s 0)) (every fourth_ok fs) h)) in
    rw e
face_in vs (F ∷ fs) h (suc i) = face_in vs fs (and_right (fourth_ok F) (every fourth_ok fs) h) i

module _ (s : Solid) (vs : List ℕ) (i : ℕ) where
  face_at : cornered (at vs) (face_place s i 0) (face_place s i 1) (face_place s i 2) (face_place s i 3) ≡ get_or (faces_of (element s vs)) i (three 0 0 0)
  unfolding face_place face_corners
  face_at = face_in vs (faces s) (faces_ok_lem s) i

  -- a face read place by place
  module _ {p q r l : ℕ} (hp : p ≡ at vs (face_place s i 0)) (hq : q ≡ at vs (face_place s i 1)) (hr : r ≡ at vs (face_place s i 2)) (hl : l ≡ face_place s i 3) where
    pub read_three : l ≡ 0 → three p q r ≡ get_or (faces_of (element s vs)) i (three 0 0 0)
    read_three z = rw (hp, hq, hr) (rw (eq-eqb (face_place s i 3) 0 (sym hl ∙ z)) at face_at)

    pub read_four : (l ≡ 0 → ⊥) → {x : ℕ} → x ≡ at vs l → four p q r x ≡ get_or (faces_of (element s vs)) i (three 0 0 0)
    read_four z hx = rw (hp, hq, hr, hx ∙ ap (at vs) hl) (rw (ne_eqb (face_place s i 3) 0 (λ e. z (hl ∙ e))) at face_at)

  face_inside : i < face_count s → i < length (faces_of (element s vs))
  face_inside h = rw (length-map (faces s) (on_face (at vs))) h

  -- the faces from i on are the face i, as `face_of` gives it, and those behind it
  pub faces_from : i < face_count s → {F : Face ℕ} → F ≡ get_or (faces_of (element s vs)) i (three 0 0 0)
      → drop i (faces_of (element s vs)) ≡ F ∷ drop (suc i) (faces_of (element s vs))
  faces_from h e =
      drop-cons (faces_of (element s vs)) i (three 0 0 0) (face_inside h)
      ∙ ap (λ F. F ∷ drop (suc i) (faces_of (element s vs))) (sym e)
