-- The table of faces in the code is the page's: what stands in it is a place of a face, and outside there is none. Every place is at most 8.
-- Assumes nothing.
use mathlib.Core.Path.{◌≡◌, refl, sym, ap, ◌∙◌}
use mathlib.Core.List.{List, [], ◌∷◌, map}
use Prim.Native.Nat.{ℕ, zero, suc, ◌≤◌, zero-le}
use lib.Dec.{T, leb}
use lib.ListN.{length, get_or, length-map, get_or-eq_default}
use Rattle.laws.specs.Words.{every}
use Rattle.solids.specs.declared.Solid.{Solid}
use Rattle.solids.specs.declared.Solid.TheVariants.{Tetrahedron, Pyramid, Prism, Hexahedron}
use Rattle.solids.specs.Solids.{Face, three, four, faces, face_count, face_corners, face_place, of_face}
use Rattle.places.specs.PlaceLoops.{padded, face_rows}
use Rattle.laws.proofs.TestLaws.{and_left, and_right}
use Rattle.solids.proofs.RowPlaces.{at_any}

-- ---- the faces

-- the place 0 behind a triangle is none
padded_at : (F : Face ℕ) (k : ℕ) → get_or (padded F) k 0 ≡ get_or (of_face F) k 0
padded_at (three p q r) zero = refl
padded_at (three p q r) (suc zero) = refl
padded_at (three p q r) (suc (suc zero)) = refl
padded_at (three p q r) (suc (suc (suc zero))) = refl
padded_at (three p q r) (suc (suc (suc (suc k)))) = refl
padded_at (four p q r s) k = refl

padded_in : (fs : List (Face ℕ)) (i k : ℕ) → get_or (get_or (map padded fs) i []) k 0 ≡ get_or (get_or (map of_face fs) i []) k 0
padded_in [] i k = refl
padded_in (F ∷ fs) zero k = padded_at F k
padded_in (F ∷ fs) (suc i) k = padded_in fs i k

padded_place : (s : Solid) (i k : ℕ) → get_or (get_or (face_rows s) i []) k 0 ≡ face_place s i k
unfolding face_place face_corners face_rows
padded_place s i k = padded_in (faces s) i k

pub found_place : (s : Solid) (i k : ℕ) {rows : List (List ℕ)} {row : List ℕ} {p : ℕ} → rows ≡ face_rows s → row ≡ get_or rows i [] → p ≡ get_or row k 0 → p ≡ face_place s i k
found_place s i k e f g = g ∙ ap (λ l. get_or l k 0) (f ∙ ap (λ l. get_or l i []) e) ∙ padded_place s i k

pub no_place : (s : Solid) (i k : ℕ) {rows : List (List ℕ)} → rows ≡ face_rows s → length rows ≤ i → 0 ≡ face_place s i k
no_place s i k {rows} e h = found_place s i k e (sym (get_or-eq_default rows [] h)) refl

pub padded_count : (s : Solid) → length (face_rows s) ≡ face_count s
unfolding face_rows
padded_count s = length-map (faces s) padded

-- ---- every place is at most 8

faces-fit : (s : Solid) → T (every (λ F. every (λ p. leb p 8) (of_face F)) (faces s))
faces-fit Tetrahedron = tt
faces-fit Pyramid = tt
faces-fit Prism = tt
faces-fit Hexahedron = tt

face_at : (fs : List (Face ℕ)) → T (every (λ F. every (λ p. leb p 8) (of_face F)) fs) → (i k : ℕ) → get_or (get_or (map of_face fs) i []) k 0 ≤ 8
face_at [] h i k = zero-le
face_at (F ∷ fs) h zero k = at_any (of_face F) (and_left (every (λ p. leb p 8) (of_face F)) (every (λ G. every (λ p. leb p 8) (of_face G)) fs) h) k
face_at (F ∷ fs) h (suc i) k = face_at fs (and_right (every (λ p. leb p 8) (of_face F)) (every (λ G. every (λ p. leb p 8) (of_face G)) fs) h) i k

pub face_place_small : (s : Solid) (i k : ℕ) → face_place s i k ≤ 8
unfolding face_place face_corners
face_place_small s i k = face_at (faces s) (faces-fit s) i k
