-- The search through the faces of an element by their numbers.
-- Assumes nothing.
use mathlib.Core.Path.{◌≡◌, refl, sym, ap, ◌∙◌}
use mathlib.Core.Bool.{Bool, ◌&&◌, ◌||◌}
use mathlib.Core.List.{List, [], ◌∷◌, map}
use Prim.Native.Nat.{ℕ}
use native.Mathlib.Omega.{arith}
use lib.ListN.{length, get_or, length-map}
use Rattle.std.specs.List.{range_with_len}
use Rattle.std.proofs.lemmas.List.{ext_get_or}
use Rattle.std.proofs.lemmas.List.FromFn.{get_or-map-range_with_len, length-map-range_with_len}
use Rattle.laws.specs.Words.{some}
use Rattle.solids.specs.declared.Solid.{Solid}
use Rattle.solids.specs.Solids.{Face, Element, three, element, faces, face_count, at, on_face, of_face, faces_of}
use Rattle.solids.specs.Rotations.{same_face}
use Rattle.solids.specs.Fit.{same_set, back_face}

-- the vertices are all those of the face, whose cycle read backwards is that of a face of the element
abbrev pub shared : List ℕ → Element → Face ℕ → Bool
shared vs x F = same_set vs (of_face F) && some (same_face (back_face F)) (faces_of x)

-- the face i of an element
abbrev pub nth_face : Element → ℕ → Face ℕ
nth_face e i = get_or (faces_of e) i (three 0 0 0)

pub face_many : (s : Solid) (vs : List ℕ) → length (faces_of (element s vs)) ≡ face_count s
face_many s vs = length-map (faces s) (on_face (at vs))

some-map : {A B : Type 0} (p : B → Bool) (f : A → B) (xs : List A) → some p (map f xs) ≡ some (λ x. p (f x)) xs
some-map p f [] = refl
some-map p f (x ∷ xs) = ap (λ (b : Bool). p (f x) || b) (some-map p f xs)

-- a test of all numbers of faces is a test of all faces
pub some_faces : (t : Face ℕ → Bool) (e : Element) → some (λ i. t (nth_face e i)) (range_with_len 0 (length (faces_of e))) ≡ some t (faces_of e)
some_faces t e =
    sym (some-map t (nth_face e) (range_with_len 0 (length (faces_of e))))
    ∙ ap (some t)
    (ext_get_or (three 0 0 0) (map (nth_face e) (range_with_len 0 (length (faces_of e)))) (faces_of e) (length-map-range_with_len (nth_face e) 0 (length (faces_of e)))
    (λ i h. get_or-map-range_with_len (nth_face e) 0 (length (faces_of e)) i i (three 0 0 0) (rw (length-map-range_with_len (nth_face e) 0 (length (faces_of e))) at h) (omega arith)))
