-- The cut in places: all that it reads of the vertex numbers is the lowest place and the turns of the far faces.
-- Assumes nothing.
use mathlib.Core.Path.{◌≡◌, sym, ◌∙◌, ap, ap₂, subst}
use mathlib.Core.Bool.{Bool, true, false, cond, not}
use mathlib.Core.List.{List, [], ◌∷◌, map}
use Prim.Native.Nat.{ℕ, suc, ◌<◌}
use lib.Dec.{eqb, T, lit<, eqb→eq}
use lib.ListN.{length}
use Rattle.laws.specs.Words.{distinct, every, keep, count, gather, lowest}
use Rattle.solids.specs.Solids.{Solid, tetrahedron, pyramid, prism, hexahedron, Face, three, four, Tet, element, corners, faces, at, opposite, on_face, on_tet, of_face, of_tet, holds}
use Rattle.solids.specs.Cut.{lowest_first, cut_face, on_diagonal, follow, to_first, five, in_order, far_faces, fan, first, bits_of, five_of, tets_of, cut}
use Rattle.solids.specs.Fit.{proper}
use Rattle.laws.proofs.TestLaws.{and_left, and_right, below, choices, at_choices}
use Rattle.solids.proofs.RenamingLaws.{cuts_at, bits_at, asked, keep_on, cuts_on, bits_on, follows_on}
use Rattle.solids.proofs.NumberingLaws.{number, number_inj, inside, at_place, at-number, faces-number, tets-number, lowest-place}

-- the faces, in places, that do not hold the place a
abbrev pub far : Solid → ℕ → List (Face ℕ)
far s a = keep (λ F. not (holds a F)) (faces s)

abbrev pub fan_at : Solid → ℕ → List ℕ → List (Tet ℕ)
fan_at s a ks = map (follow a) (cuts_at (far s a) ks)

abbrev pub five_at : ℕ → List (Tet ℕ)
five_at a = map (on_tet (at (to_first a))) five

-- the tetrahedra in places, from the lowest place and the turns of the far faces
abbrev pub shape : Solid → ℕ → List ℕ → List (Tet ℕ)
shape tetrahedron a ks = fan_at tetrahedron a ks
shape pyramid a ks = fan_at pyramid a ks
shape prism a ks = fan_at prism a ks
shape hexahedron a ks = cond (eqb (count (λ b. b) (bits_at (opposite a) (far hexahedron a) ks)) 0) (five_at a) (fan_at hexahedron a ks)

-- what an accepted element is
pub record Proper (s : Solid) (vs : List ℕ) : Type 0 where
  pub many : length vs ≡ corners s
  pub apart_all : T (distinct vs)

pub from_proper : (s : Solid) (vs : List ℕ) → T (proper (element s vs)) → Proper s vs
from_proper s vs h = record { many = eqb→eq (length vs) (corners s) (and_left (eqb (length vs) (corners s)) (distinct vs) h); apart_all = and_right (eqb (length vs) (corners s)) (distinct vs) h }

-- the turns that the numbers ask of the far faces
abbrev pub turns_of : Solid → List ℕ → List ℕ
turns_of s vs = map (asked (number vs)) (far s (first vs))

pub faces-inside : (s : Solid) → T (every (λ F. every (inside (corners s)) (of_face F)) (faces s))
faces-inside tetrahedron = tt
faces-inside pyramid = tt
faces-inside prism = tt
faces-inside hexahedron = tt

some-corners : (s : Solid) (vs : List ℕ) → length vs ≡ corners s → (n : ℕ) × (length vs ≡ suc n)
some-corners tetrahedron vs e = (3, e)
some-corners pyramid vs e = (4, e)
some-corners prism vs e = (5, e)
some-corners hexahedron vs e = (7, e)

module _ (s : Solid) (vs : List ℕ) (h : Proper s vs) where
  abbrev f : ℕ → ℕ
  f = number vs

  abbrev a : ℕ
  a = first vs

  f_inj : (p q : ℕ) → f p ≡ f q → p ≡ q
  f_inj = number_inj vs h.apart_all

  pub first-inside : T (inside (corners s) (first vs))
  first-inside = subst (λ (n : ℕ). T (inside n (first vs))) h.many (lowest-place (some-corners s vs h.many).0 vs (some-corners s vs h.many).1).1

  pub at_f : (p : ℕ) → T (inside (corners s) p) → at vs p ≡ number vs p
  at_f p l = at-number vs p (subst (λ (n : ℕ). T (inside n p)) (sym h.many) l)

  pub lowest_f : lowest vs ≡ number vs (first vs)
  lowest_f = sym (lowest-place (some-corners s vs h.many).0 vs (some-corners s vs h.many).1).0 ∙ at_f (first vs) first-inside

  pub faces_f : map (on_face (at vs)) (faces s) ≡ map (on_face (number vs)) (faces s)
  faces_f = faces-number vs (faces s) (subst (λ (n : ℕ). T (every (λ F. every (inside n) (of_face F)) (faces s))) (sym h.many) (faces-inside s))

  pub far_f : far_faces (element s vs) ≡ map (on_face (number vs)) (far s (first vs))
  far_f =
      ap₂ {C = List (Face ℕ)} (λ (v : ℕ) (fs : List (Face ℕ)). keep (λ F. not (holds v F)) fs) lowest_f faces_f
      ∙ keep_on (number vs) f_inj (first vs) (faces s)

  fan_f : fan (element s vs) ≡ map (on_tet (number vs)) (fan_at s (first vs) (turns_of s vs))
  fan_f =
      ap₂ {C = List (Tet ℕ)} (λ (v : ℕ) (fs : List (Face ℕ)). map (follow v) (gather cut_face fs)) lowest_f far_f
      ∙ ap (map (follow (number vs (first vs)))) (cuts_on (number vs) f_inj (far s (first vs)))
      ∙ follows_on (number vs) f_inj (first vs) (cuts_at (far s (first vs)) (turns_of s vs))

module _ (vs : List ℕ) (h : Proper hexahedron vs) where
  opposite_f : at vs (opposite (first vs)) ≡ number vs (opposite (first vs))
  opposite_f =
      at_f hexahedron vs h (opposite (first vs))
      (at_place 8 (λ p. inside 8 (opposite p)) tt (first vs) (first-inside hexahedron vs h))

  pub bits_f : bits_of vs ≡ bits_at (opposite (first vs)) (far hexahedron (first vs)) (turns_of hexahedron vs)
  bits_f =
      ap₂ {C = List Bool} (λ (v : ℕ) (fs : List (Face ℕ)). map (λ F. on_diagonal v (lowest_first F)) fs) opposite_f (far_f hexahedron vs h)
      ∙ bits_on (number vs) (f_inj hexahedron vs h) (opposite (first vs)) (far hexahedron (first vs))

  five_f : five_of vs ≡ map (on_tet (number vs)) (five_at (first vs))
  five_f =
      tets-number vs (five_at (first vs))
      (subst (λ (n : ℕ). T (every (λ t. every (inside n) (of_tet t)) (five_at (first vs)))) (sym h.many)
      (at_place 8 (λ p. every (λ t. every (inside 8) (of_tet t)) (five_at p)) tt (first vs) (first-inside hexahedron vs h)))

  choose : (b : Bool) → cond b (five_of vs) (fan (element hexahedron vs)) ≡ map (on_tet (number vs)) (cond b (five_at (first vs)) (fan_at hexahedron (first vs) (turns_of hexahedron vs)))
  choose true = five_f
  choose false = fan_f hexahedron vs h

-- THE READING: the tetrahedra of an element are those of its shape, renamed
pub tets_shape : (s : Solid) (vs : List ℕ) → Proper s vs → tets_of (element s vs) ≡ map (on_tet (number vs)) (shape s (first vs) (turns_of s vs))
tets_shape tetrahedron vs h = fan_f tetrahedron vs h
tets_shape pyramid vs h = fan_f pyramid vs h
tets_shape prism vs h = fan_f prism vs h
tets_shape hexahedron vs h = rw (bits_f vs h) (choose vs h (eqb (count (λ b. b) (bits_at (opposite (first vs)) (far hexahedron (first vs)) (turns_of hexahedron vs))) 0))

pub cut_shape : (s : Solid) (vs : List ℕ) → Proper s vs → cut (element s vs) ≡ in_order (map (on_tet (number vs)) (shape s (first vs) (turns_of s vs)))
unfolding cut
cut_shape s vs h = ap in_order (tets_shape s vs h)

-- A test over all shapes of a solid: each lowest place, each choice of turns of its far faces.
abbrev pub ways : Face ℕ → ℕ
ways (three p q r) = 1
ways (four p q r s) = 4

abbrev pub all_shapes : Solid → (ℕ → List ℕ → Bool) → Bool
all_shapes s t = below (corners s) (λ i. choices ways (far s (suc i)) (t (suc i)))

asked_ways : (f : ℕ → ℕ) (F : Face ℕ) → asked f F < ways F
asked_ways f (three p q r) = lit< tt
asked_ways f (four p q r s) = go (eqb (f p) m) (eqb (f q) m) (eqb (f r) m)
  where
    m : ℕ
    m = lowest (f p ∷ f q ∷ f r ∷ f s ∷ [])

    go : (x y z : Bool) → cond x 0 (cond y 1 (cond z 2 3)) < 4
    go true y z = lit< tt
    go false true z = lit< tt
    go false false true = lit< tt
    go false false false = lit< tt

pub at_shape : (s : Solid) (t : ℕ → List ℕ → Bool) → T (all_shapes s t) → (vs : List ℕ) → Proper s vs → T (t (first vs) (turns_of s vs))
at_shape s t p vs h =
    at_choices ways (asked (number vs)) (asked_ways (number vs)) (far s (first vs)) (t (first vs))
    (at_place (corners s) (λ a. choices ways (far s a) (t a)) p (first vs) (first-inside s vs h))
