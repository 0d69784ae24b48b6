-- Only the diagonal of a far face counts, and not from which of its ends it is cut: 64 shapes instead of 512.
-- Assumes nothing.
use mathlib.Core.Path.{◌≡◌, refl, ◌∙◌, ap}
use mathlib.Core.Bool.{Bool, true, false, cond, ◌&&◌}
use mathlib.Core.List.{List, [], ◌∷◌, map, map-map}
use Prim.Native.Nat.{ℕ, zero, suc, ◌<◌}
use native.Mathlib.Omega.{arith}
use lib.Dec.{eqb, T, lit<}
use Rattle.laws.specs.Words.{lowest}
use Rattle.solids.specs.Solids.{Solid, tetrahedron, pyramid, prism, hexahedron, Face, three, four, Tri, tri, Tet, element, corners, on_tet}
use Rattle.solids.specs.Cut.{first, in_order, cut, turned, halves}
use Rattle.solids.specs.Surface.{times}
use Rattle.laws.proofs.TestLaws.{and_left, and_right, below, choices, at_choices}
use Rattle.solids.proofs.RenamingLaws.{asked, apart, same_places}
use Rattle.solids.proofs.NumberingLaws.{number, number_inj, at_place}
use Rattle.solids.proofs.ShapeLaws.{far, shape, Proper, turns_of, first-inside, cut_shape, all_shapes, at_shape}
use Rattle.solids.proofs.RowLaws.{eq_tets, eq_tets→eq}
use Rattle.solids.proofs.TurnLaws.{half}
use Rattle.solids.proofs.SideLaws.{s1, s2, same_right}

-- Only the diagonal of a far face counts, and not from which of its ends it is cut.
abbrev pub half_ok : Solid → ℕ → List ℕ → Bool
half_ok s a ks = let t = shape s a ks in let u = shape s a (map half ks) in eq_tets (in_order t) (in_order u) && (apart t && apart u)

pub all_half : (s : Solid) → T (all_shapes s (half_ok s))
all_half tetrahedron = tt
all_half pyramid = tt
all_half prism = tt
all_half hexahedron = tt

abbrev pub two_ways : Face ℕ → ℕ
two_ways (three p q r) = 1
two_ways (four p q r s) = 2

abbrev pub all_halves : Solid → (ℕ → List ℕ → Bool) → Bool
all_halves s t = below (corners s) (λ i. choices two_ways (far s (suc i)) (t (suc i)))

pub two_ways_lem : (f : ℕ → ℕ) (F : Face ℕ) → half (asked f F) < two_ways F
two_ways_lem f (three p q r) = lit< tt
two_ways_lem f (four p q r s) = go (eqb (f p) m) (eqb (f q) m) (eqb (f r) m)
  where
    m : ℕ
    m = lowest (f p ∷ f q ∷ f r ∷ f s ∷ [])

    go : (x y z : Bool) → half (cond x 0 (cond y 1 (cond z 2 3))) < 2
    go true y z = lit< tt
    go false true z = lit< tt
    go false false true = lit< tt
    go false false false = lit< tt

-- the cut, with the diagonals alone
module _ (s : Solid) (vs : List ℕ) (h : Proper s vs) where
  unfoldable pub ways_of : List ℕ
  ways_of = map (λ F. half (asked (number vs) F)) (far s (first vs))

  pub cut_half : cut (element s vs) ≡ in_order (map (on_tet (number vs)) (shape s (first vs) ways_of))
  unfolding ways_of
  cut_half =
      cut_shape s vs h
      ∙ same_places (number vs) (number_inj vs h.apart_all) t u (and_left (apart t) (apart u) rest) (and_right (apart t) (apart u) rest)
      (eq_tets→eq (in_order t) (in_order u) (and_left (eq_tets (in_order t) (in_order u)) (apart t && apart u) ok))
      ∙ ap (λ (hs : List ℕ). in_order (map (on_tet (number vs)) (shape s (first vs) hs))) (map-map half (asked (number vs)) (far s (first vs)))
    where
      ks : List ℕ
      ks = turns_of s vs

      t : List (Tet ℕ)
      t = shape s (first vs) ks

      u : List (Tet ℕ)
      u = shape s (first vs) (map half ks)

      ok : T (half_ok s (first vs) ks)
      ok = at_shape s (half_ok s) (all_half s) vs h

      rest : T (apart t && apart u)
      rest = and_right (eq_tets (in_order t) (in_order u)) (apart t && apart u) ok

  pub at_half : (t : ℕ → List ℕ → Bool) → T (all_halves s t) → T (t (first vs) ways_of)
  unfolding ways_of
  at_half t p =
      at_choices two_ways (λ F. half (asked (number vs) F)) (two_ways_lem (number vs)) (far s (first vs)) (t (first vs))
      (at_place (corners s) (λ a. choices two_ways (far s a) (t a)) p (first vs) (first-inside s vs h))

-- the triangles of a face turned by k are those of the face turned by half k
module _ (t : Tri ℕ) where
  twice_turned : (p q r s : ℕ) → times t (halves (four r s p q)) ≡ times t (halves (four p q r s))
  twice_turned p q r s =
      let x = ap {B = ℕ} (λ k. cond k 1 0) (same_right t {u = tri p q r} {v = tri r p q} (s2 refl)) in
      let y = ap {B = ℕ} (λ k. cond k 1 0) (same_right t {u = tri p r s} {v = tri r s p} (s1 refl)) in
      omega arith

  pub half_turned : (k : ℕ) (F : Face ℕ) → times t (halves (turned k F)) ≡ times t (halves (turned (half k) F))
  half_turned k (three p q r) = refl
  half_turned zero (four p q r s) = refl
  half_turned (suc zero) (four p q r s) = refl
  half_turned (suc (suc k)) (four p q r s) = half_turned k (four r s p q) ∙ again k
    where
      again : (j : ℕ) → times t (halves (turned (half j) (four r s p q))) ≡ times t (halves (turned (half j) (four p q r s)))
      again zero = twice_turned p q r s
      again (suc zero) = twice_turned q r s p
      again (suc (suc j)) = again j
