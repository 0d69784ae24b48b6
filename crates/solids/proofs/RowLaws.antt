-- The 64 rows agree with the rule.
-- Assumes nothing.
use mathlib.Core.Path.{◌≡◌, refl, sym, ◌∙◌, ap, ap₂, subst}
use mathlib.Core.Bool.{Bool, true, false, ◌&&◌}
use mathlib.Core.List.{List, [], ◌∷◌, map}
use Prim.Native.Nat.{ℕ}
use lib.Dec.{eqb, T, eqb→eq}
use Rattle.laws.specs.Words.{every}
use Rattle.solids.specs.Solids.{hexahedron, Tet, tet, element, at, opposite, on_tet, of_tet}
use Rattle.solids.specs.Cut.{first, in_order, cut}
use Rattle.solids.specs.Surface.{eq_tet}
use Rattle.solids.specs.Rows.{hex_rows, row_places, row_tets, row_number, cut_by_row}
use Rattle.laws.proofs.TestLaws.{and_left, and_right}
use Rattle.solids.proofs.RenamingLaws.{bits_at, apart, same_places}
use Rattle.solids.proofs.NumberingLaws.{number, number_inj, inside, tets-number}
use Rattle.solids.proofs.ShapeLaws.{far, shape, Proper, turns_of, bits_f, cut_shape, all_shapes, at_shape}

-- two lists of tetrahedra are one
abbrev pub eq_tets : List (Tet ℕ) → List (Tet ℕ) → Bool
eq_tets [] [] = true
eq_tets [] (u ∷ us) = false
eq_tets (t ∷ ts) [] = false
eq_tets (t ∷ ts) (u ∷ us) = eq_tet t u && eq_tets ts us

pub eq_tet→eq : (t u : Tet ℕ) → T (eq_tet t u) → t ≡ u
eq_tet→eq (tet a b c d) (tet e f g h) p =
    let ae = eqb→eq a e (and_left (eqb a e) (eqb b f && (eqb c g && eqb d h)) p) in
    let q = and_right (eqb a e) (eqb b f && (eqb c g && eqb d h)) p in
    let bf = eqb→eq b f (and_left (eqb b f) (eqb c g && eqb d h) q) in
    let r = and_right (eqb b f) (eqb c g && eqb d h) q in
    let cg = eqb→eq c g (and_left (eqb c g) (eqb d h) r) in
    let dh = eqb→eq d h (and_right (eqb c g) (eqb d h) r) in
    cc

pub eq_tets→eq : (ts us : List (Tet ℕ)) → T (eq_tets ts us) → ts ≡ us
eq_tets→eq [] [] p = refl
eq_tets→eq [] (u ∷ us) p = absurd p
eq_tets→eq (t ∷ ts) [] p = absurd p
eq_tets→eq (t ∷ ts) (u ∷ us) p =
    ap₂ {C = List (Tet ℕ)} (λ x xs. x ∷ xs) (eq_tet→eq t u (and_left (eq_tet t u) (eq_tets ts us) p)) (eq_tets→eq ts us (and_right (eq_tet t u) (eq_tets ts us) p))

abbrev pub row_at : ℕ → List ℕ → List (Tet ℕ)
row_at a ks = row_tets (row_places (row_number a (bits_at (opposite a) (far hexahedron a) ks)))

-- the test, over each lowest place and each way of turning its far faces
abbrev places : List (Tet ℕ) → Bool
places = every (λ t. every (inside 8) (of_tet t))

abbrev agrees : ℕ → List ℕ → Bool
agrees a ks = let r = row_at a ks in let t = shape hexahedron a ks in eq_tets (in_order t) (in_order r) && (apart t && (apart r && places r))

all_agree : T (all_shapes hexahedron agrees)
unfolding row_places hex_rows
all_agree = tt

-- for every hexahedron with distinct vertex numbers: its row, in vertex numbers, is its cut
pub rows_agree : (vs : List ℕ) → Proper hexahedron vs → cut_by_row vs ≡ cut (element hexahedron vs)
unfolding cut_by_row
rows_agree vs h =
    ap (λ (bs : List Bool). in_order (map (on_tet (at vs)) (row_tets (row_places (row_number (first vs) bs))))) (bits_f vs h)
    ∙ ap in_order (tets-number vs r (subst (λ (n : ℕ). T (every (λ t. every (inside n) (of_tet t)) r)) (sym h.many) in_places))
    ∙ same_places (number vs) (number_inj vs h.apart_all) r t r_apart t_apart (sym (eq_tets→eq (in_order t) (in_order r) (and_left A B ok)))
    ∙ sym (cut_shape hexahedron vs h)
  where
    r : List (Tet ℕ)
    r = row_at (first vs) (turns_of hexahedron vs)

    t : List (Tet ℕ)
    t = shape hexahedron (first vs) (turns_of hexahedron vs)

    ok : T (agrees (first vs) (turns_of hexahedron vs))
    ok = at_shape hexahedron agrees all_agree vs h

    A : Bool
    A = eq_tets (in_order t) (in_order r)

    B : Bool
    B = apart t && (apart r && places r)

    t_apart : T (apart t)
    t_apart = and_left (apart t) (apart r && places r) (and_right A B ok)

    r_apart : T (apart r)
    r_apart = and_left (apart r) (places r) (and_right (apart t) (apart r && places r) (and_right A B ok))

    in_places : T (places r)
    in_places = and_right (apart r) (places r) (and_right (apart t) (apart r && places r) (and_right A B ok))
