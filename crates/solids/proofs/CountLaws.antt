-- How many tetrahedra a cut has: as many as the page says for an element, and at most six for each element of a mesh.
-- Assumes nothing.
use mathlib.Core.Path.{◌≡◌, refl, sym, ◌∙◌, ap}
use mathlib.Core.Bool.{Bool, true, false, cond}
use mathlib.Core.List.{List, [], ◌∷◌, map}
use Prim.Native.Nat.{ℕ, suc, ◌*◌, ◌≤◌, zero-le}
use native.Mathlib.Omega.{arith}
use lib.Dec.{eqb, T, eqb→eq, lit≤}
use lib.ListN.{length, length-append, length-map}
use Rattle.laws.specs.Words.{count, every, gather}
use Rattle.solids.specs.Solids.{Solid, tetrahedron, pyramid, prism, hexahedron, Tet, Element, element, opposite, on_tet, of_tet}
use Rattle.solids.specs.Cut.{first, through, how_many, written, up_to, insert, ascending, in_order, cut, cut_mesh}
use Rattle.solids.specs.Fit.{proper}
use Rattle.laws.proofs.TestLaws.{and_left, and_right}
use Rattle.solids.proofs.RenamingLaws.{bits_at}
use Rattle.solids.proofs.NumberingLaws.{number}
use Rattle.solids.proofs.ShapeLaws.{far, shape, Proper, from_proper, turns_of, bits_f, cut_shape, all_shapes, at_shape}

-- ---- order changes no number of tetrahedra

length-insert : (t : Tet ℕ) (us : List (Tet ℕ)) → length (insert t us) ≡ suc (length us)
length-insert t [] = refl
length-insert t (u ∷ us) = go (up_to (of_tet t) (of_tet u)) (length-insert t us)
  where
    go : (b : Bool) → length (insert t us) ≡ suc (length us) → length (cond b (t ∷ (u ∷ us)) (u ∷ insert t us)) ≡ suc (suc (length us))
    go true e = refl
    go false e = ap suc e

length-ascending : (ts : List (Tet ℕ)) → length (ascending ts) ≡ length ts
length-ascending [] = refl
length-ascending (t ∷ ts) = length-insert t (ascending ts) ∙ ap suc (length-ascending ts)

pub length-in_order : (ts : List (Tet ℕ)) → length (in_order ts) ≡ length ts
length-in_order ts = length-ascending (map written ts) ∙ length-map ts written

-- ---- an element

-- as many tetrahedra as a shape has: one test over all shapes of a solid
abbrev many_at : Solid → ℕ → List ℕ → ℕ
many_at tetrahedron a ks = 1
many_at pyramid a ks = 2
many_at prism a ks = 3
many_at hexahedron a ks = cond (eqb (count (λ b. b) (bits_at (opposite a) (far hexahedron a) ks)) 0) 5 6

abbrev many_ok : Solid → ℕ → List ℕ → Bool
many_ok s a ks = eqb (length (shape s a ks)) (many_at s a ks)

many_all : (s : Solid) → T (all_shapes s (many_ok s))
many_all tetrahedron = tt
many_all pyramid = tt
many_all prism = tt
many_all hexahedron = tt

many_is : (s : Solid) (vs : List ℕ) → Proper s vs → many_at s (first vs) (turns_of s vs) ≡ how_many (element s vs)
many_is tetrahedron vs h = refl
many_is pyramid vs h = refl
many_is prism vs h = refl
many_is hexahedron vs h = ap (λ (bs : List Bool). cond (eqb (count (λ b. b) bs) 0) 5 6) (sym (bits_f vs h))

pub cut-many : (s : Solid) (vs : List ℕ) → Proper s vs → length (cut (element s vs)) ≡ how_many (element s vs)
cut-many s vs h =
    ap length (cut_shape s vs h)
    ∙ length-in_order (map (on_tet (number vs)) t)
    ∙ length-map t (on_tet (number vs))
    ∙ eqb→eq (length t) (many_at s (first vs) (turns_of s vs)) (at_shape s (many_ok s) (many_all s) vs h)
    ∙ many_is s vs h
  where
    t : List (Tet ℕ)
    t = shape s (first vs) (turns_of s vs)

-- ---- a mesh

at_most_six : (e : Element) → how_many e ≤ 6
at_most_six (element tetrahedron vs) = lit≤ tt
at_most_six (element pyramid vs) = lit≤ tt
at_most_six (element prism vs) = lit≤ tt
at_most_six (element hexahedron vs) = go (eqb (through vs) 0)
  where
    go : (b : Bool) → cond b 5 6 ≤ 6
    go true = lit≤ tt
    go false = lit≤ tt

pub proper_six : (e : Element) → T (proper e) → length (cut e) ≤ 6
proper_six (element s vs) h = rw (cut-many s vs (from_proper s vs h)) (at_most_six (element s vs))

pub mesh_many : (es : List Element) → T (every proper es) → length (cut_mesh es) ≤ 6 * length es
unfolding cut_mesh
mesh_many [] h = zero-le
mesh_many (e ∷ es) h =
    let i = mesh_many es (and_right (proper e) (every proper es) h) in
    let k = proper_six e (and_left (proper e) (every proper es) h) in
    omega (arith, length-append (cut e) (gather cut es), i, k)
