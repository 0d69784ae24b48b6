-- On the reference solid every tetrahedron of a cut is positive and together they fill it: from the test on places to all vertex numbers.
-- Assumes nothing.
use mathlib.Core.Path.{◌≡◌, refl, sym, ◌∙◌, ap, subst}
use mathlib.Core.Bool.{Bool, true, false, cond, ◌&&◌}
use mathlib.Core.List.{List, [], ◌∷◌, map}
use Prim.Native.Nat.{ℕ}
use lib.Dec.{T, eqb→eq}
use lib.IntN.{ℤ, pos, negsuc, ◌+ℤ◌, +ℤ_assoc, +ℤ_comm}
use Rattle.laws.specs.Words.{every}
use Rattle.solids.specs.Solids.{Solid, Tet, tet, element, corners, on_tet, of_tet}
use Rattle.solids.specs.Cut.{place_of, first, written, up_to, insert, ascending}
use Rattle.solids.specs.Reference.{volume_on, positive, reference_volume, add_up, standing, Filled}
use Rattle.laws.proofs.TestLaws.{and_both, and_left, and_right}
use Rattle.solids.proofs.NumberingLaws.{number, number_inj, inside, at-number, place_of-at}
use Rattle.solids.proofs.ShapeLaws.{shape, Proper}
use Rattle.solids.proofs.HalfLaws.{ways_of, cut_half, at_half}
use Rattle.solids.proofs.FaceFacts.{number-among}
use Rattle.solids.proofs.EvenReorderings.{evens, written_even_too}
use Rattle.solids.proofs.ReferenceTest.{same_z, tet_ok, shape_ok, shapes_fill}

pub same_Z : (a b : ℤ) → T (same_z a b) → a ≡ b
same_Z (pos a) (pos b) h = ap pos (eqb→eq a b h)
same_Z (pos a) (negsuc b) h = absurd h
same_Z (negsuc a) (pos b) h = absurd h
same_Z (negsuc a) (negsuc b) h = ap negsuc (eqb→eq a b h)

-- ---- what holds of tetrahedra in any order holds of them in ascending order

module _ (P : Tet ℕ → Bool) where
  every-insert : (t : Tet ℕ) (us : List (Tet ℕ)) → T (P t) → T (every P us) → T (every P (insert t us))
  every-insert t [] p h = and_both (P t) true p tt
  every-insert t (u ∷ us) p h = go (up_to (of_tet t) (of_tet u)) (every-insert t us p (and_right (P u) (every P us) h))
    where
      go : (b : Bool) → T (every P (insert t us)) → T (every P (cond b (t ∷ (u ∷ us)) (u ∷ insert t us)))
      go true i = and_both (P t) (every P (u ∷ us)) p h
      go false i = and_both (P u) (every P (insert t us)) (and_left (P u) (every P us) h) i

  every-ascending : (ts : List (Tet ℕ)) → T (every P ts) → T (every P (ascending ts))
  every-ascending [] h = tt
  every-ascending (t ∷ ts) h = every-insert t (ascending ts) (and_left (P t) (every P ts) h) (every-ascending ts (and_right (P t) (every P ts) h))

module _ (g : Tet ℕ → ℤ) where
  exchange : (a b c : ℤ) → a +ℤ (b +ℤ c) ≡ b +ℤ (a +ℤ c)
  exchange a b c = sym (+ℤ_assoc a b c) ∙ ap (λ (z : ℤ). z +ℤ c) (+ℤ_comm a b) ∙ +ℤ_assoc b a c

  add_insert : (t : Tet ℕ) (us : List (Tet ℕ)) → add_up g (insert t us) ≡ g t +ℤ add_up g us
  add_insert t [] = refl
  add_insert t (u ∷ us) = go (up_to (of_tet t) (of_tet u)) (add_insert t us)
    where
      go : (b : Bool) → add_up g (insert t us) ≡ g t +ℤ add_up g us → add_up g (cond b (t ∷ (u ∷ us)) (u ∷ insert t us)) ≡ g t +ℤ (g u +ℤ add_up g us)
      go true e = refl
      go false e = ap (λ (z : ℤ). g u +ℤ z) e ∙ exchange (g u) (g t) (add_up g us)

  add_ascending : (ts : List (Tet ℕ)) → add_up g (ascending ts) ≡ add_up g ts
  add_ascending [] = refl
  add_ascending (t ∷ ts) = add_insert t (ascending ts) ∙ ap (λ (z : ℤ). g t +ℤ z) (add_ascending ts)

module _ (s : Solid) (vs : List ℕ) (h : Proper s vs) where
  f : ℕ → ℕ
  f = number vs

  -- the vertex that stands at a place of the element has that place
  place-back : (p : ℕ) → T (inside (corners s) p) → place_of (number vs p) vs ≡ p
  place-back p i =
      let x = place_of-at (number vs p) vs (number-among s vs h p i) in
      number_inj vs h.apart_all (place_of (number vs p) vs) p (sym (at-number vs (place_of (number vs p) vs) x.1) ∙ x.0)

  tet-back : (t : Tet ℕ) → T (every (inside (corners s)) (of_tet t)) → on_tet (λ p. place_of (number vs p) vs) t ≡ t
  tet-back (tet a b c d) i =
      let n = inside (corners s) in
      let ib = and_right (n a) (n b && (n c && (n d && true))) i in
      let ic = and_right (n b) (n c && (n d && true)) ib in
      let id = and_right (n c) (n d && true) ic in
      let ea = place-back a (and_left (n a) (n b && (n c && (n d && true))) i) in
      let eb = place-back b (and_left (n b) (n c && (n d && true)) ib) in
      let ec = place-back c (and_left (n c) (n d && true) ic) in
      let ed = place-back d (and_left (n d) true id) in
      cc

  -- a test of all even reorderings, on vertices and on places
  evens_back : (z : ℤ) (t : Tet ℕ) → T (every (λ u. same_z (volume_on s u) z) (evens (on_tet (λ p. place_of (number vs p) vs) t)))
      → T (every (λ u. same_z (standing (element s vs) u) z) (evens (on_tet (number vs) t)))
  unfolding standing
  evens_back z (tet a b c d) k = k

  -- the written tetrahedron has the volume of its places
  stands : (t : Tet ℕ) → T (tet_ok s t) → standing (element s vs) (written (on_tet (number vs) t)) ≡ volume_on s t
  stands t k =
      let z = volume_on s t in
      let e = every (λ u. same_z (volume_on s u) z) (evens t) in
      let i = every (inside (corners s)) (of_tet t) in
      let r = and_right (positive z) (e && i) k in
      same_Z (standing (element s vs) (written (on_tet (number vs) t))) z
      (written_even_too (λ u. same_z (standing (element s vs) u) z) (on_tet (number vs) t)
      (evens_back z t
      (subst (λ (x : Tet ℕ). T (every (λ u. same_z (volume_on s u) z) (evens x))) (sym (tet-back t (and_right e i r))) (and_left e i r))))

  each_stands : (ts : List (Tet ℕ)) → T (every (tet_ok s) ts) → T (every (λ t. positive (standing (element s vs) t)) (map written (map (on_tet (number vs)) ts)))
  each_stands [] k = tt
  each_stands (t ∷ ts) k =
      let k₁ = and_left (tet_ok s t) (every (tet_ok s) ts) k in
      and_both (positive (standing (element s vs) (written (on_tet (number vs) t)))) (every (λ u. positive (standing (element s vs) u)) (map written (map (on_tet (number vs)) ts)))
      (subst (λ (z : ℤ). T (positive z)) (sym (stands t k₁)) (and_left (positive (volume_on s t)) (every (λ u. same_z (volume_on s u) (volume_on s t)) (evens t) && every (inside (corners s)) (of_tet t)) k₁))
      (each_stands ts (and_right (tet_ok s t) (every (tet_ok s) ts) k))

  sum_stands : (ts : List (Tet ℕ)) → T (every (tet_ok s) ts) → add_up (standing (element s vs)) (map written (map (on_tet (number vs)) ts)) ≡ add_up (volume_on s) ts
  sum_stands [] k = refl
  sum_stands (t ∷ ts) k =
      let x = stands t (and_left (tet_ok s t) (every (tet_ok s) ts) k) in
      let y = sum_stands ts (and_right (tet_ok s t) (every (tet_ok s) ts) k) in
      cc

  ts : List (Tet ℕ)
  ts = shape s (first vs) (ways_of s vs h)

  ok : T (shape_ok s (first vs) (ways_of s vs h))
  ok = at_half s vs h (shape_ok s) (shapes_fill s)

  tets_ok : T (every (tet_ok s) ts)
  unfolding ts
  tets_ok = and_left (every (tet_ok s) ts) (same_z (add_up (volume_on s) ts) (pos (reference_volume s))) ok

  pub filled : Filled (element s vs)
  unfolding ts
  filled = record {
    each =
        subst (λ (l : List (Tet ℕ)). T (every (λ t. positive (standing (element s vs) t)) l)) (sym (cut_half s vs h))
        (every-ascending (λ t. positive (standing (element s vs) t)) (map written (map (on_tet (number vs)) ts)) (each_stands ts tets_ok));
    together =
        ap (add_up (standing (element s vs))) (cut_half s vs h)
        ∙ add_ascending (standing (element s vs)) (map written (map (on_tet (number vs)) ts))
        ∙ sum_stands ts tets_ok
        ∙ same_Z (add_up (volume_on s) ts) (pos (reference_volume s)) (and_right (every (tet_ok s) ts) (same_z (add_up (volume_on s) ts) (pos (reference_volume s))) ok);
  }
