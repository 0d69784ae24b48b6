-- The surface of the cut of an accepted table, neighbours, and whose vertices a tetrahedron has.
-- Assumes nothing.
use mathlib.Core.Path.{◌≡◌, refl, sym, subst}
use mathlib.Core.Bool.{Bool, true, false}
use mathlib.Core.List.{List, Memᴰ}
use mathlib.Core.Logic.{◌≢◌}
use Prim.Native.Nat.{ℕ, zero, suc, ◌-◌, ◌≤◌, ◌<◌}
use native.Mathlib.Omega.{arith}
use lib.Dec.{T, ltb}
use lib.ListN.{length}
use borrow.Author.Tests.{ltb-true, ltb-false}
use Rattle.laws.specs.Words.{every, among, gather}
use Rattle.faults.specs.Refusals.{accepted}
use Rattle.solids.specs.Solids.{Vertex, Face, four, Tri, Tet, Element, of_face, of_tet, faces_of}
use Rattle.solids.specs.Cut.{turned, turns, halves, cut_face, cut, cut_mesh}
use Rattle.solids.specs.Fit.{proper, same_set, fits, outer_faces}
use Rattle.solids.specs.Surface.{back, times, owners, SurfaceCut, CutAlike}
use Rattle.solids.proofs.Theorems.{fits-sym, cut_alike, own-vertices, cut_of}
use Rattle.records.specs.Record.{used_of, element_of, record_at, element_at, first_elements}
use Rattle.records.proofs.Theorems.{first-each, first_member}
use Rattle.judging.specs.Judge.{pair_fits, judged}
use Rattle.judging.specs.Acceptance.{Acceptable}
use Rattle.judging.proofs.AcceptanceLaws.{fitting_pairs, acceptable_proper}
use Rattle.judging.proofs.Theorems.{accepted-elements, accepted_acceptable, accepted-surface}
use Rattle.promises.specs.Tables.{tetrahedra_in, cut_surface, SurfaceIsCut}
use Rattle.promises.proofs.AnswerLaws.{DoneCut, done_tetrahedra}

-- the two forms of the surface say the same: from counts to sides
pub surface_is_cut : (es : List Element) → SurfaceCut es → SurfaceIsCut es (cut_mesh es)
unfolding cut_surface
surface_is_cut es s =
    record {
      once = s.once;
      inner = λ t a b. let c = s.once t in let d = s.once (back t) in (omega arith, omega arith);
      outer = λ t a b. let c = s.once t in let d = s.surface t in omega arith;
      only = λ t a. let c = s.once t in let d = s.surface t in (omega arith, omega arith, omega arith);
    }

-- and back: nothing is lost between them
pub cut_is_surface : (es : List Element) → SurfaceIsCut es (cut_mesh es) → SurfaceCut es
unfolding cut_surface
cut_is_surface es s = record { once = s.once; surface = λ t. by_owners t (owners t (cut_mesh es)) refl (owners (back t) (cut_mesh es)) refl }
  where
    outside : (t : Tri Vertex) → (1 ≤ times t (gather cut_face (outer_faces es)) → ⊥) → times t (gather cut_face (outer_faces es)) ≡ 0
    outside t h = go (times t (gather cut_face (outer_faces es))) h
      where
        go : (k : ℕ) → (1 ≤ k → ⊥) → k ≡ 0
        go zero f = refl
        go (suc k) f = absurd (f (omega arith))

    by_owners : (t : Tri Vertex) (a : ℕ) → owners t (cut_mesh es) ≡ a → (b : ℕ) → owners (back t) (cut_mesh es) ≡ b
        → times t (gather cut_face (outer_faces es)) ≡ owners t (cut_mesh es) - owners (back t) (cut_mesh es)
    by_owners t zero p b q = let z = outside t (λ h. let o = s.only t h in omega arith) in omega arith
    by_owners t (suc a) p zero q = let o = s.once t in let z = s.outer t (omega arith) q in omega arith
    by_owners t (suc a) p (suc b) q =
        let z = outside t (λ h. let o = s.only t h in omega arith) in let o = s.once t in omega arith

two_halves : (k : ℕ) (p q r s : Vertex) → length (halves (turned k (four p q r s))) ≡ 2
two_halves zero p q r s = refl
two_halves (suc k) p q r s = two_halves k q r s p

-- a four-cornered face is cut into two triangles
pub two_triangles : (p q r s : Vertex) → length (cut_face (four p q r s)) ≡ 2
two_triangles p q r s = two_halves (turns (four p q r s)) p q r s

module _ (v n : ℕ) (t : List ℕ) (es : List Element) (e : judged v n t ≡ accepted es) where
  good : Acceptable v n t
  good = accepted_acceptable v n t es e

  proper-at : (k : ℕ) → k < n → T (proper (element_at t k))
  proper-at = first-each t proper n (acceptable_proper v n t good)

  -- every two elements of the table fit, whichever comes first
  fits-at : (i j : ℕ) → i < n → j < n → i ≢ j → T (fits (element_at t i) (element_at t j))
  unfolding pair_fits
  fits-at i j a b x = go (ltb i j) refl
    where
      go : (c : Bool) → ltb i j ≡ c → T (fits (element_at t i) (element_at t j))
      go true p = fitting_pairs t n good.fit i j (ltb-true i j p) b
      go false p =
          let q = ltb-false i j p in
          let l : j < i = omega arith in
          subst T (fits-sym (element_at t j) (element_at t i) (proper-at j b) (proper-at i a)) (fitting_pairs t n good.fit j i l a)

  pub neighbours : (i j : ℕ) → i < n → j < n → i ≢ j → (F G : Face Vertex) → Memᴰ F (faces_of (element_at t i)) → Memᴰ G (faces_of (element_at t j))
      → T (same_set (of_face F) (of_face G)) → CutAlike F G
  neighbours i j a b x F G m k s =
      cut_alike (element_at t i) (element_at t j) (proper-at i a) (proper-at j b) (fits-at i j a b x) F G m k s

  -- a tetrahedron of the cut is one of an element's, and its vertices are that element's
  pub own_at : (k : ℕ) → k < n → (u : Tet Vertex) → Memᴰ u (cut (element_at t k)) → T (every (λ x. among x (used_of (record_at t k))) (of_tet u))
  unfolding element_at element_of
  own_at k h u m = own-vertices (element_at t k) (proper-at k h) u m

  pub owned_by : (u : Tet Vertex) → Memᴰ u (cut_mesh es) → (k : ℕ) × (k < n) × Memᴰ u (cut (element_at t k))
  owned_by u m =
      let r = cut_of es u m in
      let q = first_member t n r.0 (subst (λ (l : List Element). Memᴰ r.0 l) (accepted-elements v n t es e) r.1) in
      (q.0, q.1, subst (λ (x : Element). Memᴰ u (cut x)) q.2 r.2)

-- the tetrahedra in the output of a cut that is done have this surface
pub done-surface : (v n : ℕ) (t old : List ℕ) (many : ℕ) (new : List ℕ) → DoneCut v n t old many new
    → SurfaceIsCut (first_elements t n) (tetrahedra_in many new)
done-surface v n t old many new d =
    subst (SurfaceIsCut (first_elements t n)) (sym (done_tetrahedra v n t old many new d))
    (surface_is_cut (first_elements t n) (accepted-surface v n t (first_elements t n) d.cuts.elements))
