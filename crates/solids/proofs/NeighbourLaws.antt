-- Two elements that fit and have the vertices of a face in common: it is a face of both, and they cut it into the same triangles.
-- Assumes nothing.
use mathlib.Core.Path.{◌≡◌, refl, sym, ◌∙◌, ap, ap₂, subst}
use mathlib.Core.Bool.{Bool, true, false, cond, ◌&&◌}
use mathlib.Core.List.{List, Memᴰ}
use mathlib.Core.Logic.{◌⊎◌, inl, inr}
use Prim.Native.Nat.{ℕ, ◌≤◌}
use native.Mathlib.Omega.{arith}
use lib.Dec.{leb, T, leb→le}
use lib.ListN.{length}
use Rattle.laws.specs.Words.{every, among, distinct, gather}
use Rattle.laws.proofs.TestLaws.{and_left, and_right}
use Rattle.laws.proofs.EveryLaws.{every-at, some_at, among-every}
use Rattle.solids.specs.Solids.{Solid, tetrahedron, pyramid, prism, hexahedron, Face, three, four, Edge, edge, Element, element, faces, on_face, of_face, ends, edges_of, corners_of, faces_of}
use Rattle.solids.specs.Rotations.{eq_face}
use Rattle.solids.specs.Fit.{proper, common, same_set, has_edge, share_face, back_face, fits}
use Rattle.solids.specs.Surface.{CutAlike}
use Rattle.solids.proofs.NumberingLaws.{number, number_inj}
use Rattle.solids.proofs.ShapeLaws.{Proper, from_proper}
use Rattle.solids.proofs.TurnLaws.{eq_face→eq}
use Rattle.solids.proofs.RelistedLaws.{distinct_on}
use Rattle.solids.proofs.CycleLaws.{FaceApart, Cycle, holds_across, times_across}
use Rattle.solids.proofs.CyclesAlike.{cycle_test}
use Rattle.solids.proofs.FaceFacts.{all_among, of_face_on, face_of, face_corners, face_apart}
use Rattle.solids.proofs.SetLaws.{Sub, sub_every, set_there, set_back, distinct_le}
use Rattle.solids.proofs.FitLaws.{in_common, fits-parts, Joint, joint}

-- ---- on places, computed: the corners of a face differ, and no face lies in another

abbrev inside_ok : Face ℕ → Face ℕ → Bool
inside_ok F G = cond (every (λ v. among v (of_face G)) (of_face F)) (eq_face F G) true

abbrev faces_ok : List (Face ℕ) → Bool
faces_ok fs = every (λ F. distinct (of_face F) && every (inside_ok F) fs) fs

faces_ok_lem : (s : Solid) → T (faces_ok (faces s))
faces_ok_lem tetrahedron = tt
faces_ok_lem pyramid = tt
faces_ok_lem prism = tt
faces_ok_lem hexahedron = tt

module _ (s : Solid) (vs : List ℕ) (h : Proper s vs) where
  inj : (p q : ℕ) → number vs p ≡ number vs q → p ≡ q
  inj = number_inj vs h.apart_all

  ok : (F : Face ℕ) → Memᴰ F (faces s) → T (distinct (of_face F) && every (inside_ok F) (faces s))
  ok F m = every-at (λ X. distinct (of_face X) && every (inside_ok X) (faces s)) (faces s) (faces_ok_lem s) F m

  face_distinct : (F : Face ℕ) → Memᴰ F (faces_of (element s vs)) → T (distinct (of_face F))
  face_distinct F m =
      let g = face_of s vs h F m in
      subst (λ (X : Face ℕ). T (distinct (of_face X))) g.2
      (subst T (sym (ap distinct (of_face_on (number vs) g.0) ∙ distinct_on (number vs) inj (of_face g.0)))
      (and_left (distinct (of_face g.0)) (every (inside_ok g.0) (faces s)) (ok g.0 g.1)))

  -- a face whose corners are all another's is that other
  face_inside : (F G : Face ℕ) → Memᴰ F (faces_of (element s vs)) → Memᴰ G (faces_of (element s vs)) → Sub (of_face F) (of_face G) → G ≡ F
  face_inside F G m_f m_g sub =
      let f = face_of s vs h F m_f in
      let g = face_of s vs h G m_g in
      let i : every (λ v. among v (of_face g.0)) (of_face f.0) ≡ every (λ v. among v (of_face G)) (of_face F)
      = sym (all_among (number vs) inj (of_face f.0) (of_face g.0))
      ∙ ap₂ {C = Bool} (λ (l m : List ℕ). every (λ v. among v m) l) (sym (of_face_on (number vs) f.0) ∙ ap of_face f.2) (sym (of_face_on (number vs) g.0) ∙ ap of_face g.2) in
      let k : T (inside_ok f.0 g.0) = every-at (inside_ok f.0) (faces s) (and_right (distinct (of_face f.0)) (every (inside_ok f.0) (faces s)) (ok f.0 f.1)) g.0 g.1 in
      sym g.2 ∙ ap (on_face (number vs)) (eq_face→eq f.0 g.0 (passed (every (λ v. among v (of_face g.0)) (of_face f.0)) (eq_face f.0 g.0) (subst T (sym i) (sub_every (of_face F) (of_face G) sub)) k)) ∙ f.2
    where
      passed : (b x : Bool) → T b → T (cond b x true) → T x
      passed true x p t = t
      passed false x p t = absurd p

three-corners : (F : Face ℕ) → 3 ≤ length (of_face F)
three-corners (three p q r) = omega arith
three-corners (four p q r s) = omega arith

two_ends : (E : Edge ℕ) → length (ends E) ≡ 2
two_ends (edge p q) = refl

module _ (e x : Element) (he : T (proper e)) (hx : T (proper x)) (f : T (fits e x)) (F G : Face ℕ) (m_f : Memᴰ F (faces_of e)) (m_g : Memᴰ G (faces_of x)) (same : T (same_set (of_face F) (of_face G))) where
  corners_of_lem : (z : Element) → T (proper z) → (H : Face ℕ) → Memᴰ H (faces_of z) → Sub (of_face H) (corners_of z)
  corners_of_lem (element s vs) h H m v k = among-every (λ w. among w vs) (of_face H) (face_corners s vs (from_proper s vs h) H m) v k

  is-distinct : (z : Element) → T (proper z) → (H : Face ℕ) → Memᴰ H (faces_of z) → T (distinct (of_face H))
  is-distinct (element s vs) h H m = face_distinct s vs (from_proper s vs h) H m

  is-inside : (z : Element) → T (proper z) → (H K : Face ℕ) → Memᴰ H (faces_of z) → Memᴰ K (faces_of z) → Sub (of_face H) (of_face K) → K ≡ H
  is-inside (element s vs) h = face_inside s vs (from_proper s vs h)

  both : Sub (of_face F) (common e x)
  both v k = in_common e x v (corners_of_lem e he F m_f v k) (corners_of_lem x hx G m_g v (set_there (of_face F) (of_face G) same v k))

  too_many : (l : List ℕ) → Sub (common e x) l → length l ≤ 2 → ⊥
  too_many l s n =
      let k = distinct_le (of_face F) l (is-distinct e he F m_f) (λ v i. s v (both v i)) in
      let m = three-corners F in
      omega arith

  -- the face that they share is this one
  reversed : Cycle (back_face F) G
  reversed = go (fits-parts e x f)
    where
      face : Joint e x → Cycle (back_face F) G
      face J =
          let a = is-inside e he F J.mine m_f J.in_mine (λ v k. set_there (common e x) (of_face J.mine) J.has_all v (both v k)) in
          let b = is-inside x hx G J.theirs m_g J.in_theirs λ v k.
          subst T (sym (holds_across v J.mine J.theirs J.reversed))
          (set_there (common e x) (of_face J.mine) J.has_all v (both v (set_back (of_face F) (of_face G) same v k))) in
          subst (λ (H : Face ℕ). Cycle (back_face H) G) a (subst (Cycle (back_face J.mine)) b J.reversed)

      go : T (leb (length (common e x)) 1) ⊎ (T (has_edge (common e x) e && has_edge (common e x) x) ⊎ T (share_face (common e x) e x)) → Cycle (back_face F) G
      go (inl k) = absurd (too_many (common e x) (λ v i. i) (let l = leb→le (length (common e x)) 1 k in omega arith))
      go (inr (inl k)) =
          let E = some_at (λ E. same_set (common e x) (ends E)) (gather edges_of (faces_of e)) (and_left (has_edge (common e x) e) (has_edge (common e x) x) k) in
          absurd (too_many (ends E.0) (set_there (common e x) (ends E.0) E.2) (let l = two_ends E.0 in omega arith))
      go (inr (inr k)) = face (joint e x k)

  pub cut_alike : CutAlike F G
  cut_alike = record { backwards = cycle_test (back_face F) G reversed; triangles = λ t. times_across t F G (apart e he F m_f) reversed }
    where
      apart : (z : Element) → T (proper z) → (H : Face ℕ) → Memᴰ H (faces_of z) → FaceApart H
      apart (element s vs) h = face_apart s vs (from_proper s vs h)
