-- Whether two elements fit asks only for their corners as sets and their faces as cycles, and it does not matter which of the two comes first.
-- Assumes nothing.
use mathlib.Core.Path.{◌≡◌, refl, sym, ◌∙◌, ap, subst}
use mathlib.Core.Bool.{Bool, true, false, ◌&&◌, ◌||◌}
use mathlib.Core.List.Memᴰ
use mathlib.Core.List.{List, [], ◌∷◌, ◌++◌, Memᴰ}
use mathlib.Core.Logic.{◌⊎◌, inl, inr}
use Prim.Native.Nat.{ℕ}
use lib.Dec.{leb, T}
use lib.ListN.{length}
use Rattle.laws.specs.Words.{some, among, distinct, gather}
use Rattle.laws.proofs.TestLaws.{and_left, and_right, and_both, or_cases, or_left, or_right}
use Rattle.laws.proofs.EveryLaws.{some_at}
use Rattle.solids.specs.Solids.{Face, Edge, Element, element, of_face, ends, edges_of, holds, corners_of, faces_of}
use Rattle.solids.specs.Rotations.{same_face}
use Rattle.solids.specs.Fit.{proper, common, same_set, has_edge, back_face, share_face, fits}
use Rattle.solids.proofs.ShapeLaws.{from_proper}
use Rattle.solids.proofs.SideLaws.{bool_iff}
use Rattle.solids.proofs.CycleLaws.{Cycle, test_cycle, holds_cycle, holds_across}
use Rattle.solids.proofs.CyclesAlike.{cycle_trans, cycle_sym, cycle_back, cycle_across, cycle_test, edges_cycle}
use Rattle.solids.proofs.MeetLaws.{among-keep}
use Rattle.solids.proofs.SetLaws.{Sub, same_set_lem, set_there, set_back, kept_in, kept-passes, distinct-keep, same_length}

-- a member that passes is found
pub some_in : {A : Type 0} (P : A → Bool) (l : List A) (x : A) → Memᴰ x l → T (P x) → T (some P l)
some_in P [] x m h = absurd (Memᴰ.not-nil m)
some_in P (y ∷ l) x m h = go (some_in P l x) (Memᴰ.cases_cons m)
  where
    go : (Memᴰ x l → T (P x) → T (some P l)) → (x ≡ y) ⊎ Memᴰ x l → T (P y || some P l)
    go ih (inl e) = or_left (P y) (some P l) (subst (λ z. T (P z)) e h)
    go ih (inr n) = or_right (P y) (some P l) (ih n h)

module _ {A B : Type 0} (P : B → Bool) (f : A → List B) where
  some_append : (l m : List B) → some P (l ++ m) ≡ (some P l || some P m)
  some_append [] m = refl
  some_append (x ∷ l) m = go (P x) (some_append l m)
    where
      go : (b : Bool) → some P (l ++ m) ≡ (some P l || some P m) → (b || some P (l ++ m)) ≡ ((b || some P l) || some P m)
      go true e = refl
      go false e = e

  pub some-gather : (l : List A) → some P (gather f l) ≡ some (λ x. some P (f x)) l
  some-gather [] = refl
  some-gather (x ∷ l) = some_append (f x) (gather f l) ∙ ap {B = Bool} (λ b. some P (f x) || b) (some-gather l)

-- ---- what is common

pub in_common : (e x : Element) (v : ℕ) → T (among v (corners_of e)) → T (among v (corners_of x)) → T (among v (common e x))
in_common e x v p q = among-keep (λ w. among w (corners_of x)) (corners_of e) v p q

pub common_mine : (e x : Element) (v : ℕ) → T (among v (common e x)) → T (among v (corners_of e))
common_mine e x v h = kept_in (λ w. among w (corners_of x)) (corners_of e) v h

pub common_theirs : (e x : Element) (v : ℕ) → T (among v (common e x)) → T (among v (corners_of x))
common_theirs e x v h = kept-passes (λ w. among w (corners_of x)) (corners_of e) v h

pub proper-distinct : (e : Element) → T (proper e) → T (distinct (corners_of e))
proper-distinct (element s vs) h = (from_proper s vs h).apart_all

pub common-distinct : (e x : Element) → T (proper e) → T (distinct (common e x))
common-distinct e x h = distinct-keep (λ w. among w (corners_of x)) (corners_of e) (proper-distinct e h)

pub common_swap : (e x : Element) → Sub (common e x) (common x e)
common_swap e x v h = in_common x e v (common_theirs e x v h) (common_mine e x v h)

-- the same set, from one list of its members to another
pub set_moved : (l l' m : List ℕ) → Sub l l' → Sub l' l → T (same_set l m) → T (same_set l' m)
set_moved l l' m s r h = same_set_lem l' m (λ v k. set_there l m h v (r v k)) (λ v k. s v (set_back l m h v k))

pub edge_moved : (l l' : List ℕ) (e : Element) → Sub l l' → Sub l' l → T (has_edge l e) → T (has_edge l' e)
edge_moved l l' e s r h =
    let E = some_at (λ E. same_set l (ends E)) (gather edges_of (faces_of e)) h in
    some_in (λ E. same_set l' (ends E)) (gather edges_of (faces_of e)) E.0 E.1 (set_moved l l' (ends E.0) s r E.2)

-- ---- the test, part by part

pub fits-parts : (e x : Element) → T (fits e x) → T (leb (length (common e x)) 1) ⊎ (T (has_edge (common e x) e && has_edge (common e x) x) ⊎ T (share_face (common e x) e x))
unfolding fits
fits-parts e x h =
    go (or_cases (leb (length (common e x)) 1) ((has_edge (common e x) e && has_edge (common e x) x) || share_face (common e x) e x) h)
  where
    go : T (leb (length (common e x)) 1) ⊎ T ((has_edge (common e x) e && has_edge (common e x) x) || share_face (common e x) e x)
        → T (leb (length (common e x)) 1) ⊎ (T (has_edge (common e x) e && has_edge (common e x) x) ⊎ T (share_face (common e x) e x))
    go (inl k) = inl k
    go (inr k) = inr (or_cases (has_edge (common e x) e && has_edge (common e x) x) (share_face (common e x) e x) k)

module _ (e x : Element) where
  pub fits-few : T (leb (length (common e x)) 1) → T (fits e x)
  unfolding fits
  fits-few h = or_left (leb (length (common e x)) 1) ((has_edge (common e x) e && has_edge (common e x) x) || share_face (common e x) e x) h

  pub fits-edge : T (has_edge (common e x) e) → T (has_edge (common e x) x) → T (fits e x)
  unfolding fits
  fits-edge h k =
      or_right (leb (length (common e x)) 1) ((has_edge (common e x) e && has_edge (common e x) x) || share_face (common e x) e x)
      (or_left (has_edge (common e x) e && has_edge (common e x) x) (share_face (common e x) e x) (and_both (has_edge (common e x) e) (has_edge (common e x) x) h k))

  -- a face of both, run round in opposite directions, that has all the common vertices
  pub fits_face : (F G : Face ℕ) → Memᴰ F (faces_of e) → Memᴰ G (faces_of x) → T (same_set (common e x) (of_face F)) → Cycle (back_face F) G → T (fits e x)
  unfolding fits
  fits_face F G m_f m_g h c =
      or_right (leb (length (common e x)) 1) ((has_edge (common e x) e && has_edge (common e x) x) || share_face (common e x) e x)
      (or_right (has_edge (common e x) e && has_edge (common e x) x) (share_face (common e x) e x)
      (some_in (λ X. same_set (common e x) (of_face X) && some (same_face (back_face X)) (faces_of x)) (faces_of e) F m_f
      (and_both (same_set (common e x) (of_face F)) (some (same_face (back_face F)) (faces_of x)) h
      (some_in (same_face (back_face F)) (faces_of x) G m_g (cycle_test (back_face F) G c)))))

  -- that face, found
  pub record Joint : Type 0 where
    pub mine : Face ℕ
    pub theirs : Face ℕ
    pub in_mine : Memᴰ mine (faces_of e)
    pub in_theirs : Memᴰ theirs (faces_of x)
    pub has_all : T (same_set (common e x) (of_face mine))
    pub reversed : Cycle (back_face mine) theirs

  pub joint : T (share_face (common e x) e x) → Joint
  joint h =
      let F = some_at (λ X. same_set (common e x) (of_face X) && some (same_face (back_face X)) (faces_of x)) (faces_of e) h in
      let G = some_at (same_face (back_face F.0)) (faces_of x) (and_right (same_set (common e x) (of_face F.0)) (some (same_face (back_face F.0)) (faces_of x)) F.2) in
      record {
        mine = F.0;
        theirs = G.0;
        in_mine = F.1;
        in_theirs = G.1;
        has_all = and_left (same_set (common e x) (of_face F.0)) (some (same_face (back_face F.0)) (faces_of x)) F.2;
        reversed = test_cycle (back_face F.0) G.0 G.2;
      }

-- the corners of a cycle, as a set
face_moved : (l : List ℕ) (F G : Face ℕ) → ((v : ℕ) → holds v G ≡ holds v F) → T (same_set l (of_face F)) → T (same_set l (of_face G))
face_moved l F G e h =
    same_set_lem l (of_face G) (λ v k. subst T (sym (e v)) (set_there l (of_face F) h v k)) (λ v k. set_back l (of_face F) h v (subst T (e v) k))

-- ---- the same corners and the same cycles

pub record Alike (e x : Element) : Type 0 where
  pub there : Sub (corners_of e) (corners_of x)
  pub home : Sub (corners_of x) (corners_of e)
  pub faces_there : (F : Face ℕ) → Memᴰ F (faces_of e) → (G : Face ℕ) × Memᴰ G (faces_of x) × Cycle F G

alike_edge : (l : List ℕ) (e x : Element) → Alike e x → T (has_edge l e) → T (has_edge l x)
alike_edge l e x A h =
    let P : Edge ℕ → Bool = λ E. same_set l (ends E) in
    let F = some_at (λ X. some P (edges_of X)) (faces_of e) (subst T (some-gather P edges_of (faces_of e)) h) in
    let G = A.faces_there F.0 F.1 in
    subst T (sym (some-gather P edges_of (faces_of x)))
    (some_in (λ X. some P (edges_of X)) (faces_of x) G.0 G.1 (subst T (sym (edges_cycle P G.2)) F.2))

module _ (e x e' x' : Element) (A : Alike e e') (B : Alike x x') (he : T (proper e)) (he' : T (proper e')) where
  there_common : Sub (common e x) (common e' x')
  there_common v h = in_common e' x' v (A.there v (common_mine e x v h)) (B.there v (common_theirs e x v h))

  home_common : Sub (common e' x') (common e x)
  home_common v h = in_common e x v (A.home v (common_mine e' x' v h)) (B.home v (common_theirs e' x' v h))

  pub alike_fits : T (fits e x) → T (fits e' x')
  alike_fits h = go (fits-parts e x h)
    where
      edge_there : (z z' : Element) → Alike z z' → T (has_edge (common e x) z) → T (has_edge (common e' x') z')
      edge_there z z' C k = edge_moved (common e x) (common e' x') z' there_common home_common (alike_edge (common e x) z z' C k)

      face_there : Joint e x → T (fits e' x')
      face_there J =
          let F = A.faces_there J.mine J.in_mine in
          let G = B.faces_there J.theirs J.in_theirs in
          fits_face e' x' F.0 G.0 F.1 G.1
          (set_moved (common e x) (common e' x') (of_face F.0) there_common home_common
          (face_moved (common e x) J.mine F.0 (λ v. holds_cycle v J.mine F.0 F.2) J.has_all))
          (cycle_trans (cycle_sym (cycle_back F.2)) (cycle_trans J.reversed G.2))

      go : T (leb (length (common e x)) 1) ⊎ (T (has_edge (common e x) e && has_edge (common e x) x) ⊎ T (share_face (common e x) e x)) → T (fits e' x')
      go (inl k) =
          fits-few e' x' (subst (λ (n : ℕ). T (leb n 1))
          (same_length (common e x) (common e' x') (common-distinct e x he) (common-distinct e' x' he') there_common home_common) k)
      go (inr (inl k)) =
          fits-edge e' x' (edge_there e e' A (and_left (has_edge (common e x) e) (has_edge (common e x) x) k))
          (edge_there x x' B (and_right (has_edge (common e x) e) (has_edge (common e x) x) k))
      go (inr (inr k)) = face_there (joint e x k)

-- ---- which of the two comes first

swapped : (e x : Element) → T (proper e) → T (proper x) → T (fits e x) → T (fits x e)
swapped e x he hx h = go (fits-parts e x h)
  where
    edge_there : (z : Element) → T (has_edge (common e x) z) → T (has_edge (common x e) z)
    edge_there z k = edge_moved (common e x) (common x e) z (common_swap e x) (common_swap x e) k

    face_there : Joint e x → T (fits x e)
    face_there J =
        fits_face x e J.theirs J.mine J.in_theirs J.in_mine
        (set_moved (common e x) (common x e) (of_face J.theirs) (common_swap e x) (common_swap x e)
        (face_moved (common e x) J.mine J.theirs (λ v. holds_across v J.mine J.theirs J.reversed) J.has_all))
        (cycle_across J.reversed)

    go : T (leb (length (common e x)) 1) ⊎ (T (has_edge (common e x) e && has_edge (common e x) x) ⊎ T (share_face (common e x) e x)) → T (fits x e)
    go (inl k) =
        fits-few x e (subst (λ (n : ℕ). T (leb n 1))
        (same_length (common e x) (common x e) (common-distinct e x he) (common-distinct x e hx) (common_swap e x) (common_swap x e)) k)
    go (inr (inl k)) =
        fits-edge x e (edge_there x (and_right (has_edge (common e x) e) (has_edge (common e x) x) k))
        (edge_there e (and_left (has_edge (common e x) e) (has_edge (common e x) x) k))
    go (inr (inr k)) = face_there (joint e x k)

pub fits-sym : (e x : Element) → T (proper e) → T (proper x) → fits e x ≡ fits x e
fits-sym e x he hx = bool_iff (fits e x) (fits x e) (swapped e x he hx) (swapped x e hx he)
