-- The surface of an element's cut is the cut of its surface.
-- Assumes nothing.
use mathlib.Core.Path.{◌≡◌, refl, sym, ◌∙◌, ap, ap₂, subst}
use mathlib.Core.Bool.{Bool, true, false, cond, not, ◌&&◌, ◌||◌}
use mathlib.Core.List.{List, [], ◌∷◌, map, map-append}
use mathlib.Core.Logic.{◌⊎◌, inl, inr}
use Prim.Native.Nat.{ℕ, zero, suc, ◌+◌, ◌≤◌, ◌<◌}
use native.Mathlib.Nat.{le_of_suc-le-suc, not-suc-le-zero}
use native.Mathlib.Omega.{arith}
use lib.Dec.{eqb, T, eqb→eq, ltb→lt}
use lib.ListN.{length, get_or}
use Rattle.laws.specs.Words.{gather, every, lowest, keep}
use Rattle.solids.specs.Solids.{Solid, tetrahedron, pyramid, prism, hexahedron, Face, three, four, Tri, element, corners, faces, at, on_tri, on_face, of_face, holds}
use Rattle.solids.specs.Cut.{turned, halves, cut_face, first}
use Rattle.solids.specs.Surface.{sides, back, same_tri, times, by_rule, skin, within}
use Rattle.laws.proofs.TestLaws.{or_cases, and_left, and_right, true-T}
use Rattle.laws.proofs.EveryLaws.{count_append}
use Rattle.solids.proofs.RenamingLaws.{cuts_at, asked, eqb_on, turned_on, halves_on}
use Rattle.solids.proofs.NumberingLaws.{number, number_inj, inside}
use Rattle.solids.proofs.ShapeLaws.{far, shape, Proper, faces_f, faces-inside, lowest_f, at_f}
use Rattle.solids.proofs.TurnLaws.{half}
use Rattle.solids.proofs.HalfLaws.{all_halves, half_turned}

-- The diagonals of all faces: a face that holds the lowest place a is cut from it, the others by the given numbers.
abbrev pub turn_to : ℕ → Face ℕ → ℕ
turn_to a (three p q r) = 0
turn_to a (four p q r s) = cond (eqb p a) 0 (cond (eqb q a) 1 (cond (eqb r a) 2 3))

abbrev pub head_of : List ℕ → ℕ
head_of [] = 0
head_of (k ∷ ks) = k

abbrev pub tail_of : List ℕ → List ℕ
tail_of [] = []
tail_of (k ∷ ks) = ks

abbrev pub merge : ℕ → List (Face ℕ) → List ℕ → List ℕ
merge a [] ks = []
merge a (F ∷ fs) ks = cond (holds a F) (half (turn_to a F) ∷ merge a fs ks) (head_of ks ∷ merge a fs (tail_of ks))

abbrev pub skin_at : Solid → ℕ → List ℕ → List (Tri ℕ)
skin_at s a ks = cuts_at (faces s) (merge a (faces s) ks)

abbrev pub way_of : (ℕ → ℕ) → Face ℕ → ℕ
way_of f F = half (asked f F)

lowest_le : (v : ℕ) (vs : List ℕ) (i : ℕ) → i < length (v ∷ vs) → lowest (v ∷ vs) ≤ get_or (v ∷ vs) i 0
lowest_le v [] zero l = omega arith
lowest_le v [] (suc i) l = absurd (not-suc-le-zero (le_of_suc-le-suc l))
lowest_le v (w ∷ ws) zero l = omega arith
lowest_le v (w ∷ ws) (suc i) l = let h = lowest_le w ws i (le_of_suc-le-suc l) in omega arith

pub lowest-at : (vs : List ℕ) (p : ℕ) → T (inside (length vs) p) → lowest vs ≤ at vs p
lowest-at vs zero h = absurd h
lowest-at [] (suc i) h = absurd (not-suc-le-zero (ltb→lt i 0 h))
lowest-at (v ∷ vs) (suc i) h = lowest_le v vs i (ltb→lt i (length (v ∷ vs)) h)

module _ (s : Solid) (vs : List ℕ) (h : Proper s vs) where
  inj : (p q : ℕ) → number vs p ≡ number vs q → p ≡ q
  inj = number_inj vs h.apart_all

  first-low : (p : ℕ) → T (inside (corners s) p) → number vs (first vs) ≤ number vs p
  first-low p l =
      let x = lowest-at vs p (subst (λ (n : ℕ). T (inside n p)) (sym h.many) l) in
      let y = at_f s vs h p l in
      let z = lowest_f s vs h in
      omega arith

  near : (F : Face ℕ) → T (holds (first vs) F) → T (every (inside (corners s)) (of_face F)) → asked (number vs) F ≡ turn_to (first vs) F
  near (three p q r) k i = refl
  near (four p q r t) k i =
      ap {B = ℕ} (λ (m : ℕ). cond (eqb (f p) m) 0 (cond (eqb (f q) m) 1 (cond (eqb (f r) m) 2 3))) is_a
      ∙ simp (eqb_on f inj)
    where
      f : ℕ → ℕ
      f = number vs

      a : ℕ
      a = first vs

      n : ℕ → Bool
      n = inside (corners s)

      iq : T (n q && (n r && (n t && true)))
      iq = and_right (n p) (n q && (n r && (n t && true))) i

      ir : T (n r && (n t && true))
      ir = and_right (n q) (n r && (n t && true)) iq

      it : T (n t && true)
      it = and_right (n r) (n t && true) ir

      lp : f a ≤ f p
      lp = first-low p (and_left (n p) (n q && (n r && (n t && true))) i)

      lq : f a ≤ f q
      lq = first-low q (and_left (n q) (n r && (n t && true)) iq)

      lr : f a ≤ f r
      lr = first-low r (and_left (n r) (n t && true) ir)

      lt : f a ≤ f t
      lt = first-low t (and_left (n t) true it)

      one : (x : ℕ) → T (eqb a x) → f a ≡ f x
      one x e = ap f (eqb→eq a x e)

      go₃ : T (eqb a r) ⊎ T (eqb a t || false) → lowest (f p ∷ f q ∷ f r ∷ f t ∷ []) ≡ f a
      go₃ (inl e) = omega (arith, one r e, lp, lq, lr, lt)
      go₃ (inr e) = go₄ (or_cases (eqb a t) false e)
        where
          go₄ : T (eqb a t) ⊎ T false → lowest (f p ∷ f q ∷ f r ∷ f t ∷ []) ≡ f a
          go₄ (inl e) = omega (arith, one t e, lp, lq, lr, lt)
          go₄ (inr e) = absurd e

      go₂ : T (eqb a q) ⊎ T (eqb a r || (eqb a t || false)) → lowest (f p ∷ f q ∷ f r ∷ f t ∷ []) ≡ f a
      go₂ (inl e) = omega (arith, one q e, lp, lq, lr, lt)
      go₂ (inr e) = go₃ (or_cases (eqb a r) (eqb a t || false) e)

      go₁ : T (eqb a p) ⊎ T (eqb a q || (eqb a r || (eqb a t || false))) → lowest (f p ∷ f q ∷ f r ∷ f t ∷ []) ≡ f a
      go₁ (inl e) = omega (arith, one p e, lp, lq, lr, lt)
      go₁ (inr e) = go₂ (or_cases (eqb a q) (eqb a r || (eqb a t || false)) e)

      is_a : lowest (f p ∷ f q ∷ f r ∷ f t ∷ []) ≡ f a
      is_a = go₁ (or_cases (eqb a p) (eqb a q || (eqb a r || (eqb a t || false))) k)

  pub merged : (fs : List (Face ℕ)) → T (every (λ F. every (inside (corners s)) (of_face F)) fs)
      → map (way_of (number vs)) fs ≡ merge (first vs) fs (map (way_of (number vs)) (keep (λ F. not (holds (first vs) F)) fs))
  merged [] i = refl
  merged (F ∷ fs) i = go (holds (first vs) F) refl (merged fs (and_right (every (inside (corners s)) (of_face F)) (every (λ G. every (inside (corners s)) (of_face G)) fs) i))
    where
      rest : List (Face ℕ)
      rest = keep (λ G. not (holds (first vs) G)) fs

      W : List (Face ℕ) → List ℕ
      W = map (way_of (number vs))

      go : (b : Bool) → holds (first vs) F ≡ b
          → W fs ≡ merge (first vs) fs (W rest)
          → ◌≡◌ {A = List ℕ} (way_of (number vs) F ∷ W fs)
          (cond b (half (turn_to (first vs) F) ∷ merge (first vs) fs (W (cond (not b) (F ∷ rest) rest)))
          (head_of (W (cond (not b) (F ∷ rest) rest)) ∷ merge (first vs) fs (tail_of (W (cond (not b) (F ∷ rest) rest)))))
      go true e ih =
          ap₂ {C = List ℕ} (λ x xs. x ∷ xs)
          (ap half (near F (true-T e) (and_left (every (inside (corners s)) (of_face F)) (every (λ G. every (inside (corners s)) (of_face G)) fs) i))) ih
      go false e ih = ap {B = List ℕ} (λ xs. way_of (number vs) F ∷ xs) ih

  -- one face: its triangles in numbers, from its diagonal in places
  pub one_half : (t : Tri ℕ) (F : Face ℕ) → times t (cut_face (on_face (number vs) F)) ≡ times t (map (on_tri (number vs)) (halves (turned (way_of (number vs) F) F)))
  one_half t F =
      half_turned t (asked (number vs) F) (on_face (number vs) F)
      ∙ ap (times t) (ap halves (turned_on (number vs) inj (way_of (number vs) F) F) ∙ halves_on (number vs) inj (turned (way_of (number vs) F) F))

  all_halves_lem : (t : Tri ℕ) (fs : List (Face ℕ)) → times t (gather cut_face (map (on_face (number vs)) fs)) ≡ times t (map (on_tri (number vs)) (cuts_at fs (map (way_of (number vs)) fs)))
  all_halves_lem t [] = refl
  all_halves_lem t (F ∷ fs) =
      count_append (same_tri t) (cut_face (on_face (number vs) F)) (gather cut_face (map (on_face (number vs)) fs))
      ∙ ap₂ {C = ℕ} (λ m n. m + n) (one_half t F) (all_halves_lem t fs)
      ∙ sym (count_append (same_tri t) (map (on_tri (number vs)) X) (map (on_tri (number vs)) Y))
      ∙ ap (times t) (sym (map-append (on_tri (number vs)) X Y))
    where
      X : List (Tri ℕ)
      X = halves (turned (way_of (number vs) F) F)

      Y : List (Tri ℕ)
      Y = cuts_at fs (map (way_of (number vs)) fs)

  pub skin_f : (t : Tri ℕ) → times t (skin (by_rule (element s vs))) ≡ times t (map (on_tri (number vs)) (skin_at s (first vs) (map (way_of (number vs)) (far s (first vs)))))
  skin_f t =
      ap (λ (fs : List (Face ℕ)). times t (gather cut_face fs)) (faces_f s vs h)
      ∙ all_halves_lem t (faces s)
      ∙ ap (λ (ks : List ℕ). times t (map (on_tri (number vs)) (cuts_at (faces s) ks))) (merged (faces s) (faces-inside s))

-- The test: each side once, and on the skin or with its reverse; each triangle of the skin once a side; what lies in a face is of its cut.
abbrev pub side_ok : List (Tri ℕ) → List (Tri ℕ) → Tri ℕ → Bool
side_ok S F t = eqb (times t S) 1 && eqb (times t F + times (back t) S) 1

abbrev pub skin_ok : List (Tri ℕ) → Tri ℕ → Bool
skin_ok S t = eqb (times t S) 1

abbrev pub flat_ok : ℕ → Face ℕ → Tri ℕ → Bool
flat_ok k G t = cond (within t G) (eqb (times t (halves (turned k G))) 1) true

abbrev pub all_flat : List (Tri ℕ) → List (Face ℕ) → List ℕ → Bool
all_flat S [] ks = true
all_flat S (G ∷ fs) [] = false
all_flat S (G ∷ fs) (k ∷ ks) = every (flat_ok k G) S && all_flat S fs ks

abbrev pub local_ok : Solid → ℕ → List ℕ → Bool
local_ok s a ks =
    let S = gather sides (shape s a ks) in
    let all = merge a (faces s) ks in
    let F = cuts_at (faces s) all in
    every (side_ok S F) S && (every (skin_ok S) F && all_flat S (faces s) all)

tet_local : T (all_halves tetrahedron (local_ok tetrahedron))
tet_local = tt

pyr_local : T (all_halves pyramid (local_ok pyramid))
pyr_local = tt

prism_local : T (all_halves prism (local_ok prism))
prism_local = tt

hex_local : T (all_halves hexahedron (local_ok hexahedron))
hex_local = tt

pub local_all : (s : Solid) → T (all_halves s (local_ok s))
local_all tetrahedron = tet_local
local_all pyramid = pyr_local
local_all prism = prism_local
local_all hexahedron = hex_local
