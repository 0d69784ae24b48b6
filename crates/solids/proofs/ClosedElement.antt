-- The surface of an element's cut is the cut of its surface: from the test on places to all vertex numbers.
-- Assumes nothing.
use mathlib.Core.Path.{◌≡◌, refl, sym, ◌∙◌, ap, ap₂, subst}
use mathlib.Core.Bool.{Bool, true, false, cond, ◌&&◌}
use mathlib.Core.List.Memᴰ
use mathlib.Core.List.{List, [], ◌∷◌, map, Memᴰ}
use mathlib.Core.Logic.{◌⊎◌, inl, inr}
use Prim.Native.Nat.{ℕ, ◌+◌, ◌-◌, ◌≤◌}
use native.Mathlib.Omega.{arith}
use lib.Dec.{eqb, T, eqb→eq}
use Rattle.laws.specs.Words.{gather, every, among}
use Rattle.solids.specs.Solids.{Solid, Face, three, four, Tri, tri, element, faces, on_tri, on_tet, on_face, of_face, faces_of}
use Rattle.solids.specs.Cut.{turned, halves, cut_face, first, cut}
use Rattle.solids.specs.Surface.{sides, back, times, owners, by_rule, skin, within}
use Rattle.laws.proofs.TestLaws.{and_left, and_right}
use Rattle.solids.proofs.RenamingLaws.{cuts_at, eqb_on}
use Rattle.solids.proofs.NumberingLaws.{number, number_inj}
use Rattle.solids.proofs.ShapeLaws.{shape, Proper, faces_f, faces-inside}
use Rattle.solids.proofs.HalfLaws.{ways_of, cut_half, at_half}
use Rattle.solids.proofs.SideLaws.{Same, s0, s1, s2, turn, same_back, times-same, owners-in_order, times_on, sides_on, back_on, found}
use Rattle.solids.proofs.LocalTest.{merge, skin_f, merged, way_of, one_half, side_ok, skin_ok, flat_ok, all_flat, local_ok, local_all}

flat-at : (S : List (Tri ℕ)) (k : Face ℕ → ℕ) (fs : List (Face ℕ)) → T (all_flat S fs (map k fs)) → (G : Face ℕ) → Memᴰ G fs → T (every (flat_ok (k G) G) S)
flat-at S k [] h G m = absurd (Memᴰ.not-nil m)
flat-at S k (H ∷ fs) h G m =
    go (flat-at S k fs (and_right (every (flat_ok (k H) H) S) (all_flat S fs (map k fs)) h) G) (Memᴰ.cases_cons m)
  where
    go : (Memᴰ G fs → T (every (flat_ok (k G) G) S)) → (G ≡ H) ⊎ Memᴰ G fs → T (every (flat_ok (k G) G) S)
    go ih (inl e) = subst (λ (X : Face ℕ). T (every (flat_ok (k X) X) S)) (sym e) (and_left (every (flat_ok (k H) H) S) (all_flat S fs (map k fs)) h)
    go ih (inr n) = ih n

-- the corners of t lie in F, from whichever corner t is read
and_turn : (a b c : Bool) → (a && (b && (c && true))) ≡ (b && (c && (a && true)))
and_turn true true true = refl
and_turn true true false = refl
and_turn true false c = refl
and_turn false true true = refl
and_turn false true false = refl
and_turn false false c = refl

within_turn : (t : Tri ℕ) (F : Face ℕ) → within t F ≡ within (turn t) F
within_turn (tri a b c) F = and_turn (among a (of_face F)) (among b (of_face F)) (among c (of_face F))

pub within_same : {t u : Tri ℕ} → Same t u → (F : Face ℕ) → within t F ≡ within u F
within_same (s0 p) F = ap (λ (x : Tri ℕ). within x F) (sym p)
within_same {t} (s1 p) F = within_turn t F ∙ ap (λ (x : Tri ℕ). within x F) (sym p)
within_same {t} (s2 p) F = within_turn t F ∙ within_turn (turn t) F ∙ ap (λ (x : Tri ℕ). within x F) (sym p)

within_on : (f : ℕ → ℕ) → ((p q : ℕ) → f p ≡ f q → p ≡ q) → (t : Tri ℕ) (F : Face ℕ) → within (on_tri f t) (on_face f F) ≡ within t F
within_on f inj (tri a b c) (three p q r) = simp (eqb_on f inj)
within_on f inj (tri a b c) (four p q r s) = simp (eqb_on f inj)

module _ (s : Solid) (vs : List ℕ) (h : Proper s vs) where
  f : ℕ → ℕ
  f = number vs

  inj : (p q : ℕ) → number vs p ≡ number vs q → p ≡ q
  inj = number_inj vs h.apart_all

  -- the sides, the turns and the skin, in places
  S : List (Tri ℕ)
  S = gather sides (shape s (first vs) (ways_of s vs h))

  all : List ℕ
  all = merge (first vs) (faces s) (ways_of s vs h)

  F : List (Tri ℕ)
  F = cuts_at (faces s) all

  ok : T (local_ok s (first vs) (ways_of s vs h))
  ok = at_half s vs h (local_ok s) (local_all s)

  sides_ok : T (every (side_ok S F) S)
  unfolding S all F
  sides_ok = and_left (every (side_ok S F) S) (every (skin_ok S) F && all_flat S (faces s) all) ok

  skin_ok_lem : T (every (skin_ok S) F)
  unfolding S all F
  skin_ok_lem = and_left (every (skin_ok S) F) (all_flat S (faces s) all) (and_right (every (side_ok S F) S) (every (skin_ok S) F && all_flat S (faces s) all) ok)

  flat_ok_lem : T (all_flat S (faces s) all)
  unfolding S all F
  flat_ok_lem = and_right (every (skin_ok S) F) (all_flat S (faces s) all) (and_right (every (side_ok S F) S) (every (skin_ok S) F && all_flat S (faces s) all) ok)

  -- owners and skin, by the renamed lists
  owners_f : (t : Tri ℕ) → owners t (cut (element s vs)) ≡ times t (map (on_tri f) S)
  unfolding f S
  owners_f t =
      ap (owners t) (cut_half s vs h)
      ∙ owners-in_order t (map (on_tet (number vs)) (shape s (first vs) (ways_of s vs h)))
      ∙ ap (times t) (sides_on (number vs) inj (shape s (first vs) (ways_of s vs h)))

  pub owners_shape : (t : Tri ℕ) → owners t (cut (element s vs)) ≡ times t (map (on_tri (number vs)) (gather sides (shape s (first vs) (ways_of s vs h))))
  unfolding f S
  owners_shape t = owners_f t

  skin-is : (t : Tri ℕ) → times t (skin (by_rule (element s vs))) ≡ times t (map (on_tri f) F)
  unfolding f F all ways_of
  skin-is t = skin_f s vs h t

  -- a renamed triangle is counted as it is in places
  count_at : (t u : Tri ℕ) → Same t (on_tri f u) → (l : List (Tri ℕ)) → times t (map (on_tri f) l) ≡ times u l
  unfolding f
  count_at t u e l = times-same e (map (on_tri (number vs)) l) ∙ times_on (number vs) inj u l

  back_at : (t u : Tri ℕ) → Same t (on_tri f u) → Same (back t) (on_tri f (back u))
  unfolding f
  back_at t u e = subst (λ (x : Tri ℕ). Same (back t) x) (back_on (number vs) inj u) (same_back e)

  -- the one case that a triangle is in: no side, or a side of which the test speaks
  data Case (t : Tri ℕ) : Type 0 where
    no_side : times t (map (on_tri f) S) ≡ 0 → times t (map (on_tri f) F) ≡ 0 → Case t
    side : times t (map (on_tri f) S) ≡ 1 → times t (map (on_tri f) F) + times (back t) (map (on_tri f) S) ≡ 1 → Case t

  case : (t : Tri ℕ) → Case t
  unfolding f
  case t = go (found (number vs) inj (side_ok S F) S sides_ok t)
    where
      in_skin : times t (map (on_tri f) S) ≡ 0
          → (times t (map (on_tri f) F) ≡ 0) ⊎ ((u : Tri ℕ) × Same t (on_tri f u) × T (skin_ok S u)) → times t (map (on_tri f) F) ≡ 0
      in_skin z (inl e) = e
      in_skin z (inr u) = let x = count_at t u.0 u.1 S in let y = eqb→eq (times u.0 S) 1 u.2 in absurd (omega arith)

      go : (times t (map (on_tri f) S) ≡ 0) ⊎ ((u : Tri ℕ) × Same t (on_tri f u) × T (side_ok S F u)) → Case t
      go (inl z) = no_side z (in_skin z (found (number vs) inj (skin_ok S) F skin_ok_lem t))
      go (inr u) =
          let p = eqb→eq (times u.0 S) 1 (and_left (eqb (times u.0 S) 1) (eqb (times u.0 F + times (back u.0) S) 1) u.2) in
          let q = eqb→eq (times u.0 F + times (back u.0) S) 1 (and_right (eqb (times u.0 S) 1) (eqb (times u.0 F + times (back u.0) S) 1) u.2) in
          side (count_at t u.0 u.1 S ∙ p)
          (ap₂ {C = ℕ} (λ m n. m + n) (count_at t u.0 u.1 F) (count_at (back t) (back u.0) (back_at t u.0 u.1) S) ∙ q)

  pub once_f : (t : Tri ℕ) → owners t (cut (element s vs)) ≤ 1
  once_f t = rw (owners_f t) (go (case t))
    where
      go : Case t → times t (map (on_tri f) S) ≤ 1
      go (no_side p q) = omega arith
      go (side p q) = omega arith

  pub surface_f : (t : Tri ℕ) → times t (skin (by_rule (element s vs))) ≡ owners t (cut (element s vs)) - owners (back t) (cut (element s vs))
  surface_f t = rw (owners_f t, owners_f (back t), skin-is t) (go (case t))
    where
      go : Case t → times t (map (on_tri f) F) ≡ times t (map (on_tri f) S) - times (back t) (map (on_tri f) S)
      go (no_side p q) = omega arith
      go (side p q) = omega arith

  pub flat_f : (t : Tri ℕ) (X : Face ℕ) → Memᴰ X (faces_of (element s vs)) → 1 ≤ owners t (cut (element s vs)) → T (within t X) → times t (cut_face X) ≡ 1
  unfolding f all ways_of
  flat_f t X m l w = go (Memᴰ.of_map (on_face (number vs)) (faces s) (subst (λ (fs : List (Face ℕ)). Memᴰ X fs) (faces_f s vs h) m))
    where
      go : (G : Face ℕ) × Memᴰ G (faces s) × (on_face (number vs) G ≡ X) → times t (cut_face X) ≡ 1
      go g = out (found (number vs) inj (flat_ok k G) S (flat-at S (way_of (number vs)) (faces s) flat G g.1) t)
        where
          G : Face ℕ
          G = g.0

          k : ℕ
          k = way_of (number vs) G

          flat : T (all_flat S (faces s) (map (way_of (number vs)) (faces s)))
          flat = subst (λ (ks : List ℕ). T (all_flat S (faces s) ks)) (sym (merged s vs h (faces s) (faces-inside s))) flat_ok_lem

          out : (times t (map (on_tri f) S) ≡ 0) ⊎ ((u : Tri ℕ) × Same t (on_tri f u) × T (flat_ok k G u)) → times t (cut_face X) ≡ 1
          out (inl z) = let o = owners_f t in absurd (omega arith)
          out (inr u) =
              ap (λ (Y : Face ℕ). times t (cut_face Y)) (sym g.2)
              ∙ one_half s vs h t G
              ∙ count_at t u.0 u.1 (halves (turned k G))
              ∙ eqb→eq (times u.0 (halves (turned k G))) 1 (pass (within u.0 G) inw u.2)
            where
              inw : T (within u.0 G)
              inw = subst T (ap (within t) (sym g.2) ∙ within_same u.1 (on_face (number vs) G) ∙ within_on (number vs) inj u.0 G) w

              pass : (b : Bool) → T b → T (cond b (eqb (times u.0 (halves (turned k G))) 1) true) → T (eqb (times u.0 (halves (turned k G))) 1)
              pass true p q = q
              pass false p q = absurd p
