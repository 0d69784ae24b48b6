-- Facts of one element that the mesh needs.
-- Assumes nothing.
use mathlib.Core.Path.{◌≡◌, refl, sym, ◌∙◌, ap, ap₂, subst}
use mathlib.Core.Bool.{Bool, true, false, cond, ◌&&◌, ◌||◌}
use mathlib.Core.List.Memᴰ
use mathlib.Core.List.{List, [], ◌∷◌, map, Memᴰ}
use mathlib.Core.Logic.{◌⊎◌, inl, inr, ◌≢◌}
use Prim.Native.Nat.{ℕ, zero, suc, ◌+◌, ◌≤◌, ◌<◌}
use native.Mathlib.Nat.{le_of_suc-le-suc, not-suc-le-zero}
use native.Mathlib.Omega.{arith}
use lib.Dec.{eqb, T, eqb→eq, eqb_refl, ltb→lt}
use borrow.Author.Tests.{ne_eqb}
use lib.ListN.{length, get_or}
use Rattle.laws.specs.Words.{gather, every, among, distinct, count}
use Rattle.solids.specs.Solids.{Solid, tetrahedron, pyramid, prism, hexahedron, Face, three, four, Tri, tri, tet, element, corners, faces, at, on_tri, on_face, of_face, of_tri, holds, faces_of}
use Rattle.solids.specs.Cut.{turned, turns, halves, cut_face, lowest_first, first, cut}
use Rattle.solids.specs.Fit.{same_set}
use Rattle.solids.specs.Surface.{sides, same_tri, times, owners, within}
use Rattle.laws.proofs.TestLaws.{and_left, and_right, T_true, true-T, not_among_cons, distinct_cons}
use Rattle.laws.proofs.EveryLaws.{every-at, every_implies, every_map}
use Rattle.solids.proofs.RenamingLaws.{apart_on}
use Rattle.solids.proofs.NumberingLaws.{number, number_inj, inside}
use Rattle.solids.proofs.ShapeLaws.{shape, Proper, faces_f, faces-inside, at_f}
use Rattle.solids.proofs.HalfLaws.{all_halves, ways_of, at_half}
use Rattle.solids.proofs.SideLaws.{Same, s0, s1, s2, turn, same-sym, test_same, found}
use Rattle.solids.proofs.ClosedElement.{owners_shape, within_same}
use Rattle.solids.proofs.TurnLaws.{of_four, apart_faces}
use Rattle.solids.proofs.RelistedLaws.{among_on}
use Rattle.solids.proofs.CycleLaws.{FaceApart, holds-next}

-- corners of an element
pub at-among : (vs : List ℕ) (p : ℕ) → T (inside (length vs) p) → T (among (at vs p) vs)
at-among vs zero h = absurd h
at-among vs (suc i) h = go vs i (ltb→lt i (length vs) h)
  where
    go : (vs : List ℕ) (i : ℕ) → i < length vs → T (among (get_or vs i 0) vs)
    go [] i l = absurd (not-suc-le-zero l)
    go (v ∷ vs) zero l = rw (T_true (eqb v v) (eqb_refl v)) tt
    go (v ∷ vs) (suc i) l = or_right (eqb (get_or vs i 0) v) (among (get_or vs i 0) vs) (go vs i (le_of_suc-le-suc l))
      where
        or_right : (a b : Bool) → T b → T (a || b)
        or_right true b t = tt
        or_right false b t = t

pub of_face_on : (f : ℕ → ℕ) (F : Face ℕ) → of_face (on_face f F) ≡ map f (of_face F)
of_face_on f (three p q r) = refl
of_face_on f (four p q r s) = refl

of_tri_on : (f : ℕ → ℕ) (t : Tri ℕ) → of_tri (on_tri f t) ≡ map f (of_tri t)
of_tri_on f (tri p q r) = refl

faces-apart : (s : Solid) → T (apart_faces (faces s))
faces-apart tetrahedron = tt
faces-apart pyramid = tt
faces-apart prism = tt
faces-apart hexahedron = tt

abbrev once_ok : List (Face ℕ) → Face ℕ → Bool
once_ok fs F = eqb (count (λ G. same_set (of_face F) (of_face G)) fs) 1

faces-once : (s : Solid) → T (every (once_ok (faces s)) (faces s))
faces-once tetrahedron = tt
faces-once pyramid = tt
faces-once prism = tt
faces-once hexahedron = tt

abbrev corners_ok : Solid → ℕ → List ℕ → Bool
corners_ok s a ks = every (λ u. distinct (of_tri u) && every (inside (corners s)) (of_tri u)) (gather sides (shape s a ks))

all_corners : (s : Solid) → T (all_halves s (corners_ok s))
all_corners tetrahedron = tt
all_corners pyramid = tt
all_corners prism = tt
all_corners hexahedron = tt

-- tests under a renaming
module _ (f : ℕ → ℕ) (inj : (p q : ℕ) → f p ≡ f q → p ≡ q) where
  pub all_among : (l m : List ℕ) → every (λ v. among v (map f m)) (map f l) ≡ every (λ v. among v m) l
  all_among [] m = refl
  all_among (x ∷ l) m = ap₂ {C = Bool} (λ a b. a && b) (among_on f inj x m) (all_among l m)

  same_set_on : (F G : Face ℕ) → same_set (of_face (on_face f F)) (of_face (on_face f G)) ≡ same_set (of_face F) (of_face G)
  same_set_on F G =
      ap₂ {C = Bool} same_set (of_face_on f F) (of_face_on f G)
      ∙ ap₂ {C = Bool} (λ a b. a && b) (all_among (of_face F) (of_face G)) (all_among (of_face G) (of_face F))

  count_on : (F : Face ℕ) (fs : List (Face ℕ)) → count (λ G. same_set (of_face (on_face f F)) (of_face G)) (map (on_face f) fs) ≡ count (λ G. same_set (of_face F) (of_face G)) fs
  count_on F [] = refl
  count_on F (G ∷ fs) = ap₂ {C = ℕ} (λ b n. cond b 1 0 + n) (same_set_on F G) (count_on F fs)

  face_apart_on : (F : Face ℕ) → T (of_four F) → FaceApart (on_face f F)
  face_apart_on (three p q r) h = tt
  face_apart_on (four p q r s) h = apart_on f inj (tet p q r s) h

-- a triangle that occurs, and what holds of all
pub found₀ : (P : Tri ℕ → Bool) (l : List (Tri ℕ)) → T (every P l) → (t : Tri ℕ) → 1 ≤ times t l → (u : Tri ℕ) × Same t u × T (P u)
found₀ P [] h t k = absurd (not-suc-le-zero k)
found₀ P (u ∷ l) h t k = go (same_tri t u) refl k (found₀ P l (and_right (P u) (every P l) h) t)
  where
    go : (b : Bool) → same_tri t u ≡ b → 1 ≤ cond b 1 0 + times t l → (1 ≤ times t l → (v : Tri ℕ) × Same t v × T (P v)) → (v : Tri ℕ) × Same t v × T (P v)
    go true e k ih = (u, test_same t u (true-T e), and_left (P u) (every P l) h)
    go false e k ih = ih (omega arith)

and_turn : (a b c : Bool) → (a && (b && (c && true))) ≡ (b && (c && (a && true)))
and_turn true true true = refl
and_turn true true false = refl
and_turn true false c = refl
and_turn false true true = refl
and_turn false true false = refl
and_turn false false c = refl

pub every-same : (P : ℕ → Bool) {t u : Tri ℕ} → Same t u → every P (of_tri t) ≡ every P (of_tri u)
every-same P (s0 p) = ap (λ (x : Tri ℕ). every P (of_tri x)) (sym p)
every-same P {t = tri a b c} (s1 p) = and_turn (P a) (P b) (P c) ∙ ap (λ (x : Tri ℕ). every P (of_tri x)) (sym p)
every-same P {t = tri a b c} (s2 p) = and_turn (P a) (P b) (P c) ∙ and_turn (P b) (P c) (P a) ∙ ap (λ (x : Tri ℕ). every P (of_tri x)) (sym p)

pub record TriApart (a b c : ℕ) : Type 0 where
  pub ab : a ≢ b
  pub ac : a ≢ c
  pub bc : b ≢ c

abbrev pub Apart₃ : Tri ℕ → Type 0
Apart₃ (tri a b c) = TriApart a b c

turn_apart₃ : (t : Tri ℕ) → Apart₃ t → Apart₃ (turn t)
turn_apart₃ (tri a b c) h = record { ab = h.bc; ac = λ e. h.ab (sym e); bc = λ e. h.ac (sym e) }

same-apart : {t u : Tri ℕ} → Same t u → Apart₃ t → Apart₃ u
same-apart (s0 p) h = subst Apart₃ (sym p) h
same-apart {t} (s1 p) h = subst Apart₃ (sym p) (turn_apart₃ t h)
same-apart {t} (s2 p) h = subst Apart₃ (sym p) (turn_apart₃ (turn t) (turn_apart₃ t h))

pub distinct_apart₃ : (a b c : ℕ) → T (distinct (of_tri (tri a b c))) → TriApart a b c
distinct_apart₃ a b c h =
    let u = distinct_cons a (b ∷ c ∷ []) h in
    let v = distinct_cons b (c ∷ []) u.1 in
    let ab = not_among_cons a b (c ∷ []) u.0 in
    record { ab = ab.0; ac = (not_among_cons a c [] ab.1).0; bc = (not_among_cons b c [] v.0).0 }

pub apart₃_distinct : (t : Tri ℕ) → Apart₃ t → T (distinct (of_tri t))
apart₃_distinct (tri a b c) h = simp (ne_eqb a b h.ab, ne_eqb a c h.ac, ne_eqb b c h.bc) tt

apart₃_on : (f : ℕ → ℕ) → ((p q : ℕ) → f p ≡ f q → p ≡ q) → (u : Tri ℕ) → T (distinct (of_tri u)) → Apart₃ (on_tri f u)
apart₃_on f inj (tri a b c) h =
    let u = distinct_apart₃ a b c h in
    record { ab = λ e. u.ab (inj a b e); ac = λ e. u.ac (inj a c e); bc = λ e. u.bc (inj b c e) }

module _ (s : Solid) (vs : List ℕ) (h : Proper s vs) where
  inj : (p q : ℕ) → number vs p ≡ number vs q → p ≡ q
  inj = number_inj vs h.apart_all

  -- a face of the element is a renamed face of the solid
  pub face_of : (F : Face ℕ) → Memᴰ F (faces_of (element s vs)) → (G : Face ℕ) × Memᴰ G (faces s) × (on_face (number vs) G ≡ F)
  face_of F m = Memᴰ.of_map (on_face (number vs)) (faces s) (subst (λ (fs : List (Face ℕ)). Memᴰ F fs) (faces_f s vs h) m)

  pub face_apart : (F : Face ℕ) → Memᴰ F (faces_of (element s vs)) → FaceApart F
  face_apart F m = let g = face_of F m in subst FaceApart g.2 (face_apart_on (number vs) inj g.0 (every-at of_four (faces s) (faces-apart s) g.0 g.1))

  pub face_once : (F : Face ℕ) → Memᴰ F (faces_of (element s vs)) → count (λ G. same_set (of_face F) (of_face G)) (faces_of (element s vs)) ≡ 1
  face_once F m =
      let g = face_of F m in
      ap₂ {C = ℕ} (λ (X : Face ℕ) (fs : List (Face ℕ)). count (λ G. same_set (of_face X) (of_face G)) fs) (sym g.2) (faces_f s vs h)
      ∙ count_on (number vs) inj g.0 (faces s)
      ∙ eqb→eq (count (λ G. same_set (of_face g.0) (of_face G)) (faces s)) 1 (every-at (once_ok (faces s)) (faces s) (faces-once s) g.0 g.1)

  pub number-among : (p : ℕ) → T (inside (corners s) p) → T (among (number vs p) vs)
  number-among p i = subst (λ (v : ℕ). T (among v vs)) (at_f s vs h p i) (at-among vs p (subst (λ (n : ℕ). T (inside n p)) (sym h.many) i))

  pub face_corners : (F : Face ℕ) → Memᴰ F (faces_of (element s vs)) → T (every (λ v. among v vs) (of_face F))
  face_corners F m =
      let g = face_of F m in
      subst (λ (l : List ℕ). T (every (λ v. among v vs) l)) (sym (of_face_on (number vs) g.0) ∙ ap of_face g.2)
      (every_map (λ v. among v vs) (number vs) (inside (corners s)) number-among (of_face g.0)
      (every-at (λ X. every (inside (corners s)) (of_face X)) (faces s) (faces-inside s) g.0 g.1))

  pub owned : (t : Tri ℕ) → 1 ≤ owners t (cut (element s vs)) → Apart₃ t × T (every (λ v. among v vs) (of_tri t))
  owned t l = go (found (number vs) inj ok S (at_half s vs h (corners_ok s) (all_corners s)) t)
    where
      S : List (Tri ℕ)
      S = gather sides (shape s (first vs) (ways_of s vs h))

      ok : Tri ℕ → Bool
      ok u = distinct (of_tri u) && every (inside (corners s)) (of_tri u)

      go : (times t (map (on_tri (number vs)) S) ≡ 0) ⊎ ((u : Tri ℕ) × Same t (on_tri (number vs) u) × T (ok u)) → Apart₃ t × T (every (λ v. among v vs) (of_tri t))
      go (inl z) = let o = owners_shape s vs h t in absurd (omega arith)
      go (inr u) = (
        same-apart (same-sym u.1) (apart₃_on (number vs) inj u.0 (and_left (distinct (of_tri u.0)) (every (inside (corners s)) (of_tri u.0)) u.2)),
        subst T (sym (every-same (λ v. among v vs) u.1))
            (subst (λ (l : List ℕ). T (every (λ v. among v vs) l)) (sym (of_tri_on (number vs) u.0))
            (every_map (λ v. among v vs) (number vs) (inside (corners s)) number-among (of_tri u.0)
            (and_right (distinct (of_tri u.0)) (every (inside (corners s)) (of_tri u.0)) u.2))),
      )

-- a triangle of a cut face lies in the face
pub eqb_self : (v : ℕ) → eqb v v ≡ true
eqb_self v = T_true (eqb v v) (eqb_refl v)

pub or_true : (a : Bool) → (a || true) ≡ true
or_true true = refl
or_true false = refl

halves-within : (X : Face ℕ) → T (every (λ u. within u X) (halves X))
halves-within (three p q r) = simp (eqb_self, or_true) tt
halves-within (four p q r s) = simp (eqb_self, or_true) tt

holds-turned : (v k : ℕ) (F : Face ℕ) → holds v (turned k F) ≡ holds v F
holds-turned v k (three p q r) = refl
holds-turned v zero (four p q r s) = refl
holds-turned v (suc k) (four p q r s) = holds-turned v k (four q r s p) ∙ holds-next v (four p q r s)

pub cut-within : (t : Tri ℕ) (F : Face ℕ) → 1 ≤ times t (cut_face F) → T (within t F)
cut-within t F l =
    let u = found₀ (λ u. within u (lowest_first F)) (cut_face F) (halves-within (lowest_first F)) t l in
    every_implies (λ v. holds v (lowest_first F)) (λ v. holds v F) (λ v x. subst T (holds-turned v (turns F) F) x) (of_tri t)
    (subst T (sym (within_same u.1 (lowest_first F))) u.2)
