-- Two elements that meet in whole faces: what one owns, the other does not, and what crosses their common face.
-- Assumes nothing.
use mathlib.Core.Path.{◌≡◌, refl, sym, ◌∙◌, ap, subst}
use mathlib.Core.Bool.{Bool, true, false, cond, ◌&&◌}
use mathlib.Core.List.Memᴰ
use mathlib.Core.List.{List, [], ◌∷◌, Memᴰ}
use mathlib.Core.Logic.{◌⊎◌, inl, inr}
use Prim.Native.Nat.{ℕ, zero, suc, ◌+◌, ◌-◌, ◌≤◌}
use native.Mathlib.Nat.{not-suc-le-zero}
use native.Mathlib.Omega.{arith}
use lib.Dec.{T}
use Rattle.laws.specs.Words.{gather, every, among, count}
use Rattle.solids.specs.Solids.{Face, Tri, tri, Element, element, of_face, of_tri, holds, faces_of, corners_of}
use Rattle.solids.specs.Fit.{proper, same_set}
use Rattle.solids.specs.Surface.{back, same_tri, times, owners, within, Piece, skin, Closed}
use Rattle.laws.proofs.TestLaws.{and_both, and_left, true-T}
use Rattle.laws.proofs.EveryLaws.{every_both, every_implies, count_append, among-every}
use Rattle.solids.proofs.ShapeLaws.{from_proper}
use Rattle.solids.proofs.CycleLaws.{back-back}
use Rattle.solids.proofs.FaceFacts.{Apart₃, distinct_apart₃, face_corners, face_once}
use Rattle.solids.proofs.MeetLaws.{Shared, Meet}
use Rattle.solids.proofs.SetLaws.{sub_every}

-- what is known of a piece of a proper element
pub record Good (p : Piece) : Type 0 where
  pub closed_up : Closed p
  pub of_face_lem : (F : Face ℕ) → Memᴰ F (faces_of p.whole) → T (every (λ v. among v (corners_of p.whole)) (of_face F))
  pub faces_differ : (F : Face ℕ) → Memᴰ F (faces_of p.whole) → count (λ G. same_set (of_face F) (of_face G)) (faces_of p.whole) ≡ 1

pub good : (p : Piece) → T (proper p.whole) → Closed p → Good p
good p h c = record { closed_up = c; of_face_lem = of_face_lem p.whole h; faces_differ = faces_differ p.whole h }
  where
    of_face_lem : (e : Element) → T (proper e) → (F : Face ℕ) → Memᴰ F (faces_of e) → T (every (λ v. among v (corners_of e)) (of_face F))
    of_face_lem (element s vs) h = face_corners s vs (from_proper s vs h)

    faces_differ : (e : Element) → T (proper e) → (F : Face ℕ) → Memᴰ F (faces_of e) → count (λ G. same_set (of_face F) (of_face G)) (faces_of e) ≡ 1
    faces_differ (element s vs) h = face_once s vs (from_proper s vs h)

-- sums over a list
unfoldable pub total : {A : Type 0} → (A → ℕ) → List A → ℕ
total g [] = 0
total g (x ∷ l) = g x + total g l

module _ {A : Type 0} (g : A → ℕ) where
  pub total_mem : (l : List A) (x : A) → Memᴰ x l → g x ≤ total g l
  unfolding total
  total_mem [] x m = absurd (Memᴰ.not-nil m)
  total_mem (y ∷ l) x m = go (total_mem l x) (Memᴰ.cases_cons m)
    where
      go : (Memᴰ x l → g x ≤ total g l) → (x ≡ y) ⊎ Memᴰ x l → g x ≤ g y + total g l
      go ih (inl e) = let k = ap g e in omega arith
      go ih (inr n) = let k = ih n in omega arith

-- triangles of a list, member by member
pub times-gather : {A : Type 0} (t : Tri ℕ) (g : A → List (Tri ℕ)) (l : List A) → times t (gather g l) ≡ total (λ x. times t (g x)) l
unfolding total
times-gather t g [] = refl
times-gather t g (x ∷ l) = count_append (same_tri t) (g x) (gather g l) ∙ ap {B = ℕ} (λ n. times t (g x) + n) (times-gather t g l)

pub face_le : (t : Tri ℕ) (p : Piece) (F : Face ℕ) → Memᴰ F (faces_of p.whole) → times t (p.triangles_on F) ≤ times t (skin p)
face_le t p F m = rw (times-gather t p.triangles_on (faces_of p.whole)) (total_mem (λ G. times t (p.triangles_on G)) (faces_of p.whole) F m)

and_swap : (a b c : Bool) → T (a && (b && (c && true))) → T (a && (c && (b && true)))
and_swap true true true t = tt
and_swap true true false t = absurd t
and_swap true false c t = absurd t
and_swap false b c t = absurd t

every_back : (P : ℕ → Bool) (t : Tri ℕ) → T (every P (of_tri (back t))) → T (every P (of_tri t))
every_back P (tri a b c) h = and_swap (P a) (P c) (P b) h

pub count_mem : {A : Type 0} (P : A → Bool) (l : List A) (x : A) → Memᴰ x l → T (P x) → 1 ≤ count P l
count_mem P [] x m h = absurd (Memᴰ.not-nil m)
count_mem P (y ∷ l) x m h = go (P y) refl (count_mem P l x) (Memᴰ.cases_cons m)
  where
    go : (b : Bool) → P y ≡ b → (Memᴰ x l → T (P x) → 1 ≤ count P l) → (x ≡ y) ⊎ Memᴰ x l → 1 ≤ cond b 1 0 + count P l
    go true e ih m = omega arith
    go false e ih (inl k) = absurd (subst T (ap P k ∙ e) h)
    go false e ih (inr k) = let z = ih k h in omega arith

pub count-some : {A : Type 0} (P : A → Bool) (l : List A) → 1 ≤ count P l → (x : A) × Memᴰ x l × T (P x)
count-some P [] h = absurd (not-suc-le-zero h)
count-some {A} P (y ∷ l) h = go (P y) refl h (count-some P l)
  where
    go : (b : Bool) → P y ≡ b → 1 ≤ cond b 1 0 + count P l → (1 ≤ count P l → (x : A) × Memᴰ x l × T (P x)) → (x : A) × Memᴰ x (y ∷ l) × T (P x)
    go true e h ih = (y, Memᴰ.head refl, true-T e)
    go false e h ih = let r = ih (omega arith) in (r.0, Memᴰ.tail r.1, r.2)

-- the corners of a side are apart, and the element's
has : {p : Piece} → Good p → (t : Tri ℕ) → 1 ≤ owners t p.tets → Apart₃ t × T (every (λ v. among v (corners_of p.whole)) (of_tri t))
has g (tri a b c) h = let o = g.closed_up.own (tri a b c) h in (distinct_apart₃ a b c o.0, o.1)

module _ (e x : Piece) (ge : Good e) (gx : Good x) (m : Meet e x) where
  -- the shared face, with a triangle whose corners both have
  inside_shared : (t : Tri ℕ) (S : Shared e x) → T (every (λ v. among v (corners_of e.whole)) (of_tri t)) → T (every (λ v. among v (corners_of x.whole)) (of_tri t))
      → T (within t S.mine) × T (within t S.theirs)
  inside_shared t S p q =
      let a : T (within t S.mine) = every_both (λ v. among v (corners_of e.whole)) (λ v. among v (corners_of x.whole)) (λ v. holds v S.mine) S.all (of_tri t) p q in
      (a, every_implies (λ v. holds v S.mine) (λ v. holds v S.theirs) (λ v h. subst T (sym (S.same v)) h) (of_tri t) a)

  -- A: no side has two owners in one direction
  not_both : (t : Tri ℕ) → 1 ≤ owners t e.tets → 1 ≤ owners t x.tets → ⊥
  not_both t p q =
      let c = has ge t p in
      let d = has gx t q in
      let S = m t c.0 c.1 d.1 in
      let w = inside_shared t S c.1 d.1 in
      let mine : times t (e.triangles_on S.mine) ≡ 1 = ge.closed_up.flat t S.mine S.in_mine p w.0 in
      let theirs : times t (x.triangles_on S.theirs) ≡ 1 = gx.closed_up.flat t S.theirs S.in_theirs q w.1 in
      let over = S.across t in
      let f₁ = face_le t e S.mine S.in_mine in
      let f₂ = face_le (back t) e S.mine S.in_mine in
      let s₁ = ge.closed_up.surface t in
      let s₂ : times (back t) (skin e) ≡ owners (back t) e.tets - owners t e.tets
      = ge.closed_up.surface (back t) ∙ ap {B = ℕ} (λ (u : Tri ℕ). owners (back t) e.tets - owners u e.tets) (back-back t) in
      omega arith

  pub alone : (t : Tri ℕ) → 1 ≤ owners t e.tets → owners t x.tets ≡ 0
  alone t p = go (owners t x.tets) refl
    where
      go : (n : ℕ) → owners t x.tets ≡ n → owners t x.tets ≡ 0
      go zero k = k
      go (suc n) k = absurd (not_both t p (omega arith))

  -- B: where the other owns the reverse, they have a face in common of which t is a triangle
  pub faced : (t : Tri ℕ) → 1 ≤ owners t e.tets → 1 ≤ owners (back t) x.tets
      → (F : Face ℕ) × Memᴰ F (faces_of e.whole) × (1 ≤ times t (e.triangles_on F)) × (1 ≤ count (λ G. same_set (of_face F) (of_face G)) (faces_of x.whole))
  faced t p q =
      let c = has ge t p in
      let d = every_back (λ v. among v (corners_of x.whole)) t (has gx (back t) q).1 in
      let S = m t c.0 c.1 d in
      let w = inside_shared t S c.1 d in
      let one : times t (e.triangles_on S.mine) ≡ 1 = ge.closed_up.flat t S.mine S.in_mine p w.0 in (
        S.mine,
        S.in_mine,
        omega arith,
        count_mem (λ G. same_set (of_face S.mine) (of_face G)) (faces_of x.whole) S.theirs S.in_theirs
            (and_both (every (λ v. among v (of_face S.theirs)) (of_face S.mine)) (every (λ v. among v (of_face S.mine)) (of_face S.theirs))
            (sub_every (of_face S.mine) (of_face S.theirs) (λ v h. subst T (sym (S.same v)) h))
            (sub_every (of_face S.theirs) (of_face S.mine) (λ v h. subst T (S.same v) h))),
      )

  -- C: where the other has the face too, it owns the reverse
  pub crossed : (t : Tri ℕ) (F : Face ℕ) → Memᴰ F (faces_of e.whole) → 1 ≤ times t (e.triangles_on F) → 1 ≤ count (λ G. same_set (of_face F) (of_face G)) (faces_of x.whole)
      → 1 ≤ owners (back t) x.tets
  crossed t F m_f k n =
      let H = count-some (λ G. same_set (of_face F) (of_face G)) (faces_of x.whole) n in
      let f₁ = face_le t e F m_f in
      let s₁ = ge.closed_up.surface t in
      let p : 1 ≤ owners t e.tets = omega arith in
      let c = has ge t p in
      let over : T (every (λ v. among v (of_face H.0)) (of_face F))
      = and_left (every (λ v. among v (of_face H.0)) (of_face F)) (every (λ v. among v (of_face F)) (of_face H.0)) H.2 in
      let d : T (every (λ v. among v (corners_of x.whole)) (of_tri t))
      = every_implies (λ v. holds v F) (λ v. among v (corners_of x.whole))
      (λ v h. among-every (λ w. among w (corners_of x.whole)) (of_face H.0) (gx.of_face_lem H.0 H.1) v (among-every (λ w. among w (of_face H.0)) (of_face F) over v h))
      (of_tri t) (ge.closed_up.lies t F m_f k) in
      let S = m t c.0 c.1 d in
      let w = inside_shared t S c.1 d in
      let one : times t (e.triangles_on S.mine) ≡ 1 = ge.closed_up.flat t S.mine S.in_mine p w.0 in
      let two : times (back t) (x.triangles_on S.theirs) ≡ times t (e.triangles_on S.mine)
      = S.across (back t) ∙ ap {B = ℕ} (λ (u : Tri ℕ). times u (e.triangles_on S.mine)) (back-back t) in
      let f₂ = face_le (back t) x S.theirs S.in_theirs in
      let s₂ = gx.closed_up.surface (back t) in
      omega arith
