-- The surface of a mesh of pieces: whoever chose the tetrahedra and the triangles of the faces, their surface is the triangles of the outer faces, if
-- each piece is closed, the elements fit, and pieces agree on shared faces.
-- Assumes nothing.
use mathlib.Core.Path.{◌≡◌, refl, sym, ◌∙◌, ap, subst}
use mathlib.Core.Bool.{Bool, true, false, cond}
use mathlib.Core.List.Memᴰ
use mathlib.Core.List.{List, [], ◌∷◌, ◌++◌, Memᴰ}
use mathlib.Core.Logic.{◌⊎◌, inl, inr}
use Prim.Native.Nat.{ℕ, zero, suc, ◌+◌, ◌-◌, ◌≤◌}
use native.Mathlib.Nat.{not-suc-le-zero}
use native.Mathlib.Omega.{arith}
use lib.Dec.{T}
use borrow.Author.Tests.{eqb-true, eqb-false}
use Rattle.laws.specs.Words.{gather, every, keep, count}
use Rattle.solids.specs.Solids.{Face, Tri, of_face, faces_of}
use Rattle.solids.specs.Fit.{proper, same_set, fits, fitting, is_outer}
use Rattle.solids.specs.Surface.{sides, back, same_tri, times, owners, Piece, Closed, Agreeing, wholes, all_tets, outer_triangles, SurfaceOf}
use Rattle.laws.proofs.TestLaws.{and_left, and_right}
use Rattle.laws.proofs.EveryLaws.{every-at, count_append}
use Rattle.laws.proofs.ListLaws.{gather_append}
use Rattle.solids.proofs.MeetLaws.{Meet, meet_sym, fits_meet}
use Rattle.solids.proofs.PairLaws.{Good, good, total, total_mem, times-gather, alone, faced, crossed}

module _ {A : Type 0} where
  pub keep_append : (P : A → Bool) (l m : List A) → keep P (l ++ m) ≡ keep P l ++ keep P m
  keep_append P [] m = refl
  keep_append P (x ∷ l) m = go (P x) (keep_append P l m)
    where
      go : (b : Bool) → keep P (l ++ m) ≡ keep P l ++ keep P m → cond b (x ∷ keep P (l ++ m)) (keep P (l ++ m)) ≡ cond b (x ∷ keep P l) (keep P l) ++ keep P m
      go true e = ap {B = List A} (λ k. x ∷ k) e
      go false e = e

module _ {A : Type 0} (g : A → ℕ) where
  total_append : (l m : List A) → total g (l ++ m) ≡ total g l + total g m
  unfolding total
  total_append [] m = omega arith
  total_append (x ∷ l) m = let h = total_append l m in omega arith

  total-zero : (l : List A) → ((x : A) → Memᴰ x l → g x ≡ 0) → total g l ≡ 0
  unfolding total
  total-zero [] h = refl
  total-zero (x ∷ l) h = let a = h x (Memᴰ.head refl) in let b = total-zero l (λ y m. h y (Memᴰ.tail m)) in omega arith

  -- the sum with one member singled out
  total-split : (l : List A) (e : A) (r : List A) → total g (l ++ (e ∷ r)) ≡ total g l + (g e + total g r)
  unfolding total
  total-split l e r = total_append l (e ∷ r)

-- pieces with one singled out
record Split (es : List Piece) : Type 0 where
  before : List Piece
  one : Piece
  after : List Piece
  whole : es ≡ before ++ (one ∷ after)

find_one : (g : Piece → ℕ) (es : List Piece) → 1 ≤ total g es → (s : Split es) × (1 ≤ g s.one)
unfolding total
find_one g [] h = absurd (not-suc-le-zero h)
find_one g (e ∷ es) h = go (g e) refl (find_one g es)
  where
    go : (n : ℕ) → g e ≡ n → (1 ≤ total g es → (s : Split es) × (1 ≤ g s.one)) → (s : Split (e ∷ es)) × (1 ≤ g s.one)
    go zero k ih =
        let r = ih (omega arith) in
        (record { before = e ∷ r.0.before; one = r.0.one; after = r.0.after; whole = ap {B = List Piece} (λ l. e ∷ l) r.0.whole }, r.1)
    go (suc n) k ih = (record { before = []; one = e; after = es; whole = refl }, omega arith)

owners_mesh : (t : Tri ℕ) (ps : List Piece) → owners t (all_tets ps) ≡ total (λ e. owners t e.tets) ps
unfolding total
owners_mesh t [] = refl
owners_mesh t (e ∷ ps) =
    ap (times t) (gather_append sides e.tets (all_tets ps))
    ∙ count_append (same_tri t) (gather sides e.tets) (gather sides (all_tets ps))
    ∙ ap {B = ℕ} (λ n. owners t e.tets + n) (owners_mesh t ps)

count_mesh : (Q : Face ℕ → Bool) (ps : List Piece) → count Q (gather faces_of (wholes ps)) ≡ total (λ e. count Q (faces_of e.whole)) ps
unfolding total
count_mesh Q [] = refl
count_mesh Q (e ∷ ps) = count_append Q (faces_of e.whole) (gather faces_of (wholes ps)) ∙ ap {B = ℕ} (λ n. count Q (faces_of e.whole) + n) (count_mesh Q ps)

-- of the faces, those that are kept have no more triangles
module _ (t : Tri ℕ) (tris : Face ℕ → List (Tri ℕ)) (P : Face ℕ → Bool) where
  keep_le : (fs : List (Face ℕ)) → times t (gather tris (keep P fs)) ≤ total (λ F. times t (tris F)) fs
  unfolding total
  keep_le [] = omega arith
  keep_le (F ∷ fs) = go (P F) (keep_le fs)
    where
      go : (b : Bool) → times t (gather tris (keep P fs)) ≤ total (λ G. times t (tris G)) fs
          → times t (gather tris (cond b (F ∷ keep P fs) (keep P fs))) ≤ times t (tris F) + total (λ G. times t (tris G)) fs
      go true h = let k = count_append (same_tri t) (tris F) (gather tris (keep P fs)) in omega arith
      go false h = omega arith

  -- of the faces one has the triangle: it is counted where that face is kept
  pick : (fs : List (Face ℕ)) → total (λ F. times t (tris F)) fs ≡ 1
      → (F : Face ℕ) × Memᴰ F fs × (times t (tris F) ≡ 1) × (times t (gather tris (keep P fs)) ≡ cond (P F) 1 0)
  unfolding total
  pick [] h = absurd (omega arith)
  pick (G ∷ fs) h = go (times t (tris G)) refl (pick fs)
    where
      K : ℕ
      K = times t (gather tris (keep P fs))

      kept : (b : Bool) → times t (gather tris (cond b (G ∷ keep P fs) (keep P fs))) ≡ cond b (times t (tris G)) 0 + times t (gather tris (keep P fs))
      kept true = count_append (same_tri t) (tris G) (gather tris (keep P fs))
      kept false = omega arith

      go : (n : ℕ) → times t (tris G) ≡ n
          → (total (λ F. times t (tris F)) fs ≡ 1 → (F : Face ℕ) × Memᴰ F fs × (times t (tris F) ≡ 1) × (times t (gather tris (keep P fs)) ≡ cond (P F) 1 0))
          → (F : Face ℕ) × Memᴰ F (G ∷ fs) × (times t (tris F) ≡ 1) × (times t (gather tris (keep P (G ∷ fs))) ≡ cond (P F) 1 0)
      go zero k ih =
          let r = ih (omega arith) in
          (r.0, Memᴰ.tail r.1, r.2, kept (P G) ∙ none (P G) ∙ r.3)
        where
          none : (b : Bool) → cond b (times t (tris G)) 0 + times t (gather tris (keep P fs)) ≡ times t (gather tris (keep P fs))
          none true = omega arith
          none false = omega arith
      go (suc n) k ih = (G, Memᴰ.head refl, omega arith, kept (P G) ∙ this (P G))
        where
          this : (b : Bool) → cond b (times t (tris G)) 0 + times t (gather tris (keep P fs)) ≡ cond b 1 0
          this true = let z = keep_le fs in omega arith
          this false = let z = keep_le fs in omega arith

module _ (g : Face ℕ → ℕ) where
  unique : (fs : List (Face ℕ)) → total g fs ≡ 1 → (F G : Face ℕ) → Memᴰ F fs → Memᴰ G fs → 1 ≤ g F → 1 ≤ g G → F ≡ G
  unfolding total
  unique [] h F G m n p q = absurd (Memᴰ.not-nil m)
  unique (H ∷ fs) h F G m n p q = go (λ k x y. unique fs k F G x y p q) (Memᴰ.cases_cons m) (Memᴰ.cases_cons n)
    where
      go : (total g fs ≡ 1 → Memᴰ F fs → Memᴰ G fs → F ≡ G) → (F ≡ H) ⊎ Memᴰ F fs → (G ≡ H) ⊎ Memᴰ G fs → F ≡ G
      go ih (inl a) (inl b) = a ∙ sym b
      go ih (inl a) (inr b) = let x = ap g a in let y = total_mem g fs G b in absurd (omega arith)
      go ih (inr a) (inl b) = let x = ap g b in let y = total_mem g fs F a in absurd (omega arith)
      go ih (inr a) (inr b) = let x = total_mem g fs F a in ih (omega arith) a b

-- every two pieces share a face as soon as they share three corners
abbrev Meeting : List Piece → Type 0
Meeting [] = Unit {0}
Meeting (p ∷ ps) = ((q : Piece) → Memᴰ q ps → Meet p q) × Meeting ps

meeting : (ps : List Piece) → T (fitting (wholes ps)) → Agreeing ps → Meeting ps
unfolding fitting
meeting [] f a = tt
meeting (p ∷ ps) f a = (
  λ q m. fits_meet p q (a.0 q m) (every-at (fits p.whole) (wholes ps) (and_left (every (fits p.whole) (wholes ps)) (fitting (wholes ps)) f) q.whole (Memᴰ.map (λ (x : Piece). x.whole) m)),
  meeting ps (and_right (every (fits p.whole) (wholes ps)) (fitting (wholes ps)) f) a.1,
)

meet_before : (l : List Piece) (e : Piece) (r : List Piece) → Meeting (l ++ (e ∷ r)) → (x : Piece) → Memᴰ x l → Meet x e
meet_before [] e r h x m = absurd (Memᴰ.not-nil m)
meet_before (y ∷ l) e r h x m = go (meet_before l e r h.1 x) (Memᴰ.cases_cons m)
  where
    go : (Memᴰ x l → Meet x e) → (x ≡ y) ⊎ Memᴰ x l → Meet x e
    go ih (inl k) = subst (λ (z : Piece). Meet z e) (sym k) (h.0 e (Memᴰ.append_right l (Memᴰ.head refl)))
    go ih (inr k) = ih k

meet_after : (l : List Piece) (e : Piece) (r : List Piece) → Meeting (l ++ (e ∷ r)) → (x : Piece) → Memᴰ x r → Meet e x
meet_after [] e r h x m = h.0 x m
meet_after (y ∷ l) e r h x m = meet_after l e r h.1 x m

total-some : (g : Piece → ℕ) (l : List Piece) → 1 ≤ total g l → (x : Piece) × Memᴰ x l × (1 ≤ g x)
unfolding total
total-some g [] h = absurd (not-suc-le-zero h)
total-some g (y ∷ l) h = go (g y) refl (total-some g l)
  where
    go : (n : ℕ) → g y ≡ n → (1 ≤ total g l → (x : Piece) × Memᴰ x l × (1 ≤ g x)) → (x : Piece) × Memᴰ x (y ∷ l) × (1 ≤ g x)
    go zero k ih = let r = ih (omega arith) in (r.0, Memᴰ.tail r.1, r.2)
    go (suc n) k ih = (y, Memᴰ.head refl, omega arith)

-- an element owns what its skin shows
skin_owned : (t : Tri ℕ) (x : Piece) → Good x → total (λ F. times t (x.triangles_on F)) (faces_of x.whole) ≤ owners t x.tets
skin_owned t x g = let s = g.closed_up.surface t in let k = times-gather t x.triangles_on (faces_of x.whole) in omega arith

module _ (l : List Piece) (e : Piece) (r : List Piece) (goods : (x : Piece) → Memᴰ x (l ++ (e ∷ r)) → Good x) (meets : Meeting (l ++ (e ∷ r))) where
  ge : Good e
  ge = goods e (Memᴰ.append_right l (Memᴰ.head refl))

  gl : (x : Piece) → Memᴰ x l → Good x
  gl x m = goods x (Memᴰ.append_left (e ∷ r) m)

  gr : (x : Piece) → Memᴰ x r → Good x
  gr x m = goods x (Memᴰ.append_right l (Memᴰ.tail m))

  ml : (x : Piece) → Memᴰ x l → Meet e x
  ml x m = meet_sym x e (meet_before l e r meets x m)

  mr : (x : Piece) → Memᴰ x r → Meet e x
  mr x m = meet_after l e r meets x m

  module _ (t : Tri ℕ) (p : 1 ≤ owners t e.tets) where
    alone_l : total (λ x. owners t x.tets) l ≡ 0
    alone_l = total-zero (λ x. owners t x.tets) l (λ x m. alone e x ge (gl x m) (ml x m) t p)

    alone_r : total (λ x. owners t x.tets) r ≡ 0
    alone_r = total-zero (λ x. owners t x.tets) r (λ x m. alone e x ge (gr x m) (mr x m) t p)

    owners_one : owners t (all_tets (l ++ (e ∷ r))) ≡ owners t e.tets
    owners_one =
        owners_mesh t (l ++ (e ∷ r)) ∙ total-split (λ x. owners t x.tets) l e r
        ∙ (let a = alone_l in let b = alone_r in omega arith)

    owners-back : owners (back t) (all_tets (l ++ (e ∷ r)))
        ≡ total (λ x. owners (back t) x.tets) l + (owners (back t) e.tets + total (λ x. owners (back t) x.tets) r)
    owners-back = owners_mesh (back t) (l ++ (e ∷ r)) ∙ total-split (λ x. owners (back t) x.tets) l e r

    -- the outer triangles are those of e
    outer_one : (P : Face ℕ → Bool)
        → times t (gather (λ x. gather x.triangles_on (keep P (faces_of x.whole))) (l ++ (e ∷ r))) ≡ times t (gather e.triangles_on (keep P (faces_of e.whole)))
    outer_one P =
        times-gather t (λ x. gather x.triangles_on (keep P (faces_of x.whole))) (l ++ (e ∷ r)) ∙ total-split K l e r
        ∙ (let a = total-zero K l (λ x m. let s = skin_owned t x (gl x m) in let k = keep_le t x.triangles_on P (faces_of x.whole) in let z = alone e x ge (gl x m) (ml x m) t p in omega arith) in
        let b = total-zero K r (λ x m. let s = skin_owned t x (gr x m) in let k = keep_le t x.triangles_on P (faces_of x.whole) in let z = alone e x ge (gr x m) (mr x m) t p in omega arith) in
        omega arith)
      where
        K : Piece → ℕ
        K x = times t (gather x.triangles_on (keep P (faces_of x.whole)))

    -- how often the corners of a face of e make a face
    module _ (F : Face ℕ) (m_f : Memᴰ F (faces_of e.whole)) (one : times t (e.triangles_on F) ≡ 1) where
      C : Piece → ℕ
      C x = count (λ G. same_set (of_face F) (of_face G)) (faces_of x.whole)

      counted : count (λ G. same_set (of_face F) (of_face G)) (gather faces_of (wholes (l ++ (e ∷ r)))) ≡ total C l + (1 + total C r)
      unfolding C
      counted =
          count_mesh (λ G. same_set (of_face F) (of_face G)) (l ++ (e ∷ r)) ∙ total-split C l e r
          ∙ ap {B = ℕ} (λ n. total C l + (n + total C r)) (ge.faces_differ F m_f)

      -- a face of e alone: no other element owns the reverse
      outer-back : total (λ F. times t (e.triangles_on F)) (faces_of e.whole) ≡ 1 → total C l ≡ 0 → total C r ≡ 0
          → (total (λ x. owners (back t) x.tets) l ≡ 0) × (total (λ x. owners (back t) x.tets) r ≡ 0)
      unfolding C
      outer-back sk zl zr = (
        total-zero (λ x. owners (back t) x.tets) l (λ x m. none x (gl x m) (ml x m) (let k = total_mem C l x m in omega arith)),
        total-zero (λ x. owners (back t) x.tets) r (λ x m. none x (gr x m) (mr x m) (let k = total_mem C r x m in omega arith)),
      )
        where
          none : (x : Piece) → Good x → Meet e x → C x ≡ 0 → owners (back t) x.tets ≡ 0
          none x gx mx z = go (owners (back t) x.tets) refl
            where
              go : (n : ℕ) → owners (back t) x.tets ≡ n → owners (back t) x.tets ≡ 0
              go zero k = k
              go (suc n) k =
                  let H = faced e x ge gx mx t p (omega arith) in
                  let same = unique (λ G. times t (e.triangles_on G)) (faces_of e.whole) sk H.0 F H.1 m_f H.2 (omega arith) in
                  let c : 1 ≤ C x = subst (λ (G : Face ℕ). 1 ≤ count (λ X. same_set (of_face G) (of_face X)) (faces_of x.whole)) same H.3 in
                  absurd (omega arith)

      -- a face of another element too: that one owns the reverse
      inner_back : 1 ≤ total C l + total C r → 1 ≤ total (λ x. owners (back t) x.tets) l + total (λ x. owners (back t) x.tets) r
      unfolding C
      inner_back h = go (total C l) refl
        where
          go : (n : ℕ) → total C l ≡ n → 1 ≤ total (λ x. owners (back t) x.tets) l + total (λ x. owners (back t) x.tets) r
          go zero k =
              let x = total-some C r (omega arith) in
              let o = crossed e x.0 ge (gr x.0 x.1) (mr x.0 x.1) t F m_f (omega arith) x.2 in
              let s = total_mem (λ y. owners (back t) y.tets) r x.0 x.1 in
              omega arith
          go (suc n) k =
              let x = total-some C l (omega arith) in
              let o = crossed e x.0 ge (gl x.0 x.1) (ml x.0 x.1) t F m_f (omega arith) x.2 in
              let s = total_mem (λ y. owners (back t) y.tets) l x.0 x.1 in
              omega arith

    surface_one : times t (outer_triangles (l ++ (e ∷ r))) ≡ owners t (all_tets (l ++ (e ∷ r))) - owners (back t) (all_tets (l ++ (e ∷ r)))
    surface_one = go (owners (back t) e.tets) refl
      where
        P : Face ℕ → Bool
        P = is_outer (wholes (l ++ (e ∷ r)))

        one_e : owners t e.tets ≡ 1
        one_e = let o = ge.closed_up.once t in omega arith

        sk : total (λ F. times t (e.triangles_on F)) (faces_of e.whole) ≡ owners t e.tets - owners (back t) e.tets
        sk = sym (times-gather t e.triangles_on (faces_of e.whole)) ∙ ge.closed_up.surface t

        go : (n : ℕ) → owners (back t) e.tets ≡ n → times t (outer_triangles (l ++ (e ∷ r))) ≡ owners t (all_tets (l ++ (e ∷ r))) - owners (back t) (all_tets (l ++ (e ∷ r)))
        go (suc n) k =
            let a = outer_one P in let b = keep_le t e.triangles_on P (faces_of e.whole) in
            omega (arith, owners_one, owners-back, one_e, sk)
        go zero k = case (pick t e.triangles_on P (faces_of e.whole) (omega (arith, sk, one_e)))
          where
            case : (F : Face ℕ) × Memᴰ F (faces_of e.whole) × (times t (e.triangles_on F) ≡ 1) × (times t (gather e.triangles_on (keep P (faces_of e.whole))) ≡ cond (P F) 1 0)
                → times t (outer_triangles (l ++ (e ∷ r))) ≡ owners t (all_tets (l ++ (e ∷ r))) - owners (back t) (all_tets (l ++ (e ∷ r)))
            case f = by (P f.0) refl f.3
              where
                F : Face ℕ
                F = f.0

                by : (b : Bool) → P f.0 ≡ b → times t (gather e.triangles_on (keep P (faces_of e.whole))) ≡ cond b 1 0
                    → times t (outer_triangles (l ++ (e ∷ r))) ≡ owners t (all_tets (l ++ (e ∷ r))) - owners (back t) (all_tets (l ++ (e ∷ r)))
                by true q w =
                    let c = counted f.0 f.1 f.2 in
                    let d = eqb-true (count (λ G. same_set (of_face f.0) (of_face G)) (gather faces_of (wholes (l ++ (e ∷ r))))) 1 q in
                    let z = outer-back f.0 f.1 f.2 (omega (arith, sk, one_e)) (omega arith) (omega arith) in
                    let a = outer_one P in
                    omega (arith, owners_one, owners-back, one_e)
                by false q w =
                    let c = counted f.0 f.1 f.2 in
                    let d = eqb-false (count (λ G. same_set (of_face f.0) (of_face G)) (gather faces_of (wholes (l ++ (e ∷ r))))) 1 q in
                    let z = inner_back f.0 f.1 f.2 (omega arith) in
                    let a = outer_one P in
                    omega (arith, owners_one, owners-back, one_e)

-- no owner, no outer triangle
surface-none : (ps : List Piece) → ((x : Piece) → Memᴰ x ps → Good x) → (t : Tri ℕ) → total (λ e. owners t e.tets) ps ≡ 0
    → times t (outer_triangles ps) ≡ owners t (all_tets ps) - owners (back t) (all_tets ps)
surface-none ps goods t z =
    let P = is_outer (wholes ps) in
    let a = times-gather t (λ x. gather x.triangles_on (keep P (faces_of x.whole))) ps in
    let b = total-zero (λ x. times t (gather x.triangles_on (keep P (faces_of x.whole)))) ps
    (λ x m. let s = skin_owned t x (goods x m) in let k = keep_le t x.triangles_on P (faces_of x.whole) in let o = total_mem (λ y. owners t y.tets) ps x m in omega arith) in
    omega (arith, owners_mesh t ps)

-- the pieces with one singled out that owns t
module _ (ps : List Piece) (goods : (x : Piece) → Memᴰ x ps → Good x) (meets : Meeting ps) where
  surface_good : SurfaceOf ps
  surface_good = record { once = λ t. once t (total (λ e. owners t e.tets) ps) refl; surface = λ t. surface t (total (λ e. owners t e.tets) ps) refl }
    where
      once : (t : Tri ℕ) (n : ℕ) → total (λ e. owners t e.tets) ps ≡ n → owners t (all_tets ps) ≤ 1
      once t zero k = omega (arith, owners_mesh t ps)
      once t (suc n) k =
          let s = find_one (λ e. owners t e.tets) ps (omega arith) in
          let S = s.0 in
          let G = subst (λ (m : List Piece). (x : Piece) → Memᴰ x m → Good x) S.whole goods in
          let M = subst Meeting S.whole meets in
          subst (λ (m : List Piece). owners t (all_tets m) ≤ 1) (sym S.whole)
          (let o = owners_one S.before S.one S.after G M t s.1 in
          let u = (ge S.before S.one S.after G M).closed_up.once t in
          omega arith)

      surface : (t : Tri ℕ) (n : ℕ) → total (λ e. owners t e.tets) ps ≡ n → times t (outer_triangles ps) ≡ owners t (all_tets ps) - owners (back t) (all_tets ps)
      surface t zero k = surface-none ps goods t k
      surface t (suc n) k =
          let s = find_one (λ e. owners t e.tets) ps (omega arith) in
          let S = s.0 in
          subst (λ (m : List Piece). times t (outer_triangles m) ≡ owners t (all_tets m) - owners (back t) (all_tets m)) (sym S.whole)
          (surface_one S.before S.one S.after (subst (λ (m : List Piece). (x : Piece) → Memᴰ x m → Good x) S.whole goods) (subst Meeting S.whole meets) t s.1)

proper-at : (ps : List Piece) → T (every proper (wholes ps)) → (x : Piece) → Memᴰ x ps → T (proper x.whole)
proper-at ps h x m = every-at proper (wholes ps) h x.whole (Memᴰ.map (λ (y : Piece). y.whole) m)

-- THE MESH: the surface of the tetrahedra is the triangles of the outer faces
pub surface_of : (ps : List Piece) → T (every proper (wholes ps)) → T (fitting (wholes ps)) → ((x : Piece) → Memᴰ x ps → Closed x) → Agreeing ps → SurfaceOf ps
surface_of ps h f c a = surface_good ps (λ x m. good x (proper-at ps h x m) (c x m)) (meeting ps f a)
