-- Two elements that fit: where they share a triangle's corners, they share a face, whose triangles are each other's reverses.
-- Assumes nothing.
use mathlib.Core.Path.{◌≡◌, refl, sym, ◌∙◌, ap, subst}
use mathlib.Core.Bool.{Bool, true, false, cond, ◌&&◌, ◌||◌}
use mathlib.Core.List.{List, [], ◌∷◌, map, Memᴰ}
use mathlib.Core.Logic.{◌⊎◌, inl, inr}
use Prim.Native.Nat.{ℕ, suc}
use native.Mathlib.Omega.{arith}
use lib.Dec.{eqb, leb, T, eqb→eq, leb→le}
use lib.ListN.{length}
use Rattle.laws.specs.Words.{gather, every, some, among, keep}
use Rattle.solids.specs.Solids.{tetrahedron, hexahedron, Face, Tri, tri, Element, element, of_face, of_tri, holds, faces_of, corners_of, Edge, edge, ends, edges_of}
use Rattle.solids.specs.Rotations.{same_face}
use Rattle.solids.specs.Fit.{common, same_set, has_edge, back_face, fits}
use Rattle.solids.specs.Surface.{back, times, Piece, Agree}
use Rattle.laws.proofs.TestLaws.{or_cases, or_left, or_right, and_left, and_right, true-T}
use Rattle.laws.proofs.EveryLaws.{some_at, among-every}
use Rattle.solids.proofs.CycleLaws.{Cycle, test_cycle, holds_across, back-back}
use Rattle.solids.proofs.FaceFacts.{TriApart, Apart₃}

-- a look at the page's samples of fitting (a check of the definition)

abbrev hx : Element
hx = element hexahedron (1 ∷ 2 ∷ 3 ∷ 4 ∷ 5 ∷ 6 ∷ 7 ∷ 8 ∷ [])

fit-samples : map (fits hx) (element hexahedron (5 ∷ 6 ∷ 7 ∷ 8 ∷ 9 ∷ 10 ∷ 11 ∷ 12 ∷ []) ∷ element hexahedron (5 ∷ 8 ∷ 7 ∷ 6 ∷ 9 ∷ 12 ∷ 11 ∷ 10 ∷ []) ∷ element tetrahedron (5 ∷ 6 ∷ 7 ∷ 9 ∷ []) ∷ [])
    ≡ true ∷ false ∷ false ∷ []
unfolding fits
fit-samples = refl

-- what a face shared by two pieces is
pub record Shared (p q : Piece) : Type 0 where
  pub mine : Face ℕ
  pub theirs : Face ℕ
  pub in_mine : Memᴰ mine (faces_of p.whole)
  pub in_theirs : Memᴰ theirs (faces_of q.whole)
  pub across : (t : Tri ℕ) → times t (q.triangles_on theirs) ≡ times (back t) (p.triangles_on mine)
  pub same : (v : ℕ) → holds v theirs ≡ holds v mine
  pub all : (v : ℕ) → T (among v (corners_of p.whole)) → T (among v (corners_of q.whole)) → T (holds v mine)

shared_sym : {p q : Piece} → Shared p q → Shared q p
shared_sym {p} h = record {
  mine = h.theirs;
  theirs = h.mine;
  in_mine = h.in_theirs;
  in_theirs = h.in_mine;
  across = λ t. ap (λ (u : Tri ℕ). times u (p.triangles_on h.mine)) (sym (back-back t)) ∙ sym (h.across (back t));
  same = λ v. sym (h.same v);
  all = λ v p q. subst T (sym (h.same v)) (h.all v q p);
}

-- two pieces share a face as soon as they share the three corners of a triangle
abbrev pub Meet : Piece → Piece → Type 0
Meet p q =
    (t : Tri ℕ) → Apart₃ t → T (every (λ v. among v (corners_of p.whole)) (of_tri t)) → T (every (λ v. among v (corners_of q.whole)) (of_tri t))
    → Shared p q

pub meet_sym : (p q : Piece) → Meet p q → Meet q p
meet_sym p q m t h a b = shared_sym (m t h b a)

pub among-keep : (P : ℕ → Bool) (l : List ℕ) (v : ℕ) → T (among v l) → T (P v) → T (among v (keep P l))
among-keep P [] v h p = absurd h
among-keep P (w ∷ l) v h p = go (eqb v w) refl (P w) refl h (λ k. among-keep P l v k p)
  where
    go : (b : Bool) → eqb v w ≡ b → (c : Bool) → P w ≡ c → T (b || among v l) → (T (among v l) → T (among v (keep P l))) → T (among v (cond c (w ∷ keep P l) (keep P l)))
    go true e true f h ih = or_left (eqb v w) (among v (keep P l)) (true-T e)
    go true e false f h ih = absurd (subst T (ap P (eqb→eq v w (true-T e)) ∙ f) p)
    go false e true f h ih = or_right (eqb v w) (among v (keep P l)) (ih h)
    go false e false f h ih = ih h

among_two : (v p q : ℕ) → T (among v (p ∷ q ∷ [])) → (v ≡ p) ⊎ (v ≡ q)
among_two v p q h = go (or_cases (eqb v p) (eqb v q || false) h)
  where
    go₂ : T (eqb v q) ⊎ T false → (v ≡ p) ⊎ (v ≡ q)
    go₂ (inl k) = inr (eqb→eq v q k)
    go₂ (inr k) = absurd k

    go : T (eqb v p) ⊎ T (eqb v q || false) → (v ≡ p) ⊎ (v ≡ q)
    go (inl k) = inl (eqb→eq v p k)
    go (inr k) = go₂ (or_cases (eqb v q) false k)

-- three different numbers are not among two
not_two : (a b c p q : ℕ) → TriApart a b c → (a ≡ p) ⊎ (a ≡ q) → (b ≡ p) ⊎ (b ≡ q) → (c ≡ p) ⊎ (c ≡ q) → ⊥
not_two a b c p q h (inl x) (inl y) z = h.ab (x ∙ sym y)
not_two a b c p q h (inl x) (inr y) (inl z) = h.ac (x ∙ sym z)
not_two a b c p q h (inl x) (inr y) (inr z) = h.bc (y ∙ sym z)
not_two a b c p q h (inr x) (inl y) (inl z) = h.bc (y ∙ sym z)
not_two a b c p q h (inr x) (inl y) (inr z) = h.ac (x ∙ sym z)
not_two a b c p q h (inr x) (inr y) z = h.ab (x ∙ sym y)

not_short : (a b c : ℕ) (l : List ℕ) → TriApart a b c → T (among a l) → T (among b l) → T (leb (length l) 1) → ⊥
not_short a b c [] h p q r = p
not_short a b c (y ∷ []) h p q r = h.ab (one (among_two a y y (twice a p)) ∙ sym (one (among_two b y y (twice b q))))
  where
    twice : (v : ℕ) → T (among v (y ∷ [])) → T (among v (y ∷ y ∷ []))
    twice v k = or_right (eqb v y) (among v (y ∷ [])) k

    one : {v : ℕ} → (v ≡ y) ⊎ (v ≡ y) → v ≡ y
    one (inl e) = e
    one (inr e) = e
not_short a b c (y ∷ (z ∷ l)) h p q r = let k = leb→le (suc (suc (length l))) 1 r in omega arith

-- from the test to the fact
pub fits_meet : (u w : Piece) → Agree u w → T (fits u.whole w.whole) → Meet u w
unfolding fits
fits_meet u w agree f (tri a b c) h p q = go (or_cases short (two || whole) f)
  where
    e : Element
    e = u.whole

    x : Element
    x = w.whole

    l : List ℕ
    l = common e x

    short : Bool
    short = leb (length (common e x)) 1

    two : Bool
    two = has_edge (common e x) e && has_edge (common e x) x

    whole : Bool
    whole = some (λ F. same_set (common e x) (of_face F) && some (same_face (back_face F)) (faces_of x)) (faces_of e)

    E : ℕ → Bool
    E v = among v (corners_of e)

    X : ℕ → Bool
    X v = among v (corners_of x)

    p₂ : T (E b && (E c && true))
    p₂ = and_right (E a) (E b && (E c && true)) p

    p₃ : T (E c && true)
    p₃ = and_right (E b) (E c && true) p₂

    q₂ : T (X b && (X c && true))
    q₂ = and_right (X a) (X b && (X c && true)) q

    q₃ : T (X c && true)
    q₃ = and_right (X b) (X c && true) q₂

    in_l : (v : ℕ) → T (E v) → T (X v) → T (among v (common e x))
    in_l v s t = among-keep X (corners_of e) v s t

    in_a : T (among a (common e x))
    in_a = in_l a (and_left (E a) (E b && (E c && true)) p) (and_left (X a) (X b && (X c && true)) q)

    in_b : T (among b (common e x))
    in_b = in_l b (and_left (E b) (E c && true) p₂) (and_left (X b) (X c && true) q₂)

    in_c : T (among c (common e x))
    in_c = in_l c (and_left (E c) true p₃) (and_left (X c) true q₃)

    no_edge : (y : Edge ℕ) → T (same_set (common e x) (ends y)) → ⊥
    no_edge (edge m n) k =
        let all : T (every (λ v. among v (m ∷ n ∷ [])) (common e x)) = and_left (every (λ v. among v (m ∷ n ∷ [])) (common e x)) (every (λ v. among v (common e x)) (m ∷ n ∷ [])) k in
        not_two a b c m n h
        (among_two a m n (among-every (λ v. among v (m ∷ n ∷ [])) (common e x) all a in_a))
        (among_two b m n (among-every (λ v. among v (m ∷ n ∷ [])) (common e x) all b in_b))
        (among_two c m n (among-every (λ v. among v (m ∷ n ∷ [])) (common e x) all c in_c))

    face : (F : Face ℕ) × Memᴰ F (faces_of e) × T (same_set (common e x) (of_face F) && some (same_face (back_face F)) (faces_of x)) → Shared u w
    face g =
        let F = g.0 in
        let A : T (same_set (common e x) (of_face F)) = and_left (same_set (common e x) (of_face F)) (some (same_face (back_face F)) (faces_of x)) g.2 in
        let G = some_at (same_face (back_face F)) (faces_of x) (and_right (same_set (common e x) (of_face F)) (some (same_face (back_face F)) (faces_of x)) g.2) in
        let C : Cycle (back_face F) G.0 = test_cycle (back_face F) G.0 G.2 in
        record {
          mine = F;
          theirs = G.0;
          in_mine = g.1;
          in_theirs = G.1;
          across = agree F G.0 g.1 G.1 G.2;
          same = λ v. holds_across v F G.0 C;
          all = λ v s t. among-every (λ w. among w (of_face F)) (common e x) (and_left (every (λ w. among w (of_face F)) (common e x)) (every (λ w. among w (common e x)) (of_face F)) A) v (in_l v s t);
        }

    go₂ : T two ⊎ T whole → Shared u w
    go₂ (inl k) =
        let y = some_at (λ E. same_set (common e x) (ends E)) (gather edges_of (faces_of e)) (and_left (has_edge (common e x) e) (has_edge (common e x) x) k) in
        absurd (no_edge y.0 y.2)
    go₂ (inr k) = face (some_at (λ F. same_set (common e x) (of_face F) && some (same_face (back_face F)) (faces_of x)) (faces_of e) k)

    go : T short ⊎ T (two || whole) → Shared u w
    go (inl k) = absurd (not_short a b c (common e x) h in_a in_b k)
    go (inr k) = go₂ (or_cases two whole k)
