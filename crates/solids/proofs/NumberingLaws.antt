-- Distinct vertex numbers as an injective renaming of the places. Beyond the corners it goes on with numbers that no corner has,
-- so that it is injective everywhere.
-- Assumes nothing.
use mathlib.Core.Path.{◌≡◌, refl, sym, ◌∙◌, ap, ap₂, subst}
use mathlib.Core.Bool.{Bool, true, false, cond, not, ◌&&◌, ◌||◌}
use mathlib.Core.List.{List, [], ◌∷◌, map}
use mathlib.Core.Logic.{◌≢◌}
use Prim.Native.Nat.{ℕ, zero, suc, ◌+◌, ◌≤◌, ◌<◌}
use native.Mathlib.Nat.{le_of_suc-le-suc, not-suc-le-zero, min-eq_left}
use native.Mathlib.Omega.{arith}
use lib.Dec.{eqb, ltb, leb, T, ltb→lt, lt→ltb}
use lib.ListN.{length, get_or}
use borrow.Author.Tests.{eqb-true, eq-eqb, ne_eqb, leb-true, leb-false}
use Rattle.laws.specs.Words.{among, distinct, every, lowest}
use Rattle.solids.specs.Solids.{Face, three, four, Tet, tet, of_tet, on_face, on_tet, of_face, at}
use Rattle.solids.specs.Cut.{place_of}
use Rattle.laws.proofs.TestLaws.{and_left, and_right, below, at_below, not_among_cons, distinct_cons}

abbrev Below : ℕ → List ℕ → Type 0
Below h [] = Unit {0}
Below h (v ∷ vs) = (v < h) × Below h vs

below_le : (h k : ℕ) (vs : List ℕ) → h ≤ k → Below h vs → Below k vs
below_le h k [] l b = tt
below_le h k (v ∷ vs) l b = (omega arith, below_le h k vs l b.1)

bound : List ℕ → ℕ
bound [] = 0
bound (v ∷ vs) = suc v + bound vs

bound_below : (vs : List ℕ) → Below (bound vs) vs
unfolding bound
bound_below [] = tt
bound_below (v ∷ vs) = (omega arith, below_le (bound vs) (suc v + bound vs) vs (omega arith) (bound_below vs))

not-among : (h : ℕ) (vs : List ℕ) → Below h vs → T (not (among h vs))
not-among h [] b = tt
not-among h (v ∷ vs) b = rw (ne_eqb h v (omega arith)) (not-among h vs b.1)

spread : ℕ → List ℕ → ℕ → ℕ
spread h [] i = h + i
spread h (v ∷ vs) zero = v
spread h (v ∷ vs) (suc i) = spread (suc h) vs i

never : (h v : ℕ) (vs : List ℕ) (i : ℕ) → v < h → T (not (among v vs)) → v ≢ spread h vs i
unfolding spread
never h v [] i l t e = omega arith
never h v (w ∷ ws) zero l t e = (not_among_cons v w ws t).0 e
never h v (w ∷ ws) (suc i) l t e = never (suc h) v ws i (omega arith) (not_among_cons v w ws t).1 e

spread_inj : (h : ℕ) (vs : List ℕ) → Below h vs → T (distinct vs) → (i j : ℕ) → spread h vs i ≡ spread h vs j → i ≡ j
unfolding spread
spread_inj h [] b d i j e = omega arith
spread_inj h (v ∷ vs) b d zero zero e = refl
spread_inj h (v ∷ vs) b d zero (suc j) e = absurd (never (suc h) v vs j (omega arith) (distinct_cons v vs d).0 e)
spread_inj h (v ∷ vs) b d (suc i) zero e = absurd (never (suc h) v vs i (omega arith) (distinct_cons v vs d).0 (sym e))
spread_inj h (v ∷ vs) b d (suc i) (suc j) e =
    ap suc (spread_inj (suc h) vs (below_le h (suc h) vs (omega arith) b.1) (distinct_cons v vs d).1 i j e)

get_d_spread : (h : ℕ) (vs : List ℕ) (i : ℕ) → i < length vs → get_or vs i 0 ≡ spread h vs i
unfolding spread
get_d_spread h [] i l = absurd (not-suc-le-zero l)
get_d_spread h (v ∷ vs) zero l = refl
get_d_spread h (v ∷ vs) (suc i) l = get_d_spread (suc h) vs i (le_of_suc-le-suc l)

-- the renaming
pub number : List ℕ → ℕ → ℕ
number vs = spread (suc (bound vs)) (bound vs ∷ vs)

pub number_inj : (vs : List ℕ) → T (distinct vs) → (p q : ℕ) → number vs p ≡ number vs q → p ≡ q
unfolding number
number_inj vs d = spread_inj (suc (bound vs)) (bound vs ∷ vs) (omega arith, below_le (bound vs) (suc (bound vs)) vs (omega arith) (bound_below vs)) all
  where
    all : T (distinct (bound vs ∷ vs))
    all = go (not (among (bound vs) vs)) (not-among (bound vs) vs (bound_below vs))
      where
        go : (b : Bool) → T b → T (b && distinct vs)
        go true t = d
        go false t = absurd t

-- a place of a solid with n corners
abbrev pub inside : ℕ → ℕ → Bool
inside n zero = false
inside n (suc i) = ltb i n

-- a test that passes at each place
pub at_place : (n : ℕ) (t : ℕ → Bool) → T (below n (λ i. t (suc i))) → (p : ℕ) → T (inside n p) → T (t p)
at_place n t h zero l = absurd l
at_place n t h (suc i) l = at_below n (λ j. t (suc j)) h i (ltb→lt i n l)

pub at-number : (vs : List ℕ) (p : ℕ) → T (inside (length vs) p) → at vs p ≡ number vs p
unfolding number spread
at-number vs zero l = absurd l
at-number vs (suc i) l = get_d_spread (suc (suc (bound vs))) vs i (ltb→lt i (length vs) l)

module _ (vs : List ℕ) where
  pub face_number : (F : Face ℕ) → T (every (inside (length vs)) (of_face F)) → on_face (at vs) F ≡ on_face (number vs) F
  face_number (three p q r) h =
      let n = inside (length vs) in
      let hq = and_right (n p) (n q && (n r && true)) h in
      let hr = and_right (n q) (n r && true) hq in
      let ep = at-number vs p (and_left (n p) (n q && (n r && true)) h) in
      let eq = at-number vs q (and_left (n q) (n r && true) hq) in
      let er = at-number vs r (and_left (n r) true hr) in
      cc
  face_number (four p q r s) h =
      let n = inside (length vs) in
      let hq = and_right (n p) (n q && (n r && (n s && true))) h in
      let hr = and_right (n q) (n r && (n s && true)) hq in
      let hs = and_right (n r) (n s && true) hr in
      let ep = at-number vs p (and_left (n p) (n q && (n r && (n s && true))) h) in
      let eq = at-number vs q (and_left (n q) (n r && (n s && true)) hq) in
      let er = at-number vs r (and_left (n r) (n s && true) hr) in
      let es = at-number vs s (and_left (n s) true hs) in
      cc

  pub tet-number : (t : Tet ℕ) → T (every (inside (length vs)) (of_tet t)) → on_tet (at vs) t ≡ on_tet (number vs) t
  tet-number (tet p q r s) h =
      let n = inside (length vs) in
      let hq = and_right (n p) (n q && (n r && (n s && true))) h in
      let hr = and_right (n q) (n r && (n s && true)) hq in
      let hs = and_right (n r) (n s && true) hr in
      let ep = at-number vs p (and_left (n p) (n q && (n r && (n s && true))) h) in
      let eq = at-number vs q (and_left (n q) (n r && (n s && true)) hq) in
      let er = at-number vs r (and_left (n r) (n s && true) hr) in
      let es = at-number vs s (and_left (n s) true hs) in
      cc

  pub faces-number : (fs : List (Face ℕ)) → T (every (λ F. every (inside (length vs)) (of_face F)) fs) → map (on_face (at vs)) fs ≡ map (on_face (number vs)) fs
  faces-number [] h = refl
  faces-number (F ∷ fs) h =
      ap₂ {C = List (Face ℕ)} (λ x xs. x ∷ xs)
      (face_number F (and_left (every (inside (length vs)) (of_face F)) (every (λ G. every (inside (length vs)) (of_face G)) fs) h))
      (faces-number fs (and_right (every (inside (length vs)) (of_face F)) (every (λ G. every (inside (length vs)) (of_face G)) fs) h))

  pub tets-number : (ts : List (Tet ℕ)) → T (every (λ t. every (inside (length vs)) (of_tet t)) ts) → map (on_tet (at vs)) ts ≡ map (on_tet (number vs)) ts
  tets-number [] h = refl
  tets-number (t ∷ ts) h =
      ap₂ {C = List (Tet ℕ)} (λ x xs. x ∷ xs)
      (tet-number t (and_left (every (inside (length vs)) (of_tet t)) (every (λ u. every (inside (length vs)) (of_tet u)) ts) h))
      (tets-number ts (and_right (every (inside (length vs)) (of_tet t)) (every (λ u. every (inside (length vs)) (of_tet u)) ts) h))

-- the lowest number is one of them, and its place is a place
lowest-among : (v : ℕ) (vs : List ℕ) → T (among (lowest (v ∷ vs)) (v ∷ vs))
lowest-among v [] = rw (eq-eqb v v refl) tt
lowest-among v (w ∷ ws) = go (leb v (lowest (w ∷ ws))) refl (lowest-among w ws)
  where
    go : (b : Bool) → leb v (lowest (w ∷ ws)) ≡ b → T (among (lowest (w ∷ ws)) (w ∷ ws)) → T (among (lowest (v ∷ w ∷ ws)) (v ∷ w ∷ ws))
    go true e ih = rw (eq-eqb (lowest (v ∷ w ∷ ws)) v (min-eq_left (leb-true v (lowest (w ∷ ws)) e))) tt
    go false e ih =
        let l = leb-false v (lowest (w ∷ ws)) e in
        let m : lowest (v ∷ w ∷ ws) ≡ lowest (w ∷ ws) = omega arith in
        rw (ne_eqb (lowest (v ∷ w ∷ ws)) v (omega arith)) (subst (λ (x : ℕ). T (among x (w ∷ ws))) (sym m) ih)

pub at_suc : (n w : ℕ) (ws : List ℕ) (p : ℕ) → T (inside n p) → at (w ∷ ws) (suc p) ≡ at ws p
at_suc n w ws zero h = absurd h
at_suc n w ws (suc i) h = refl

pub inside-suc : (n p : ℕ) → T (inside n p) → T (inside (suc n) (suc p))
inside-suc n zero h = absurd h
inside-suc n (suc i) h = lt→ltb (suc i) (suc n) (let l = ltb→lt i n h in omega arith)

pub place_of-at : (v : ℕ) (vs : List ℕ) → T (among v vs) → (at vs (place_of v vs) ≡ v) × T (inside (length vs) (place_of v vs))
place_of-at v [] h = absurd h
place_of-at v (w ∷ ws) h = go (eqb v w) refl h (place_of-at v ws)
  where
    go : (b : Bool) → eqb v w ≡ b → T (b || among v ws) → (T (among v ws) → (at ws (place_of v ws) ≡ v) × T (inside (length ws) (place_of v ws)))
        → (at (w ∷ ws) (cond b 1 (suc (place_of v ws))) ≡ v) × T (inside (length (w ∷ ws)) (cond b 1 (suc (place_of v ws))))
    go true e h ih = (sym (eqb-true v w e), lt→ltb 0 (suc (length ws)) (omega arith))
    go false e h ih =
        let i = ih h in
        (at_suc (length ws) w ws (place_of v ws) i.1 ∙ i.0, inside-suc (length ws) (place_of v ws) i.1)

pub lowest-place : (n : ℕ) (vs : List ℕ) → length vs ≡ suc n → (at vs (place_of (lowest vs) vs) ≡ lowest vs) × T (inside (length vs) (place_of (lowest vs) vs))
lowest-place n [] e = absurd (omega arith)
lowest-place n (v ∷ vs) e = place_of-at (lowest (v ∷ vs)) (v ∷ vs) (lowest-among v vs)
