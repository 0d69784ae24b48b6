-- No two tetrahedra of a cut have the same four vertices: in one element by a test on places; in two that fit because the four would lie on one
-- face, whose two triangles are too few for the sides of a tetrahedron.
-- Assumes nothing.
use mathlib.Core.Path.{◌≡◌, refl, sym, ◌∙◌, ap, ap₂, subst}
use mathlib.Core.Bool.{Bool, true, false, cond, not, ◌&&◌}
use mathlib.Core.List.Memᴰ
use mathlib.Core.List.{List, [], ◌∷◌, ◌++◌, map, Memᴰ}
use mathlib.Core.Logic.{◌⊎◌, inl, inr, ◌≢◌}
use Prim.Native.Nat.{ℕ, zero, suc, ◌+◌, ◌≤◌}
use native.Mathlib.Omega.{arith}
use lib.Dec.{eqb, T, eqb→eq}
use lib.ListN.{length}
use borrow.Author.Tests.{ne_eqb}
use Rattle.laws.specs.Words.{count, every, among, distinct, gather}
use Rattle.laws.proofs.TestLaws.{and_left, and_right, and_both, true-T}
use Rattle.laws.proofs.EveryLaws.{every-at, count_append, count_cong, among-every}
use Rattle.solids.specs.Solids.{Solid, tetrahedron, pyramid, prism, hexahedron, Face, three, four, Tri, tri, Tet, tet, Element, element, on_tet, of_face, of_tri, of_tet, holds, corners_of}
use Rattle.solids.specs.Cut.{lowest_first, halves, cut_face, written, up_to, insert, in_order, first, cut, cut_mesh}
use Rattle.solids.specs.Fit.{proper, same_set, fits, fitting}
use Rattle.solids.specs.Surface.{sides, same_tri, times, owners, within, by_rule, Closed}
use Rattle.solids.proofs.WrittenFormLaws.{Apart}
use Rattle.solids.proofs.NumberingLaws.{number, number_inj}
use Rattle.solids.proofs.ShapeLaws.{shape, Proper, from_proper}
use Rattle.solids.proofs.HalfLaws.{all_halves, ways_of, cut_half, at_half}
use Rattle.solids.proofs.SideLaws.{Same, s0, same-sym, same_trans, same_test, test_same, bool_iff}
use Rattle.solids.proofs.FaceFacts.{all_among, every-same, eqb_self, or_true}
use Rattle.solids.proofs.MeetLaws.{Shared, fits_meet}
use Rattle.solids.proofs.PairLaws.{count_mem, count-some}
use Rattle.solids.proofs.RuleLaws.{rule_closed, rule_agree}
use Rattle.solids.proofs.TetLaws.{plain}
use Rattle.solids.proofs.SetLaws.{among_first, among_later, same_set_lem, set_there, set_back}
use Rattle.solids.proofs.EvenReorderings.{written_even_too}
use Rattle.solids.proofs.StaysOne.{distinct_apart}

-- ---- in one element: the test on places

abbrev lone_ok : Solid → ℕ → List ℕ → Bool
lone_ok s a ks = let S = shape s a ks in every (λ t. eqb (count (λ u. same_set (of_tet t) (of_tet u)) S) 1) S

all_lone : (s : Solid) → T (all_halves s (lone_ok s))
all_lone tetrahedron = tt
all_lone pyramid = tt
all_lone prism = tt
all_lone hexahedron = tt

-- the same set, on both sides of the test
set_cong : (l l' m m' : List ℕ) → T (same_set l l') → T (same_set m m') → same_set l m ≡ same_set l' m'
set_cong l l' m m' p q =
    bool_iff (same_set l m) (same_set l' m')
    (λ h. same_set_lem l' m' (λ v k. set_there m m' q v (set_there l m h v (set_back l l' p v k))) (λ v k. set_there l l' p v (set_back l m h v (set_back m m' q v k))))
    (λ h. same_set_lem l m (λ v k. set_back m m' q v (set_there l' m' h v (set_there l l' p v k))) (λ v k. set_back l l' p v (set_back l' m' h v (set_there m m' q v k))))

pub set-refl : (l : List ℕ) → T (same_set l l)
set-refl l = same_set_lem l l (λ v k. k) (λ v k. k)

-- to write a tetrahedron keeps its vertices
written-set : (t : Tet ℕ) → T (same_set (of_tet (written t)) (of_tet t))
written-set (tet a b c d) = written_even_too (λ u. same_set (of_tet u) (of_tet (tet a b c d))) (tet a b c d) (simp (eqb_self, or_true) tt)

module _ (P : Tet ℕ → Bool) where
  count-insert : (x : Tet ℕ) (l : List (Tet ℕ)) → count P (insert x l) ≡ cond (P x) 1 0 + count P l
  count-insert x [] = refl
  count-insert x (u ∷ l) = go (up_to (of_tet x) (of_tet u)) (count-insert x l)
    where
      go : (b : Bool) → count P (insert x l) ≡ cond (P x) 1 0 + count P l → count P (cond b (x ∷ (u ∷ l)) (u ∷ insert x l)) ≡ cond (P x) 1 0 + (cond (P u) 1 0 + count P l)
      go true e = refl
      go false e = omega arith

  count-in_order : ((x : Tet ℕ) → P (written x) ≡ P x) → (l : List (Tet ℕ)) → count P (in_order l) ≡ count P l
  count-in_order w [] = refl
  count-in_order w (x ∷ l) = count-insert (written x) (in_order l) ∙ ap₂ {C = ℕ} (λ b n. cond b 1 0 + n) (w x) (count-in_order w l)

-- an injective renaming keeps which have the same vertices
module _ (f : ℕ → ℕ) (inj : (p q : ℕ) → f p ≡ f q → p ≡ q) where
  set_on : (t u : Tet ℕ) → same_set (of_tet (on_tet f t)) (of_tet (on_tet f u)) ≡ same_set (of_tet t) (of_tet u)
  set_on (tet a b c d) (tet p q r s) =
      ap₂ {C = Bool} (λ x y. x && y) (all_among f inj (a ∷ b ∷ c ∷ d ∷ []) (p ∷ q ∷ r ∷ s ∷ [])) (all_among f inj (p ∷ q ∷ r ∷ s ∷ []) (a ∷ b ∷ c ∷ d ∷ []))

  count_set_on : (t : Tet ℕ) (l : List (Tet ℕ)) → count (λ u. same_set (of_tet (on_tet f t)) (of_tet u)) (map (on_tet f) l) ≡ count (λ u. same_set (of_tet t) (of_tet u)) l
  count_set_on t [] = refl
  count_set_on t (u ∷ l) = ap₂ {C = ℕ} (λ b n. cond b 1 0 + n) (set_on t u) (count_set_on t l)

-- as often as not at all, or as often as one of them
lone_in : (l : List ℕ) (ts : List (Tet ℕ)) → ((t : Tet ℕ) → Memᴰ t ts → count (λ u. same_set (of_tet t) (of_tet u)) ts ≤ 1) → count (λ u. same_set l (of_tet u)) ts ≤ 1
lone_in l ts h = go (count (λ u. same_set l (of_tet u)) ts) refl
  where
    go : (n : ℕ) → count (λ u. same_set l (of_tet u)) ts ≡ n → count (λ u. same_set l (of_tet u)) ts ≤ 1
    go zero e = omega arith
    go (suc n) e =
        let t = count-some (λ u. same_set l (of_tet u)) ts (omega arith) in
        let k = h t.0 t.1 in
        let c : count (λ u. same_set l (of_tet u)) ts ≡ count (λ u. same_set (of_tet t.0) (of_tet u)) ts
        = count_cong (λ u. same_set l (of_tet u)) (λ u. same_set (of_tet t.0) (of_tet u)) (λ u. set_cong l (of_tet t.0) (of_tet u) (of_tet u) t.2 (set-refl (of_tet u))) ts in
        omega arith

lone_cut : (s : Solid) (vs : List ℕ) → Proper s vs → (l : List ℕ) → count (λ u. same_set l (of_tet u)) (cut (element s vs)) ≤ 1
lone_cut s vs h l =
    let N = number vs in
    let inj = number_inj vs h.apart_all in
    let S = shape s (first vs) (ways_of s vs h) in
    let a : count (λ u. same_set l (of_tet u)) (cut (element s vs)) ≡ count (λ u. same_set l (of_tet u)) (map (on_tet N) S)
    = ap (count (λ u. same_set l (of_tet u))) (cut_half s vs h)
    ∙ count-in_order (λ u. same_set l (of_tet u)) (λ x. set_cong l l (of_tet (written x)) (of_tet x) (set-refl l) (written-set x)) (map (on_tet N) S) in
    let b = lone_in l (map (on_tet N) S) (λ t m. one N inj S (at_half s vs h (lone_ok s) (all_lone s)) t (Memᴰ.of_map (on_tet N) S m)) in
    omega arith
  where
    one : (f : ℕ → ℕ) → ((p q : ℕ) → f p ≡ f q → p ≡ q) → (S : List (Tet ℕ)) → T (every (λ t. eqb (count (λ u. same_set (of_tet t) (of_tet u)) S) 1) S)
        → (t : Tet ℕ) → (x : Tet ℕ) × Memᴰ x S × (on_tet f x ≡ t) → count (λ u. same_set (of_tet t) (of_tet u)) (map (on_tet f) S) ≤ 1
    one f inj S ok t x =
        let a = eqb→eq (count (λ u. same_set (of_tet x.0) (of_tet u)) S) 1 (every-at (λ t. eqb (count (λ u. same_set (of_tet t) (of_tet u)) S) 1) S ok x.0 x.1) in
        let b = count_set_on f inj x.0 S in
        subst (λ (w : Tet ℕ). count (λ u. same_set (of_tet w) (of_tet u)) (map (on_tet f) S) ≤ 1) x.2 (omega arith)

-- ---- in two elements: three sides of a tetrahedron are not among two triangles

-- a triangle that has the corner v is not one that has it not
not_same : (v p q r : ℕ) → v ≢ p → v ≢ q → v ≢ r → (t u : Tri ℕ) → T (among v (of_tri u)) → Same (tri p q r) t → Same u t → ⊥
not_same v p q r x y z t u m s k =
    let free : T (every (λ w. not (eqb v w)) (p ∷ q ∷ r ∷ [])) = simp (ne_eqb v p x, ne_eqb v q y, ne_eqb v r z) tt in
    let all : T (every (λ w. not (eqb v w)) (of_tri u)) = subst T (every-same (λ w. not (eqb v w)) (same_trans s (same-sym k))) free in
    let none : T (not (eqb v v)) = among-every (λ w. not (eqb v w)) (of_tri u) all v m in
    subst T (ap not (eqb_self v)) none

module _ (a b c d : ℕ) (h : Apart a b c d) where
  -- so each triangle is one of the three at most
  one_side : (t : Tri ℕ) → cond (same_tri (tri b c d) t) 1 0 + (cond (same_tri (tri a d c) t) 1 0 + cond (same_tri (tri a b d) t) 1 0) ≤ 1
  one_side t = go (same_tri (tri b c d) t) refl (same_tri (tri a d c) t) refl (same_tri (tri a b d) t) refl
    where
      go : (x : Bool) → same_tri (tri b c d) t ≡ x → (y : Bool) → same_tri (tri a d c) t ≡ y → (z : Bool) → same_tri (tri a b d) t ≡ z → cond x 1 0 + (cond y 1 0 + cond z 1 0) ≤ 1
      go true p true q z r = absurd (not_same a b c d h.ab h.ac h.ad t (tri a d c) (among_first a (d ∷ c ∷ [])) (test_same (tri b c d) t (true-T p)) (test_same (tri a d c) t (true-T q)))
      go true p false q true r = absurd (not_same a b c d h.ab h.ac h.ad t (tri a b d) (among_first a (b ∷ d ∷ [])) (test_same (tri b c d) t (true-T p)) (test_same (tri a b d) t (true-T r)))
      go true p false q false r = omega arith
      go false p true q true r = absurd (not_same b a d c (λ e. h.ab (sym e)) h.bd h.bc t (tri a b d) (among_later b a (b ∷ d ∷ []) (among_first b (d ∷ []))) (test_same (tri a d c) t (true-T q)) (test_same (tri a b d) t (true-T r)))
      go false p true q false r = omega arith
      go false p false q true r = omega arith
      go false p false q false r = omega arith

  three-sides : (l : List (Tri ℕ)) → times (tri b c d) l + (times (tri a d c) l + times (tri a b d) l) ≤ length l
  three-sides [] = omega arith
  three-sides (t ∷ l) = let x = one_side t in let y = three-sides l in omega arith

two_halves : (F : Face ℕ) → length (halves F) ≤ 2
two_halves (three p q r) = omega arith
two_halves (four p q r s) = omega arith

-- what a member makes is among what all make
pub mem_gather : {A B : Type 0} (f : A → List B) (l : List A) (x : A) (y : B) → Memᴰ x l → Memᴰ y (f x) → Memᴰ y (gather f l)
mem_gather f [] x y m k = absurd (Memᴰ.not-nil m)
mem_gather {A} {B} f (z ∷ l) x y m k = go (Memᴰ.cases_cons m) (mem_gather f l x y)
  where
    go : (x ≡ z) ⊎ Memᴰ x l → (Memᴰ x l → Memᴰ y (f x) → Memᴰ y (gather f l)) → Memᴰ y (f z ++ gather f l)
    go (inl e) ih = Memᴰ.append_left (gather f l) (subst (λ (w : A). Memᴰ y (f w)) e k)
    go (inr n) ih = Memᴰ.append_right (f z) (ih n k)

-- a side of a tetrahedron has an owner where it stands
pub owned_side : (t : Tet ℕ) (ts : List (Tet ℕ)) → Memᴰ t ts → (x : Tri ℕ) → Memᴰ x (sides t) → 1 ≤ owners x ts
owned_side t ts m x k = count_mem (same_tri x) (gather sides ts) x (mem_gather sides ts t x m k) (same_test x x (s0 refl))

pub lone_pair : (e x : Element) → T (proper e) → T (proper x) → T (fits e x) → (t u : Tet ℕ) → Memᴰ t (cut e) → Memᴰ u (cut x) → T (same_set (of_tet t) (of_tet u)) → ⊥
lone_pair e x he hx f (tet a b c d) u mt mu same =
    let o₁ : times (tri b c d) (cut_face F) ≡ 1 = shut.flat (tri b c d) F S.in_mine (own (Memᴰ.head refl)) (inside b c d in_b in_c in_d) in
    let o₂ : times (tri a d c) (cut_face F) ≡ 1 = shut.flat (tri a d c) F S.in_mine (own (Memᴰ.tail (Memᴰ.head refl))) (inside a d c in_a in_d in_c) in
    let o₃ : times (tri a b d) (cut_face F) ≡ 1 = shut.flat (tri a b d) F S.in_mine (own (Memᴰ.tail (Memᴰ.tail (Memᴰ.head refl)))) (inside a b d in_a in_b in_d) in
    let k = three-sides a b c d A (cut_face F) in
    let l = two_halves (lowest_first F) in
    omega arith
  where
    E : ℕ → Bool
    E v = among v (corners_of e)

    X : ℕ → Bool
    X v = among v (corners_of x)

    shut : Closed (by_rule e)
    shut = rule_closed e he

    A : Apart a b c d
    A = distinct_apart a b c d (every-at (λ t. distinct (of_tet t)) (cut e) (plain e he).different (tet a b c d) mt)

    mine : (v : ℕ) → T (among v (a ∷ b ∷ c ∷ d ∷ [])) → T (E v)
    mine v k = among-every E (a ∷ b ∷ c ∷ d ∷ []) (every-at (λ t. every (λ v. among v (corners_of e)) (of_tet t)) (cut e) (plain e he).own (tet a b c d) mt) v k

    theirs : (v : ℕ) → T (among v (a ∷ b ∷ c ∷ d ∷ [])) → T (X v)
    theirs v k =
        among-every X (of_tet u) (every-at (λ t. every (λ v. among v (corners_of x)) (of_tet t)) (cut x) (plain x hx).own u mu) v
        (set_there (a ∷ b ∷ c ∷ d ∷ []) (of_tet u) same v k)

    is_a : T (among a (a ∷ b ∷ c ∷ d ∷ []))
    is_a = among_first a (b ∷ c ∷ d ∷ [])

    is_b : T (among b (a ∷ b ∷ c ∷ d ∷ []))
    is_b = among_later b a (b ∷ c ∷ d ∷ []) (among_first b (c ∷ d ∷ []))

    is_c : T (among c (a ∷ b ∷ c ∷ d ∷ []))
    is_c = among_later c a (b ∷ c ∷ d ∷ []) (among_later c b (c ∷ d ∷ []) (among_first c (d ∷ [])))

    is_d : T (among d (a ∷ b ∷ c ∷ d ∷ []))
    is_d = among_later d a (b ∷ c ∷ d ∷ []) (among_later d b (c ∷ d ∷ []) (among_later d c (d ∷ []) (among_first d [])))

    all₃ : (P : ℕ → Bool) (p q r : ℕ) → T (P p) → T (P q) → T (P r) → T (every P (p ∷ q ∷ r ∷ []))
    all₃ P p q r i j k = and_both (P p) (P q && (P r && true)) i (and_both (P q) (P r && true) j (and_both (P r) true k tt))

    S : Shared (by_rule e) (by_rule x)
    S =
        fits_meet (by_rule e) (by_rule x) (rule_agree e x he) f (tri b c d) (record { ab = A.bc; ac = A.bd; bc = A.cd })
        (all₃ E b c d (mine b is_b) (mine c is_c) (mine d is_d)) (all₃ X b c d (theirs b is_b) (theirs c is_c) (theirs d is_d))

    F : Face ℕ
    F = S.mine

    in_a : T (holds a F)
    in_a = S.all a (mine a is_a) (theirs a is_a)

    in_b : T (holds b F)
    in_b = S.all b (mine b is_b) (theirs b is_b)

    in_c : T (holds c F)
    in_c = S.all c (mine c is_c) (theirs c is_c)

    in_d : T (holds d F)
    in_d = S.all d (mine d is_d) (theirs d is_d)

    inside : (p q r : ℕ) → T (holds p F) → T (holds q F) → T (holds r F) → T (within (tri p q r) F)
    inside p q r i j k = all₃ (λ v. among v (of_face F)) p q r i j k

    own : {y : Tri ℕ} → Memᴰ y (sides (tet a b c d)) → 1 ≤ owners y (cut e)
    own {y} k = owned_side (tet a b c d) (cut e) mt y k

-- ---- in a mesh

module _ (l : List ℕ) where
  Q : Tet ℕ → Bool
  Q u = same_set l (of_tet u)

  none_left : (e : Element) → T (proper e) → 1 ≤ count Q (cut e) → (es : List Element) → T (every proper es) → T (every (fits e) es) → count Q (cut_mesh es) ≡ 0
  unfolding Q cut_mesh
  none_left e he o [] p f = refl
  none_left e he o (x ∷ es) p f =
      count_append Q (cut x) (gather cut es)
      ∙ (let a = here (count Q (cut x)) refl in
      let b = none_left e he o es (and_right (proper x) (every proper es) p) (and_right (fits e x) (every (fits e) es) f) in omega arith)
    where
      here : (n : ℕ) → count Q (cut x) ≡ n → count Q (cut x) ≡ 0
      here zero k = k
      here (suc n) k =
          let t = count-some Q (cut e) o in
          let u = count-some Q (cut x) (omega arith) in
          absurd (lone_pair e x he (and_left (proper x) (every proper es) p) (and_left (fits e x) (every (fits e) es) f) t.0 u.0 t.1 u.1
          (same_set_lem (of_tet t.0) (of_tet u.0)
          (λ v i. set_there l (of_tet u.0) u.2 v (set_back l (of_tet t.0) t.2 v i))
          (λ v i. set_there l (of_tet t.0) t.2 v (set_back l (of_tet u.0) u.2 v i))))

  pub lone_mesh : (es : List Element) → T (every proper es) → T (fitting es) → count (λ u. same_set l (of_tet u)) (cut_mesh es) ≤ 1
  unfolding Q cut_mesh fitting
  lone_mesh [] p f = omega arith
  lone_mesh (element s vs ∷ es) p f = go (count Q (cut (element s vs))) refl (lone_mesh es (and_right (proper (element s vs)) (every proper es) p) (and_right (every (fits (element s vs)) es) (fitting es) f))
    where
      e : Element
      e = element s vs

      he : T (proper (element s vs))
      he = and_left (proper (element s vs)) (every proper es) p

      go : (n : ℕ) → count Q (cut (element s vs)) ≡ n → count Q (gather cut es) ≤ 1 → count Q (cut (element s vs) ++ gather cut es) ≤ 1
      go zero k ih = let c = count_append Q (cut (element s vs)) (gather cut es) in omega arith
      go (suc n) k ih =
          let c = count_append Q (cut (element s vs)) (gather cut es) in
          let a = lone_cut s vs (from_proper s vs he) l in
          let b = none_left (element s vs) he (omega arith) es (and_right (proper (element s vs)) (every proper es) p) (and_left (every (fits (element s vs)) es) (fitting es) f) in
          omega arith
