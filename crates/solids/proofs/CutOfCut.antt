-- The cut of a cut: the tetrahedra of a cut, given as elements, are proper, fit, and are cut to themselves.
-- Assumes nothing.
use mathlib.Core.Path.{◌≡◌, refl, sym, ◌∙◌, ap, subst}
use mathlib.Core.Bool.{Bool, true, false, cond}
use mathlib.Core.List.Memᴰ
use mathlib.Core.List.{List, [], ◌∷◌, ◌++◌, map, Memᴰ}
use mathlib.Core.Logic.{◌⊎◌, inl, inr}
use Prim.Native.Nat.{ℕ, ◌+◌, ◌≤◌}
use native.Mathlib.Omega.{arith}
use lib.Dec.{T, le→leb}
use lib.ListN.{length}
use Rattle.laws.specs.Words.{count, every, among, distinct, gather, keep}
use Rattle.laws.proofs.TestLaws.{and_left, and_right, and_both, T_true}
use Rattle.laws.proofs.EveryLaws.{every-at, count_append}
use Rattle.solids.specs.Solids.{Face, three, Tri, tri, Tet, tet, Element, of_face, of_tri, of_tet, faces_of}
use Rattle.solids.specs.Cut.{cut, cut_mesh}
use Rattle.solids.specs.Fit.{proper, common, same_set, has_edge, back_face, fits, fitting}
use Rattle.solids.specs.Surface.{sides, back, same_tri, owners}
use Rattle.solids.specs.Listings.{as_element}
use Rattle.solids.proofs.WrittenFormLaws.{Apart}
use Rattle.solids.proofs.SideLaws.{Same, s0, s1, s2, same_test}
use Rattle.solids.proofs.CycleLaws.{Cycle, c0, c1, c2}
use Rattle.solids.proofs.FaceFacts.{Apart₃, eqb_self, or_true}
use Rattle.solids.proofs.PairLaws.{count_mem}
use Rattle.solids.proofs.RuleLaws.{surface-cut}
use Rattle.solids.proofs.TetLaws.{plain}
use Rattle.solids.proofs.SetLaws.{Sub, among_first, among_later, among_cases, same_set_lem, set_there, set_back, same_length}
use Rattle.solids.proofs.FitLaws.{common-distinct, common_swap, edge_moved, fits-few, fits-edge, fits_face}
use Rattle.solids.proofs.StaysOne.{distinct_apart, cut-written, cut_self}
use Rattle.solids.proofs.LoneLaws.{set-refl, mem_gather, lone_mesh}

-- ---- which corners of a tetrahedron are kept: one at most, the ends of an edge, those of a side, or all

data Part (t : Tet ℕ) (l : List ℕ) : Type 0 where
  few : length l ≤ 1 → Part t l
  pair : length l ≡ 2 → T (has_edge l (as_element t)) → Part t l
  side : length l ≡ 3 → (x : Tri ℕ) → Memᴰ x (sides t) → Apart₃ x → T (same_set l (of_tri x)) → Part t l
  whole : length l ≡ 4 → l ≡ of_tet t → Part t l

-- the corner x is kept, or not
abbrev put : Bool → ℕ → List ℕ → List ℕ
put b x l = cond b (x ∷ l) l

module _ (a b c d : ℕ) (h : Apart a b c d) where
  parts : (p q r s : Bool) → Part (tet a b c d) (put p a (put q b (put r c (put s d []))))
  parts true true true true = whole refl refl
  parts true true true false = side refl (tri a c b) (Memᴰ.tail (Memᴰ.tail (Memᴰ.tail (Memᴰ.head refl)))) (record { ab = h.ac; ac = h.ab; bc = λ e. h.bc (sym e) }) (simp (eqb_self, or_true) tt)
  parts true true false true = side refl (tri a b d) (Memᴰ.tail (Memᴰ.tail (Memᴰ.head refl))) (record { ab = h.ab; ac = h.ad; bc = h.bd }) (simp (eqb_self, or_true) tt)
  parts true true false false = pair refl (simp (eqb_self, or_true) tt)
  parts true false true true = side refl (tri a d c) (Memᴰ.tail (Memᴰ.head refl)) (record { ab = h.ad; ac = h.ac; bc = λ e. h.cd (sym e) }) (simp (eqb_self, or_true) tt)
  parts true false true false = pair refl (simp (eqb_self, or_true) tt)
  parts true false false true = pair refl (simp (eqb_self, or_true) tt)
  parts true false false false = few (omega arith)
  parts false true true true = side refl (tri b c d) (Memᴰ.head refl) (record { ab = h.bc; ac = h.bd; bc = h.cd }) (simp (eqb_self, or_true) tt)
  parts false true true false = pair refl (simp (eqb_self, or_true) tt)
  parts false true false true = pair refl (simp (eqb_self, or_true) tt)
  parts false true false false = few (omega arith)
  parts false false true true = pair refl (simp (eqb_self, or_true) tt)
  parts false false true false = few (omega arith)
  parts false false false true = few (omega arith)
  parts false false false false = few (omega arith)

part : (P : ℕ → Bool) (t : Tet ℕ) → T (distinct (of_tet t)) → Part t (keep P (of_tet t))
part P (tet a b c d) h = parts a b c d (distinct_apart a b c d h) (P a) (P b) (P c) (P d)

-- ---- two triangles on the same three vertices run round them in the same direction or in opposite ones

three_cases : (v a b c : ℕ) → T (among v (a ∷ b ∷ c ∷ [])) → (v ≡ a) ⊎ ((v ≡ b) ⊎ (v ≡ c))
three_cases v a b c h = go (among_cases v a (b ∷ c ∷ []) h)
  where
    last : (v ≡ c) ⊎ T (among v []) → (v ≡ a) ⊎ ((v ≡ b) ⊎ (v ≡ c))
    last (inl e) = inr (inr e)
    last (inr k) = absurd k

    later : (v ≡ b) ⊎ T (among v (c ∷ [])) → (v ≡ a) ⊎ ((v ≡ b) ⊎ (v ≡ c))
    later (inl e) = inr (inl e)
    later (inr k) = last (among_cases v c [] k)

    go : (v ≡ a) ⊎ T (among v (b ∷ c ∷ [])) → (v ≡ a) ⊎ ((v ≡ b) ⊎ (v ≡ c))
    go (inl e) = inl e
    go (inr k) = later (among_cases v b (c ∷ []) k)

two_ways_lem : (x y : Tri ℕ) → Apart₃ y → Sub (of_tri y) (of_tri x) → Same x y ⊎ Same (back x) y
two_ways_lem (tri a b c) (tri p q r) h s =
    go (three_cases p a b c (s p (among_first p (q ∷ r ∷ []))))
    (three_cases q a b c (s q (among_later q p (q ∷ r ∷ []) (among_first q (r ∷ [])))))
    (three_cases r a b c (s r (among_later r p (q ∷ r ∷ []) (among_later r q (r ∷ []) (among_first r [])))))
  where
    go : (p ≡ a) ⊎ ((p ≡ b) ⊎ (p ≡ c)) → (q ≡ a) ⊎ ((q ≡ b) ⊎ (q ≡ c)) → (r ≡ a) ⊎ ((r ≡ b) ⊎ (r ≡ c)) → Same (tri a b c) (tri p q r) ⊎ Same (tri a c b) (tri p q r)
    go (inl i) (inl j) k = absurd (h.ab (i ∙ sym j))
    go (inl i) (inr (inl j)) (inl k) = absurd (h.ac (i ∙ sym k))
    go (inl i) (inr (inl j)) (inr (inl k)) = absurd (h.bc (j ∙ sym k))
    go (inl i) (inr (inl j)) (inr (inr k)) = inl (s0 (cc))
    go (inl i) (inr (inr j)) (inl k) = absurd (h.ac (i ∙ sym k))
    go (inl i) (inr (inr j)) (inr (inl k)) = inr (s0 (cc))
    go (inl i) (inr (inr j)) (inr (inr k)) = absurd (h.bc (j ∙ sym k))
    go (inr (inl i)) (inl j) (inl k) = absurd (h.bc (j ∙ sym k))
    go (inr (inl i)) (inl j) (inr (inl k)) = absurd (h.ac (i ∙ sym k))
    go (inr (inl i)) (inl j) (inr (inr k)) = inr (s2 (cc))
    go (inr (inl i)) (inr (inl j)) k = absurd (h.ab (i ∙ sym j))
    go (inr (inl i)) (inr (inr j)) (inl k) = inl (s1 (cc))
    go (inr (inl i)) (inr (inr j)) (inr (inl k)) = absurd (h.ac (i ∙ sym k))
    go (inr (inl i)) (inr (inr j)) (inr (inr k)) = absurd (h.bc (j ∙ sym k))
    go (inr (inr i)) (inl j) (inl k) = absurd (h.bc (j ∙ sym k))
    go (inr (inr i)) (inl j) (inr (inl k)) = inl (s2 (cc))
    go (inr (inr i)) (inl j) (inr (inr k)) = absurd (h.ac (i ∙ sym k))
    go (inr (inr i)) (inr (inl j)) (inl k) = inr (s1 (cc))
    go (inr (inr i)) (inr (inl j)) (inr (inl k)) = absurd (h.bc (j ∙ sym k))
    go (inr (inr i)) (inr (inl j)) (inr (inr k)) = absurd (h.ac (i ∙ sym k))
    go (inr (inr i)) (inr (inr j)) k = absurd (h.ab (i ∙ sym j))

-- a side as a face
abbrev to_face : Tri ℕ → Face ℕ
to_face (tri p q r) = three p q r

same_cycle : (x y : Tri ℕ) → Same x y → Cycle (to_face x) (to_face y)
same_cycle (tri a b c) y (s0 e) = c0 (ap to_face e)
same_cycle (tri a b c) y (s1 e) = c1 (ap to_face e)
same_cycle (tri a b c) y (s2 e) = c2 (ap to_face e)

face_back : (x : Tri ℕ) → to_face (back x) ≡ back_face (to_face x)
face_back (tri a b c) = refl

face_corners : (x : Tri ℕ) → of_face (to_face x) ≡ of_tri x
face_corners (tri a b c) = refl

faces-sides : (t : Tet ℕ) → faces_of (as_element t) ≡ map to_face (sides t)
faces-sides (tet a b c d) = refl

side_face : (t : Tet ℕ) (x : Tri ℕ) → Memᴰ x (sides t) → Memᴰ (to_face x) (faces_of (as_element t))
side_face t x m = subst (λ (l : List (Face ℕ)). Memᴰ (to_face x) l) (sym (faces-sides t)) (Memᴰ.map to_face m)

distinct-proper : (t : Tet ℕ) → T (distinct (of_tet t)) → T (proper (as_element t))
distinct-proper (tet a b c d) h = h

-- ---- two tetrahedra with no side in common, run round in the same direction, and not on the same four vertices

module _ (t u : Tet ℕ) (ht : T (distinct (of_tet t))) (hu : T (distinct (of_tet u)))
    (other : T (same_set (of_tet t) (of_tet u)) → ⊥) (once : (x y : Tri ℕ) → Memᴰ x (sides t) → Memᴰ y (sides u) → Same x y → ⊥) where
  abbrev e : Element
  e = as_element t

  abbrev x : Element
  x = as_element u

  long : length (common e x) ≡ length (common x e)
  long =
      same_length (common e x) (common x e) (common-distinct e x (distinct-proper t ht)) (common-distinct x e (distinct-proper u hu)) (common_swap e x) (common_swap x e)

  across : (y z : Tri ℕ) → Memᴰ y (sides t) → Memᴰ z (sides u) → Apart₃ z → T (same_set (common e x) (of_tri y)) → T (same_set (common x e) (of_tri z)) → T (fits e x)
  across y z my mz az sy sz = go (two_ways_lem y z az (λ v k. set_there (common e x) (of_tri y) sy v (common_swap x e v (set_back (common x e) (of_tri z) sz v k))))
    where
      go : Same y z ⊎ Same (back y) z → T (fits e x)
      go (inl s) = absurd (once y z my mz s)
      go (inr s) =
          fits_face e x (to_face y) (to_face z) (side_face t y my) (side_face u z mz)
          (subst (λ (l : List ℕ). T (same_set (common e x) l)) (sym (face_corners y)) sy)
          (subst (λ (F : Face ℕ). Cycle F (to_face z)) (face_back y) (same_cycle (back y) z s))

  all_common : common e x ≡ of_tet t → common x e ≡ of_tet u → T (same_set (of_tet t) (of_tet u))
  all_common p q =
      same_set_lem (of_tet t) (of_tet u)
      (λ v k. subst (λ (l : List ℕ). T (among v l)) q (common_swap e x v (subst (λ (l : List ℕ). T (among v l)) (sym p) k)))
      (λ v k. subst (λ (l : List ℕ). T (among v l)) p (common_swap x e v (subst (λ (l : List ℕ). T (among v l)) (sym q) k)))

  two_fit : T (fits e x)
  two_fit = go (mine t ht) (theirs u hu) long
    where
      mine : (t : Tet ℕ) → T (distinct (of_tet t)) → Part t (keep (λ v. among v (of_tet u)) (of_tet t))
      mine t h = part (λ v. among v (of_tet u)) t h

      theirs : (u : Tet ℕ) → T (distinct (of_tet u)) → Part u (keep (λ v. among v (of_tet t)) (of_tet u))
      theirs u h = part (λ v. among v (of_tet t)) u h

      go : Part t (common e x) → Part u (common x e) → length (common e x) ≡ length (common x e) → T (fits e x)
      go (few p) k l = fits-few e x (le→leb (length (common e x)) 1 p)
      go (pair p h) (pair q k) l = fits-edge e x h (edge_moved (common x e) (common e x) x (common_swap x e) (common_swap e x) k)
      go (side p y my ay sy) (side q z mz az sz) l = across y z my mz az sy sz
      go (whole p h) (whole q k) l = absurd (other (all_common h k))
      go (pair p h) (few q) l = absurd (omega arith)
      go (pair p h) (side q z mz az sz) l = absurd (omega arith)
      go (pair p h) (whole q k) l = absurd (omega arith)
      go (side p y my ay sy) (few q) l = absurd (omega arith)
      go (side p y my ay sy) (pair q k) l = absurd (omega arith)
      go (side p y my ay sy) (whole q k) l = absurd (omega arith)
      go (whole p h) (few q) l = absurd (omega arith)
      go (whole p h) (pair q k) l = absurd (omega arith)
      go (whole p h) (side q z mz az sz) l = absurd (omega arith)

-- ---- a list of tetrahedra, each side owned once in each direction, no two on the same four vertices

every_of : {A B : Type 0} (P : B → Bool) (g : A → B) (l : List A) → ((x : A) → Memᴰ x l → T (P (g x))) → T (every P (map g l))
every_of P g [] h = tt
every_of P g (x ∷ l) h = and_both (P (g x)) (every P (map g l)) (h x (Memᴰ.head refl)) (every_of P g l (λ y m. h y (Memᴰ.tail m)))

every_join : {A : Type 0} (P : A → Bool) (l m : List A) → T (every P l) → T (every P m) → T (every P (l ++ m))
every_join P [] m p q = q
every_join P (x ∷ l) m p q = and_both (P x) (every P (l ++ m)) (and_left (P x) (every P l) p) (every_join P l m (and_right (P x) (every P l) p) q)

tets-fitting : (ts : List (Tet ℕ)) → T (every (λ t. distinct (of_tet t)) ts) → ((x : Tri ℕ) → owners x ts ≤ 1)
    → ((l : List ℕ) → count (λ u. same_set l (of_tet u)) ts ≤ 1) → T (fitting (map as_element ts))
unfolding fitting
tets-fitting [] d o c = tt
tets-fitting (t ∷ ts) d o c =
    and_both (every (fits (as_element t)) (map as_element ts)) (fitting (map as_element ts))
    (every_of (fits (as_element t)) as_element ts one)
    (tets-fitting ts dt (λ x. let k = o x in let l = count_append (same_tri x) (sides t) (gather sides ts) in omega arith) (λ l. let k = c l in omega arith))
  where
    ht : T (distinct (of_tet t))
    ht = and_left (distinct (of_tet t)) (every (λ u. distinct (of_tet u)) ts) d

    dt : T (every (λ u. distinct (of_tet u)) ts)
    dt = and_right (distinct (of_tet t)) (every (λ u. distinct (of_tet u)) ts) d

    one : (u : Tet ℕ) → Memᴰ u ts → T (fits (as_element t) (as_element u))
    one u m = two_fit t u ht (every-at (λ w. distinct (of_tet w)) ts dt u m) differ apart
      where
        differ : T (same_set (of_tet t) (of_tet u)) → ⊥
        differ s =
            let k = c (of_tet t) in
            let i = count_mem (λ w. same_set (of_tet t) (of_tet w)) ts u m s in
            let j : count (λ w. same_set (of_tet t) (of_tet w)) (t ∷ ts) ≡ 1 + count (λ w. same_set (of_tet t) (of_tet w)) ts
            = ap {B = ℕ} (λ b. cond b 1 0 + count (λ w. same_set (of_tet t) (of_tet w)) ts) (T_true (same_set (of_tet t) (of_tet t)) (set-refl (of_tet t))) in
            omega arith

        apart : (x y : Tri ℕ) → Memᴰ x (sides t) → Memᴰ y (sides u) → Same x y → ⊥
        apart x y mx my s =
            let k = o x in
            let l = count_append (same_tri x) (sides t) (gather sides ts) in
            let i = count_mem (same_tri x) (sides t) x mx (same_test x x (s0 refl)) in
            let j = count_mem (same_tri x) (gather sides ts) y (mem_gather sides ts u y m my) (same_test x y s) in
            omega arith

-- ---- THE CUT OF A CUT

different_mesh : (es : List Element) → T (every proper es) → T (every (λ t. distinct (of_tet t)) (cut_mesh es))
unfolding cut_mesh
different_mesh [] h = tt
different_mesh (e ∷ es) h =
    every_join (λ t. distinct (of_tet t)) (cut e) (gather cut es) (plain e (and_left (proper e) (every proper es) h)).different
    (different_mesh es (and_right (proper e) (every proper es) h))

-- a tetrahedron of the mesh is of the cut of one of its elements
pub cut_of : (es : List Element) (t : Tet ℕ) → Memᴰ t (cut_mesh es) → (e : Element) × Memᴰ e es × Memᴰ t (cut e)
unfolding cut_mesh
cut_of [] t m = absurd (Memᴰ.not-nil m)
cut_of (e ∷ es) t m = go (Memᴰ.append_cases (cut e) m) (cut_of es t)
  where
    go : Memᴰ t (cut e) ⊎ Memᴰ t (gather cut es) → (Memᴰ t (gather cut es) → (x : Element) × Memᴰ x es × Memᴰ t (cut x))
        → (x : Element) × Memᴰ x (e ∷ es) × Memᴰ t (cut x)
    go (inl k) ih = (e, Memᴰ.head refl, k)
    go (inr k) ih = let r = ih k in (r.0, Memᴰ.tail r.1, r.2)

pub cut-proper : (es : List Element) → T (every proper es) → T (every proper (map as_element (cut_mesh es)))
cut-proper es h =
    every_of proper as_element (cut_mesh es) (λ t m. distinct-proper t (every-at (λ u. distinct (of_tet u)) (cut_mesh es) (different_mesh es h) t m))

pub cut-fitting : (es : List Element) → T (every proper es) → T (fitting es) → T (fitting (map as_element (cut_mesh es)))
cut-fitting es h f = tets-fitting (cut_mesh es) (different_mesh es h) (surface-cut es h f).once (λ l. lone_mesh l es h f)

pub cut_again : (es : List Element) → T (every proper es) → cut_mesh (map as_element (cut_mesh es)) ≡ cut_mesh es
cut_again es h = cut_self (cut_mesh es) (different_mesh es h) (λ t m. let e = cut_of es t m in cut-written e.0 t e.2)
