-- Elements relisted by rotations: they are proper, fit and are cut as before.
-- Assumes nothing.
use mathlib.Core.Path.{◌≡◌, refl, sym, ◌∙◌, ap, ap₂, subst}
use mathlib.Core.Bool.{Bool, ◌&&◌}
use mathlib.Core.List.Memᴰ
use mathlib.Core.List.{List, [], ◌∷◌, ◌++◌, map, Memᴰ}
use mathlib.Core.Logic.{◌⊎◌, inl, inr}
use Prim.Native.Nat.{ℕ, zero, suc}
use native.Mathlib.Omega.{arith}
use lib.Dec.{eqb, T, lt→ltb}
use lib.ListN.{length}
use borrow.Author.Tests.{eq-eqb}
use Rattle.laws.specs.Words.{every, some, among, distinct}
use Rattle.laws.proofs.TestLaws.{and_left, and_right, and_both, true-T}
use Rattle.laws.proofs.EveryLaws.{every-at, some_at, among-every}
use Rattle.solids.specs.Solids.{Solid, tetrahedron, pyramid, prism, hexahedron, Face, three, four, Tet, Element, element, corners, faces, at, on_face, of_face, faces_of}
use Rattle.solids.specs.Rotations.{same_face, is_reordering, keeps_faces, is_rotation, rotations, relisted}
use Rattle.solids.specs.Cut.{place_of, cut, cut_mesh}
use Rattle.solids.specs.Fit.{proper, fits, fitting}
use Rattle.solids.specs.Listings.{Relists, as_it_was, by_rotation, Relisting, none, next}
use Rattle.solids.proofs.NumberingLaws.{number_inj, inside, at_suc, inside-suc, place_of-at}
use Rattle.solids.proofs.ShapeLaws.{Proper, from_proper, faces-inside, at_f}
use Rattle.solids.proofs.SideLaws.{bool_iff}
use Rattle.solids.proofs.RotationTest.{list_ok}
use Rattle.solids.proofs.RelistedLaws.{face_agree, at_map, AllPlaces, all_places, listed_proper, rotate}
use Rattle.solids.proofs.RotationsComplete.{complete}
use Rattle.solids.proofs.CycleLaws.{Cycle, c0, test_cycle}
use Rattle.solids.proofs.CyclesAlike.{cycle_sym, cycle_on}
use Rattle.solids.proofs.FaceFacts.{at-among}
use Rattle.solids.proofs.SetLaws.{Sub, among_first, among_later, among_cases, distinct_both}
use Rattle.solids.proofs.FitLaws.{Alike, alike_fits}

-- ---- on places, computed: each rotation is a list of all places, and each face comes from one

abbrev onto_faces : Solid → List ℕ → Bool
onto_faces s ρ = every (λ G. some (λ F. same_face (on_face (at ρ) F) G) (faces s)) (faces s)

abbrev rotation_ok : Solid → List ℕ → Bool
rotation_ok s ρ = list_ok s ρ && onto_faces s ρ

rotations_ok : (s : Solid) → T (every (rotation_ok s) (rotations s))
rotations_ok tetrahedron = tt
rotations_ok pyramid = tt
rotations_ok prism = tt
rotations_ok hexahedron = tt

-- ---- lists changed one by one

among-map : (g : ℕ → ℕ) (l : List ℕ) (v : ℕ) → T (among v (map g l)) → (p : ℕ) × T (among p l) × (g p ≡ v)
among-map g [] v h = absurd h
among-map g (p ∷ l) v h = go (among_cases v (g p) (map g l) h) (among-map g l v)
  where
    go : (v ≡ g p) ⊎ T (among v (map g l)) → (T (among v (map g l)) → (q : ℕ) × T (among q l) × (g q ≡ v)) → (q : ℕ) × T (among q (p ∷ l)) × (g q ≡ v)
    go (inl e) ih = (p, among_first p l, sym e)
    go (inr k) ih = let r = ih k in (r.0, among_later r.0 p l r.1, r.2)

map-among : (g : ℕ → ℕ) (l : List ℕ) (p : ℕ) → T (among p l) → T (among (g p) (map g l))
map-among g [] p h = absurd h
map-among g (q ∷ l) p h = go (among_cases p q l h) (map-among g l p)
  where
    go : (p ≡ q) ⊎ T (among p l) → (T (among p l) → T (among (g p) (map g l))) → T (among (g p) (g q ∷ map g l))
    go (inl e) ih = subst (λ (w : ℕ). T (among (g p) (g w ∷ map g l))) e (among_first (g p) (map g l))
    go (inr k) ih = among_later (g p) (g q) (map g l) (ih k)

-- numbers that differ from place to place are distinct
inj_distinct : (l : List ℕ) → ((p q : ℕ) → T (inside (length l) p) → T (inside (length l) q) → at l p ≡ at l q → p ≡ q) → T (distinct l)
inj_distinct [] h = tt
inj_distinct (x ∷ l) h = distinct_both x l away (inj_distinct l tail)
  where
    not-zero : (p : ℕ) → T (inside (length l) p) → p ≡ 0 → ⊥
    not-zero zero i e = i
    not-zero (suc p) i e = omega arith

    away : T (among x l) → ⊥
    away m =
        let r = place_of-at x l m in
        let p = place_of x l in
        let e = h 1 (suc p) (lt→ltb 0 (suc (length l)) (omega arith)) (inside-suc (length l) p r.1) (sym r.0 ∙ sym (at_suc (length l) x l p r.1)) in
        not-zero p r.1 (omega arith)

    tail : (p q : ℕ) → T (inside (length l) p) → T (inside (length l) q) → at l p ≡ at l q → p ≡ q
    tail p q i j e =
        let k = h (suc p) (suc q) (inside-suc (length l) p i) (inside-suc (length l) q j) (at_suc (length l) x l p i ∙ e ∙ sym (at_suc (length l) x l q j)) in
        omega arith

-- ---- one element, relisted

module _ (s : Solid) (vs : List ℕ) (many : length vs ≡ corners s) (ρ : List ℕ) (r : T (is_rotation s ρ)) where
  ok : T (rotation_ok s ρ)
  ok = every-at (rotation_ok s) (rotations s) (rotations_ok s) ρ (complete s ρ r)

  L : AllPlaces s ρ
  L = all_places s ρ (and_left (list_ok s ρ) (onto_faces s ρ) ok)

  in_ρ : (p : ℕ) → T (inside (corners s) p) → T (inside (length ρ) p)
  in_ρ p i = subst (λ (m : ℕ). T (inside m p)) (sym L.long) i

  in_vs : (p : ℕ) → T (inside (corners s) p) → T (inside (length vs) p)
  in_vs p i = subst (λ (m : ℕ). T (inside m p)) (sym many) i

  at-relisted : (p : ℕ) → T (inside (corners s) p) → at (map (at vs) ρ) p ≡ at vs (at ρ p)
  at-relisted p i = at_map (at vs) ρ p (in_ρ p i)

  -- the place where ρ says p
  from : (p : ℕ) → T (inside (corners s) p) → (q : ℕ) × T (inside (corners s) q) × (at ρ q ≡ p)
  from p i = let k = place_of-at p ρ (L.has_all p i) in (place_of p ρ, subst (λ (m : ℕ). T (inside m (place_of p ρ))) L.long k.1, k.0)

  -- proper, exactly if it was
  proper_home : Proper s (map (at vs) ρ) → Proper s vs
  proper_home h = record { many = many; apart_all = inj_distinct vs apart }
    where
      same_place : (p q : ℕ) → T (inside (corners s) p) → T (inside (corners s) q) → at (map (at vs) ρ) p ≡ at (map (at vs) ρ) q → p ≡ q
      same_place p q i j e =
          number_inj (map (at vs) ρ) h.apart_all p q (sym (at_f s (map (at vs) ρ) h p i) ∙ e ∙ at_f s (map (at vs) ρ) h q j)

      apart : (p q : ℕ) → T (inside (length vs) p) → T (inside (length vs) q) → at vs p ≡ at vs q → p ≡ q
      apart p q i j e =
          let a = from p (subst (λ (m : ℕ). T (inside m p)) many i) in
          let b = from q (subst (λ (m : ℕ). T (inside m q)) many j) in
          let k = same_place a.0 b.0 a.1 b.1 (at-relisted a.0 a.1 ∙ ap (at vs) a.2 ∙ e ∙ sym (ap (at vs) b.2) ∙ sym (at-relisted b.0 b.1)) in
          sym a.2 ∙ ap (at ρ) k ∙ b.2

  to_proper : (us : List ℕ) → Proper s us → T (proper (element s us))
  to_proper us h = and_both (eqb (length us) (corners s)) (distinct us) (true-T (eq-eqb (length us) (corners s) h.many)) h.apart_all

  pub proper-relisted : proper (relisted ρ (element s vs)) ≡ proper (element s vs)
  proper-relisted =
      bool_iff (proper (element s (map (at vs) ρ))) (proper (element s vs))
      (λ h. to_proper vs (proper_home (from_proper s (map (at vs) ρ) h)))
      (λ h. to_proper (map (at vs) ρ) (listed_proper s vs (from_proper s vs h) ρ L))

  -- the same corners
  corner_home : Sub (map (at vs) ρ) vs
  corner_home v h =
      let k = among-map (at vs) ρ v h in
      subst (λ (w : ℕ). T (among w vs)) k.2 (at-among vs k.0 (in_vs k.0 (among-every (inside (corners s)) ρ L.all_inside k.0 k.1)))

  corner_there : Sub vs (map (at vs) ρ)
  corner_there v h =
      let k = place_of-at v vs h in
      subst (λ (w : ℕ). T (among w (map (at vs) ρ))) k.0
      (map-among (at vs) ρ (place_of v vs) (L.has_all (place_of v vs) (subst (λ (m : ℕ). T (inside m (place_of v vs))) many k.1)))

  -- the same cycles
  composed : (F : Face ℕ) → on_face (λ p. at vs (at ρ p)) F ≡ on_face (at vs) (on_face (at ρ) F)
  composed (three p q r) = refl
  composed (four p q r w) = refl

  face_relisted : (F : Face ℕ) → Memᴰ F (faces s) → on_face (at (map (at vs) ρ)) F ≡ on_face (at vs) (on_face (at ρ) F)
  face_relisted F m =
      face_agree (at (map (at vs) ρ)) (λ p. at vs (at ρ p)) (inside (corners s)) at-relisted F
      (every-at (λ X. every (inside (corners s)) (of_face X)) (faces s) (faces-inside s) F m)
      ∙ composed F

  face_home : (F : Face ℕ) → Memᴰ F (faces_of (element s (map (at vs) ρ))) → (G : Face ℕ) × Memᴰ G (faces_of (element s vs)) × Cycle F G
  face_home F m =
      let X = Memᴰ.of_map (on_face (at (map (at vs) ρ))) (faces s) m in
      let Y = some_at (same_face (on_face (at ρ) X.0)) (faces s)
      (every-at (λ Z. some (same_face (on_face (at ρ) Z)) (faces s)) (faces s) (and_right (is_reordering s ρ) (keeps_faces s ρ) r) X.0 X.1) in (
        on_face (at vs) Y.0,
        Memᴰ.map (on_face (at vs)) Y.1,
        subst (λ (Z : Face ℕ). Cycle Z (on_face (at vs) Y.0)) (sym (face_relisted X.0 X.1) ∙ X.2)
            (cycle_on (at vs) (test_cycle (on_face (at ρ) X.0) Y.0 Y.2)),
      )

  face_there : (F : Face ℕ) → Memᴰ F (faces_of (element s vs)) → (G : Face ℕ) × Memᴰ G (faces_of (element s (map (at vs) ρ))) × Cycle F G
  face_there F m =
      let X = Memᴰ.of_map (on_face (at vs)) (faces s) m in
      let Y = some_at (λ Z. same_face (on_face (at ρ) Z) X.0) (faces s)
      (every-at (λ W. some (λ Z. same_face (on_face (at ρ) Z) W) (faces s)) (faces s) (and_right (list_ok s ρ) (onto_faces s ρ) ok) X.0 X.1) in (
        on_face (at (map (at vs) ρ)) Y.0,
        Memᴰ.map (on_face (at (map (at vs) ρ))) Y.1,
        subst (λ (Z : Face ℕ). Cycle Z (on_face (at (map (at vs) ρ)) Y.0)) X.2
            (cycle_sym (subst (λ (Z : Face ℕ). Cycle Z (on_face (at vs) X.0)) (sym (face_relisted Y.0 Y.1))
            (cycle_on (at vs) (test_cycle (on_face (at ρ) Y.0) X.0 Y.2)))),
      )

  pub alike_there : Alike (element s vs) (relisted ρ (element s vs))
  alike_there = record { there = corner_there; home = corner_home; faces_there = face_there }

  pub alike_home : Alike (relisted ρ (element s vs)) (element s vs)
  alike_home = record { there = corner_home; home = corner_there; faces_there = face_home }

-- ---- what relists an element

pub alike_self : (e : Element) → Alike e e
alike_self e = record { there = λ v h. h; home = λ v h. h; faces_there = λ F m. (F, m, c0 refl) }

relists_proper : {e x : Element} → Relists e x → proper x ≡ proper e
relists_proper (as_it_was p) = ap proper p
relists_proper {e = element s vs} (by_rotation ρ r m p) = ap proper p ∙ proper-relisted s vs m ρ r

relists_there : {e x : Element} → Relists e x → Alike e x
relists_there {e} (as_it_was p) = subst (Alike e) (sym p) (alike_self e)
relists_there {e = element s vs} (by_rotation ρ r m p) = subst (Alike (element s vs)) (sym p) (alike_there s vs m ρ r)

relists_home : {e x : Element} → Relists e x → Alike x e
relists_home {e} (as_it_was p) = subst (λ (y : Element). Alike y e) (sym p) (alike_self e)
relists_home {e = element s vs} (by_rotation ρ r m p) = subst (λ (y : Element). Alike y (element s vs)) (sym p) (alike_home s vs m ρ r)

relists_cut : {e x : Element} → Relists e x → T (proper e) → cut x ≡ cut e
relists_cut (as_it_was p) h = ap cut p
relists_cut {e = element s vs} (by_rotation ρ r m p) h = ap cut p ∙ rotate s vs (from_proper s vs h) ρ (complete s ρ r)

relists_fits : {e e' x x' : Element} → Relists e e' → Relists x x' → T (proper e) → fits e' x' ≡ fits e x
relists_fits {e} {e'} {x} {x'} a b h =
    bool_iff (fits e' x') (fits e x)
    (alike_fits e' x' e x (relists_home a) (relists_home b) h' h)
    (alike_fits e x e' x' (relists_there a) (relists_there b) h h')
  where
    h' : T (proper e')
    h' = subst T (sym (relists_proper a)) h

-- THE RELISTED ELEMENT: it fits what the element fits
pub fits-relisted : (s : Solid) (vs : List ℕ) → T (proper (element s vs)) → (ρ : List ℕ) → T (is_rotation s ρ) → (x : Element) → fits (relisted ρ (element s vs)) x ≡ fits (element s vs) x
fits-relisted s vs h ρ r x =
    relists_fits {e = element s vs} {e' = relisted ρ (element s vs)} {x = x} {x' = x} (by_rotation ρ r (from_proper s vs h).many refl) (as_it_was refl) h

pub relisted-fits : (s : Solid) (vs : List ℕ) → T (proper (element s vs)) → (ρ : List ℕ) → T (is_rotation s ρ) → (x : Element) → T (proper x)
    → fits x (relisted ρ (element s vs)) ≡ fits x (element s vs)
relisted-fits s vs h ρ r x hx =
    relists_fits {e = x} {e' = x} {x = element s vs} {x' = relisted ρ (element s vs)} (as_it_was refl) (by_rotation ρ r (from_proper s vs h).many refl) hx

-- THE RELISTED MESH: proper, fitting and cut as it was
pub relisting_proper : {es xs : List Element} → Relisting es xs → every proper xs ≡ every proper es
relisting_proper none = refl
relisting_proper (next a l) = ap₂ {C = Bool} (λ b c. b && c) (relists_proper a) (relisting_proper l)

every-fits : {e e' : Element} → Relists e e' → T (proper e) → {es xs : List Element} → Relisting es xs → every (fits e') xs ≡ every (fits e) es
every-fits a h none = refl
every-fits a h (next b l) = ap₂ {C = Bool} (λ c d. c && d) (relists_fits a b h) (every-fits a h l)

pub relisting_fitting : {es xs : List Element} → Relisting es xs → T (every proper es) → fitting xs ≡ fitting es
unfolding fitting
relisting_fitting none h = refl
relisting_fitting {es = e ∷ es} (next a l) h =
    ap₂ {C = Bool} (λ b c. b && c) (every-fits a (and_left (proper e) (every proper es) h) l) (relisting_fitting l (and_right (proper e) (every proper es) h))

pub relisting_cut : {es xs : List Element} → Relisting es xs → T (every proper es) → cut_mesh xs ≡ cut_mesh es
unfolding cut_mesh
relisting_cut none h = refl
relisting_cut {es = e ∷ es} (next a l) h =
    ap₂ {C = List (Tet ℕ)} (λ b c. b ++ c) (relists_cut a (and_left (proper e) (every proper es) h)) (relisting_cut l (and_right (proper e) (every proper es) h))
