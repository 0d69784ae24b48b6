-- Corners listed in an order that a rotation gives: the cut is the same. From the tests on places to all vertex numbers.
-- Assumes nothing.
use mathlib.Core.Path.{◌≡◌, refl, sym, ◌∙◌, ap, ap₂, subst}
use mathlib.Core.Bool.{Bool, true, not, ◌&&◌, ◌||◌}
use mathlib.Core.List.Memᴰ
use mathlib.Core.List.{List, [], ◌∷◌, map, map-map, Memᴰ}
use Prim.Native.Nat.{ℕ, zero, suc, ◌≤◌, ◌<◌}
use native.Mathlib.Nat.{le_of_suc-le-suc, not-suc-le-zero}
use native.Mathlib.Omega.{arith}
use lib.Dec.{eqb, T, eqb→eq, ltb→lt}
use lib.ListN.{length, length-map, get_or}
use Rattle.laws.specs.Words.{every, among, distinct, lowest}
use Rattle.solids.specs.Solids.{Solid, Face, three, four, Tet, tet, element, corners, at, on_face, on_tet, of_face, of_tet}
use Rattle.solids.specs.Rotations.{rotations, relisted}
use Rattle.solids.specs.Cut.{place_of, first, in_order, cut}
use Rattle.laws.proofs.TestLaws.{and_left, and_right, below}
use Rattle.laws.proofs.EveryLaws.{every_map, map_agree}
use Rattle.solids.proofs.RenamingLaws.{asked, apart, same_places, eqb_on}
use Rattle.solids.proofs.NumberingLaws.{number, number_inj, inside, at_place, place_of-at}
use Rattle.solids.proofs.ShapeLaws.{far, shape, Proper, first-inside, at_f, lowest_f}
use Rattle.solids.proofs.RowLaws.{eq_tets, eq_tets→eq}
use Rattle.solids.proofs.LocalTest.{lowest-at}
use Rattle.solids.proofs.TurnLaws.{half, way, look_for, matched, apart_faces, look_right}
use Rattle.solids.proofs.RotationWords.{gen, Word, word, product, product_of, words, words_right}
use Rattle.solids.proofs.HalfLaws.{all_halves, ways_of, cut_half, at_half}
use Rattle.solids.proofs.RotationTest.{inside_all, faces_in, rot_ok, list_ok, turn_ok, all_turn}

module _ (g k : ℕ → ℕ) (P : ℕ → Bool) (e : (p : ℕ) → T (P p) → g p ≡ k p) where
  tet_agree : (t : Tet ℕ) → T (every P (of_tet t)) → on_tet g t ≡ on_tet k t
  tet_agree (tet p q r s) h =
      let hq = and_right (P p) (P q && (P r && (P s && true))) h in
      let hr = and_right (P q) (P r && (P s && true)) hq in
      let hs = and_right (P r) (P s && true) hr in
      let ep = e p (and_left (P p) (P q && (P r && (P s && true))) h) in
      let eq = e q (and_left (P q) (P r && (P s && true)) hq) in
      let er = e r (and_left (P r) (P s && true) hr) in
      let es = e s (and_left (P s) true hs) in
      cc

  pub face_agree : (F : Face ℕ) → T (every P (of_face F)) → on_face g F ≡ on_face k F
  face_agree (three p q r) h =
      let hq = and_right (P p) (P q && (P r && true)) h in
      let hr = and_right (P q) (P r && true) hq in
      let ep = e p (and_left (P p) (P q && (P r && true)) h) in
      let eq = e q (and_left (P q) (P r && true) hq) in
      let er = e r (and_left (P r) true hr) in
      cc
  face_agree (four p q r s) h =
      let hq = and_right (P p) (P q && (P r && (P s && true))) h in
      let hr = and_right (P q) (P r && (P s && true)) hq in
      let hs = and_right (P r) (P s && true) hr in
      let ep = e p (and_left (P p) (P q && (P r && (P s && true))) h) in
      let eq = e q (and_left (P q) (P r && (P s && true)) hq) in
      let er = e r (and_left (P r) (P s && true) hr) in
      let es = e s (and_left (P s) true hs) in
      cc

-- distinct numbers stay so under an injective renaming
module _ (f : ℕ → ℕ) (inj : (p q : ℕ) → f p ≡ f q → p ≡ q) where
  pub among_on : (v : ℕ) (l : List ℕ) → among (f v) (map f l) ≡ among v l
  among_on v [] = refl
  among_on v (w ∷ l) = ap₂ {C = Bool} (λ x y. x || y) (eqb_on f inj v w) (among_on v l)

  pub distinct_on : (l : List ℕ) → distinct (map f l) ≡ distinct l
  distinct_on [] = refl
  distinct_on (v ∷ l) = ap₂ {C = Bool} (λ x y. not x && y) (among_on v l) (distinct_on l)

get_d_map : (g : ℕ → ℕ) (l : List ℕ) (i : ℕ) → i < length l → get_or (map g l) i 0 ≡ g (get_or l i 0)
get_d_map g [] i h = absurd (not-suc-le-zero h)
get_d_map g (x ∷ l) zero h = refl
get_d_map g (x ∷ l) (suc i) h = get_d_map g l i (le_of_suc-le-suc h)

pub at_map : (g : ℕ → ℕ) (l : List ℕ) (p : ℕ) → T (inside (length l) p) → at (map g l) p ≡ g (at l p)
at_map g l zero h = absurd h
at_map g l (suc i) h = get_d_map g l i (ltb→lt i (length l) h)

pub at_every : (P : ℕ → Bool) (l : List ℕ) → T (every P l) → (p : ℕ) → T (inside (length l) p) → T (P (at l p))
at_every P l h zero i = absurd i
at_every P l h (suc i) k = go l h i (ltb→lt i (length l) k)
  where
    go : (l : List ℕ) → T (every P l) → (i : ℕ) → i < length l → T (P (get_or l i 0))
    go [] h i k = absurd (not-suc-le-zero k)
    go (x ∷ l) h zero k = and_left (P x) (every P l) h
    go (x ∷ l) h (suc i) k = go l (and_right (P x) (every P l) h) i (le_of_suc-le-suc k)

-- a list of all the places of a solid, each once
pub record AllPlaces (s : Solid) (ρ : List ℕ) : Type 0 where
  pub long : length ρ ≡ corners s
  pub all_inside : T (every (inside (corners s)) ρ)
  pub apart_all : T (distinct ρ)
  pub has_all : (p : ℕ) → T (inside (corners s) p) → T (among p ρ)

pub all_places : (s : Solid) (ρ : List ℕ) → T (list_ok s ρ) → AllPlaces s ρ
all_places s ρ ok =
    let A = eqb (length ρ) (corners s) in
    let B = every (inside (corners s)) ρ in
    let C = distinct ρ in
    let D = below (corners s) (λ i. among (suc i) ρ) in
    let r = and_right A (B && (C && D)) ok in
    let q = and_right B (C && D) r in
    record {
      long = eqb→eq (length ρ) (corners s) (and_left A (B && (C && D)) ok);
      all_inside = and_left B (C && D) r;
      apart_all = and_left C D q;
      has_all = at_place (corners s) (λ p. among p ρ) (and_right C D q);
    }

-- corners listed by it stay proper
pub listed_proper : (s : Solid) (vs : List ℕ) → Proper s vs → (ρ : List ℕ) → AllPlaces s ρ → Proper s (map (at vs) ρ)
listed_proper s vs h ρ L = record {
  many = length-map ρ (at vs) ∙ L.long;
  apart_all = subst T (sym (ap distinct (map_agree (at vs) (number vs) (inside (corners s)) (at_f s vs h) ρ L.all_inside) ∙ distinct_on (number vs) (number_inj vs h.apart_all) ρ)) L.apart_all;
}

module _ (s : Solid) (vs : List ℕ) (h : Proper s vs) (ρ : List ℕ) (ok : T (turn_ok s ρ)) where
  L : AllPlaces s ρ
  L = all_places s ρ (and_left (list_ok s ρ) (all_halves s (rot_ok s ρ)) ok)

  inj : (p q : ℕ) → number vs p ≡ number vs q → p ≡ q
  inj = number_inj vs h.apart_all

  pub turned-sound : Proper s (map (at vs) ρ)
  turned-sound = listed_proper s vs h ρ L

  in_ρ : (p : ℕ) → T (inside (corners s) p) → T (inside (length ρ) p)
  in_ρ p i = subst (λ (m : ℕ). T (inside m p)) (sym L.long) i

  to_inside : (p : ℕ) → T (inside (corners s) p) → T (inside (corners s) (at ρ p))
  to_inside p i = at_every (inside (corners s)) ρ L.all_inside p (in_ρ p i)

  at-turned : (p : ℕ) → T (inside (corners s) p) → at (map (at vs) ρ) p ≡ at vs (at ρ p)
  at-turned p i = at_map (at vs) ρ p (in_ρ p i)

  number-turned : (p : ℕ) → T (inside (corners s) p) → number (map (at vs) ρ) p ≡ number vs (at ρ p)
  number-turned p i = sym (at_f s (map (at vs) ρ) turned-sound p i) ∙ at-turned p i ∙ at_f s vs h (at ρ p) (to_inside p i)

  a : ℕ
  a = first (map (at vs) ρ)

  a_inside : T (inside (corners s) (first (map (at vs) ρ)))
  a_inside = first-inside s (map (at vs) ρ) turned-sound

  lowest-here : lowest vs ≤ lowest (map (at vs) ρ)
  lowest-here =
      let x = lowest-at vs (at ρ (first (map (at vs) ρ))) (subst (λ (m : ℕ). T (inside m (at ρ (first (map (at vs) ρ))))) (sym h.many) (to_inside (first (map (at vs) ρ)) a_inside)) in
      let y = at-turned (first (map (at vs) ρ)) a_inside in
      let z = at_f s (map (at vs) ρ) turned-sound (first (map (at vs) ρ)) a_inside in
      let w = lowest_f s (map (at vs) ρ) turned-sound in
      omega arith

  lowest_there : lowest (map (at vs) ρ) ≤ lowest vs
  lowest_there =
      let p = place_of-at (first vs) ρ (L.has_all (first vs) (first-inside s vs h)) in
      let i = subst (λ (m : ℕ). T (inside m (place_of (first vs) ρ))) L.long p.1 in
      let x = lowest-at (map (at vs) ρ) (place_of (first vs) ρ) (subst (λ (m : ℕ). T (inside m (place_of (first vs) ρ))) (sym turned-sound.many) i) in
      let y = at-turned (place_of (first vs) ρ) i in
      let z = ap (at vs) p.0 in
      let u = at_f s vs h (first vs) (first-inside s vs h) in
      let w = lowest_f s vs h in
      omega arith

  first-turned : at ρ (first (map (at vs) ρ)) ≡ first vs
  first-turned =
      inj (at ρ (first (map (at vs) ρ))) (first vs)
      (sym (number-turned (first (map (at vs) ρ)) a_inside) ∙ sym (lowest_f s (map (at vs) ρ) turned-sound)
      ∙ (let x = lowest-here in let y = lowest_there in omega arith) ∙ lowest_f s vs h)

  pub rotated : cut (element s (map (at vs) ρ)) ≡ cut (element s vs)
  unfolding ways_of
  rotated =
      cut_half s ws' turned-sound
      ∙ ap in_order (map_agree (on_tet (number ws')) (λ x. on_tet N (on_tet (at ρ) x)) (λ x. every (inside (corners s)) (of_tet x)) (λ x i. two x i) t (and_left A₃ B₃ r₃) ∙ sym (map-map (on_tet N) (on_tet (at ρ)) t))
      ∙ same_places N inj v u (and_left A₁ B₁ r₁) (and_left A₂ B₂ r₂) (eq_tets→eq (in_order v) (in_order u) (and_left A₀ B₀ rot))
      ∙ ap (λ (hs : List ℕ). in_order (map (on_tet N) (shape s (at ρ a') hs))) looked
      ∙ ap (λ (x : ℕ). in_order (map (on_tet N) (shape s x (map (λ F. half (asked N F)) (far s x))))) first-turned
      ∙ sym (cut_half s vs h)
    where
      ws' : List ℕ
      ws' = map (at vs) ρ

      N : ℕ → ℕ
      N = number vs

      a' : ℕ
      a' = first (map (at vs) ρ)

      hs : List ℕ
      hs = map (λ F. half (asked (number (map (at vs) ρ)) F)) (far s a')

      Xs : List (Face ℕ)
      Xs = map (on_face (at ρ)) (far s a')

      fs : List (Face ℕ)
      fs = far s (at ρ a')

      t : List (Tet ℕ)
      t = shape s a' hs

      v : List (Tet ℕ)
      v = map (on_tet (at ρ)) t

      u : List (Tet ℕ)
      u = shape s (at ρ a') (map (look_for Xs hs) fs)

      A₀ : Bool
      A₀ = eq_tets (in_order v) (in_order u)

      A₁ : Bool
      A₁ = apart v

      A₂ : Bool
      A₂ = apart u

      A₃ : Bool
      A₃ = inside_all (corners s) t

      A₄ : Bool
      A₄ = faces_in (corners s) (far s a')

      A₅ : Bool
      A₅ = apart_faces Xs

      A₆ : Bool
      A₆ = every (matched Xs) fs

      B₃ : Bool
      B₃ = A₄ && (A₅ && A₆)

      B₂ : Bool
      B₂ = A₃ && B₃

      B₁ : Bool
      B₁ = A₂ && B₂

      B₀ : Bool
      B₀ = A₁ && B₁

      rot : T (A₀ && B₀)
      rot = at_half s ws' turned-sound (rot_ok s ρ) (and_right (list_ok s ρ) (all_halves s (rot_ok s ρ)) ok)

      r₁ : T (A₁ && B₁)
      r₁ = and_right A₀ B₀ rot

      r₂ : T (A₂ && B₂)
      r₂ = and_right A₁ B₁ r₁

      r₃ : T (A₃ && B₃)
      r₃ = and_right A₂ B₂ r₂

      r₄ : T (A₄ && (A₅ && A₆))
      r₄ = and_right A₃ B₃ r₃

      r₅ : T (A₅ && A₆)
      r₅ = and_right A₄ (A₅ && A₆) r₄

      compose : (x : Tet ℕ) → on_tet (λ p. N (at ρ p)) x ≡ on_tet N (on_tet (at ρ) x)
      compose (tet p q r w) = refl

      two : (x : Tet ℕ) → T (every (inside (corners s)) (of_tet x)) → on_tet (number ws') x ≡ on_tet N (on_tet (at ρ) x)
      two x i = tet_agree (number ws') (λ p. N (at ρ p)) (inside (corners s)) number-turned x i ∙ compose x

      compose_f : (F : Face ℕ) → on_face (λ p. N (at ρ p)) F ≡ on_face N (on_face (at ρ) F)
      compose_f (three p q r) = refl
      compose_f (four p q r w) = refl

      same_asked : (F : Face ℕ) → T (every (inside (corners s)) (of_face F)) → half (asked (number ws') F) ≡ half (asked N (on_face (at ρ) F))
      same_asked F i = ap (λ (X : Face ℕ). half (Rattle.solids.specs.Cut.turns X)) (face_agree (number ws') (λ p. N (at ρ p)) (inside (corners s)) number-turned F i ∙ compose_f F)

      hs_are : hs ≡ map (way N inj) Xs
      hs_are =
          map_agree (λ F. half (asked (number ws') F)) (λ F. half (asked N (on_face (at ρ) F))) (λ F. every (inside (corners s)) (of_face F)) same_asked (far s a') (and_left A₄ (A₅ && A₆) r₄)
          ∙ sym (map-map (way N inj) (on_face (at ρ)) (far s a'))

      looked : map (look_for Xs hs) fs ≡ map (λ F. half (asked N F)) fs
      looked =
          map_agree (look_for Xs hs) (λ F. half (asked N F)) (matched Xs)
          (λ F m. ap (λ (ks : List ℕ). look_for Xs ks F) hs_are ∙ look_right N inj Xs (and_left A₅ A₆ r₅) F m) fs (and_right A₅ A₆ r₅)

-- a word of rotations
gen_places : (s : Solid) (i : ℕ) → AllPlaces s (gen s i)
gen_places s i = all_places s (gen s i) (and_left (list_ok s (gen s i)) (all_halves s (rot_ok s (gen s i))) (all_turn s i))

gen_in : (s : Solid) (i p : ℕ) → T (inside (corners s) p) → T (inside (length (gen s i)) p)
gen_in s i p k = subst (λ (m : ℕ). T (inside m p)) (sym (gen_places s i).long) k

product_inside : (s : Solid) (i : ℕ) (w : List ℕ) → T (every (inside (corners s)) (product s i w))
product_inside s i [] = (gen_places s i).all_inside
product_inside s i (j ∷ w) =
    every_map (inside (corners s)) (at (gen s i)) (inside (corners s))
    (λ p k. at_every (inside (corners s)) (gen s i) (gen_places s i).all_inside p (gen_in s i p k)) (product s j w) (product_inside s j w)

pub turned_word : (s : Solid) (i : ℕ) (w : List ℕ) (vs : List ℕ) → Proper s vs → cut (element s (map (at vs) (product s i w))) ≡ cut (element s vs)
turned_word s i [] vs h = rotated s vs h (gen s i) (all_turn s i)
turned_word s i (j ∷ w) vs h =
    ap (λ (l : List ℕ). cut (element s l))
    (map-map (at vs) (at (gen s i)) (product s j w)
    ∙ sym (map_agree (at (map (at vs) (gen s i))) (λ p. at vs (at (gen s i) p)) (inside (corners s)) (λ p k. at_map (at vs) (gen s i) p (gen_in s i p k)) (product s j w) (product_inside s j w)))
    ∙ turned_word s j w (map (at vs) (gen s i)) (turned-sound s vs h (gen s i) (all_turn s i))
    ∙ rotated s vs h (gen s i) (all_turn s i)

-- THE ROTATIONS
pub rotate : (s : Solid) (vs : List ℕ) → Proper s vs → (ρ : List ℕ) → Memᴰ ρ (rotations s) → cut (relisted ρ (element s vs)) ≡ cut (element s vs)
rotate s vs h ρ m = go (Memᴰ.of_map (product_of s) (words s) (subst (λ (l : List (List ℕ)). Memᴰ ρ l) (words_right s) m))
  where
    go : (w : Word) × Memᴰ w (words s) × (product_of s w ≡ ρ) → cut (element s (map (at vs) ρ)) ≡ cut (element s vs)
    go w = ap (λ (l : List ℕ). cut (element s (map (at vs) l))) (sym w.2) ∙ by w.0
      where
        by : (x : Word) → cut (element s (map (at vs) (product_of s x))) ≡ cut (element s vs)
        by (word i w) = turned_word s i w vs h
