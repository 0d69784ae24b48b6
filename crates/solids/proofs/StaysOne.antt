-- A tetrahedron stays one: the cut of a tetrahedron is itself as it is written, and what is written once is not changed by writing it again.
-- Assumes nothing.
use mathlib.Core.Path.{◌≡◌, refl, sym, ◌∙◌, ap, ap₂}
use mathlib.Core.Bool.{Bool, true, false, cond, not}
use mathlib.Core.List.Memᴰ
use mathlib.Core.List.{List, [], ◌∷◌, ◌++◌, map, Memᴰ}
use mathlib.Core.Logic.{◌⊎◌, inl, inr}
use Prim.Native.Nat.{ℕ, ◌≤◌}
use native.Mathlib.Omega.{arith}
use lib.Dec.{eqb, T}
use borrow.Author.Tests.{eqb-true, eqb-false, eq-eqb, ne_eqb}
use Rattle.laws.specs.Words.{every, distinct, keep, gather, lowest}
use Rattle.laws.proofs.TestLaws.{and_left, and_right}
use Rattle.solids.specs.Solids.{Tet, tet, Element, of_tet, holds, faces_of}
use Rattle.solids.specs.Cut.{cut_face, follow, first_lowest, second_lowest, written, up_to, insert, ascending, in_order, tets_of, cut, cut_mesh}
use Rattle.solids.specs.Listings.{as_element}
use Rattle.solids.proofs.WrittenFormLaws.{Apart, Least, first, second, third, fourth, least, first_pairs, first_halves, first_back, written_turn, turned_apart, pairs_apart, halves-apart}
use Rattle.solids.proofs.RenamingLaws.{apart_on}
use Rattle.solids.proofs.FaceFacts.{eqb_self}

-- ---- the cut of a tetrahedron

-- four different vertices
pub distinct_apart : (a b c d : ℕ) → T (distinct (a ∷ b ∷ c ∷ d ∷ [])) → Apart a b c d
distinct_apart a b c d h = apart_on (λ p. p) (λ p q e. e) (tet a b c d) h

-- the fan from a vertex
abbrev fan_from : ℕ → Tet ℕ → List (Tet ℕ)
fan_from v t = map (follow v) (gather cut_face (keep (λ F. not (holds v F)) (faces_of (as_element t))))

module _ (a b c d : ℕ) (h : Apart a b c d) where
  from_a : fan_from a (tet a b c d) ≡ tet a b c d ∷ []
  from_a = simp (eqb_self, ne_eqb a b h.ab, ne_eqb a c h.ac, ne_eqb a d h.ad)

  from_b : fan_from b (tet a b c d) ≡ tet b a d c ∷ []
  from_b = simp (eqb_self, ne_eqb b a (λ e. h.ab (sym e)), ne_eqb b c h.bc, ne_eqb b d h.bd)

  from_c : fan_from c (tet a b c d) ≡ tet c a b d ∷ []
  from_c = simp (eqb_self, ne_eqb c a (λ e. h.ac (sym e)), ne_eqb c b (λ e. h.bc (sym e)), ne_eqb c d h.cd)

  from_d : fan_from d (tet a b c d) ≡ tet d a c b ∷ []
  from_d = simp (eqb_self, ne_eqb d a (λ e. h.ad (sym e)), ne_eqb d b (λ e. h.bd (sym e)), ne_eqb d c (λ e. h.cd (sym e)))

  by_lowest : (v : ℕ) (t : Tet ℕ) → lowest (a ∷ b ∷ c ∷ d ∷ []) ≡ v → fan_from v (tet a b c d) ≡ t ∷ [] → written t ≡ written (tet a b c d)
      → in_order (fan_from (lowest (a ∷ b ∷ c ∷ d ∷ [])) (tet a b c d)) ≡ written (tet a b c d) ∷ []
  by_lowest v t e f w =
      ap (λ (x : ℕ). in_order (fan_from x (tet a b c d))) e ∙ ap in_order f ∙ ap {B = List (Tet ℕ)} (λ x. x ∷ []) w

  pub stays_one : cut (as_element (tet a b c d)) ≡ written (tet a b c d) ∷ []
  unfolding cut
  stays_one = go (least h)
    where
      go : Least a b c d → in_order (fan_from (lowest (a ∷ b ∷ c ∷ d ∷ [])) (tet a b c d)) ≡ written (tet a b c d) ∷ []
      go (first p q r) = by_lowest a (tet a b c d) (omega arith) from_a refl
      go (second p q r) = by_lowest b (tet b a d c) (omega arith) from_b (ap second_lowest (first_pairs h))
      go (third p q r) = by_lowest c (tet c a b d) (omega arith) from_c (written_turn (halves-apart h) ∙ ap second_lowest (first_halves h))
      go (fourth p q r) =
          by_lowest d (tet d a c b) (omega arith) from_d
          (written_turn (turned_apart (halves-apart (pairs_apart h))) ∙ written_turn (halves-apart (pairs_apart h)) ∙ ap second_lowest (first_back h))

-- ---- what is written stays as it is

-- the lowest number first, the lowest of the others second
abbrev Ordered : Tet ℕ → Type 0
Ordered (tet a b c d) = (a ≤ b) × (a ≤ c) × (a ≤ d) × (b ≤ c) × (b ≤ d)

abbrev LowFirst : Tet ℕ → Type 0
LowFirst (tet a b c d) = (a ≤ b) × (a ≤ c) × (a ≤ d)

first-low : (t : Tet ℕ) → LowFirst (first_lowest t)
first-low (tet a b c d) = go (eqb a m) refl (eqb b m) refl (eqb c m) refl
  where
    m : ℕ
    m = lowest (a ∷ b ∷ c ∷ d ∷ [])

    go : (x : Bool) → eqb a (lowest (a ∷ b ∷ c ∷ d ∷ [])) ≡ x → (y : Bool) → eqb b (lowest (a ∷ b ∷ c ∷ d ∷ [])) ≡ y → (z : Bool) → eqb c (lowest (a ∷ b ∷ c ∷ d ∷ [])) ≡ z
        → LowFirst (cond x (tet a b c d) (cond y (tet b a d c) (cond z (tet c d a b) (tet d c b a))))
    go true p y q z r = let k = eqb-true a (lowest (a ∷ b ∷ c ∷ d ∷ [])) p in (omega arith, omega arith, omega arith)
    go false p true q z r = let k = eqb-true b (lowest (a ∷ b ∷ c ∷ d ∷ [])) q in (omega arith, omega arith, omega arith)
    go false p false q true r = let k = eqb-true c (lowest (a ∷ b ∷ c ∷ d ∷ [])) r in (omega arith, omega arith, omega arith)
    go false p false q false r =
        let k = eqb-false a (lowest (a ∷ b ∷ c ∷ d ∷ [])) p in
        let l = eqb-false b (lowest (a ∷ b ∷ c ∷ d ∷ [])) q in
        let n = eqb-false c (lowest (a ∷ b ∷ c ∷ d ∷ [])) r in
        (omega arith, omega arith, omega arith)

second-low : (t : Tet ℕ) → LowFirst t → Ordered (second_lowest t)
second-low (tet a b c d) h = go (eqb b m) refl (eqb c m) refl
  where
    m : ℕ
    m = lowest (b ∷ c ∷ d ∷ [])

    go : (x : Bool) → eqb b (lowest (b ∷ c ∷ d ∷ [])) ≡ x → (y : Bool) → eqb c (lowest (b ∷ c ∷ d ∷ [])) ≡ y → Ordered (cond x (tet a b c d) (cond y (tet a c d b) (tet a d b c)))
    go true p y q = let k = eqb-true b (lowest (b ∷ c ∷ d ∷ [])) p in (h.0, h.1, h.2, omega arith, omega arith)
    go false p true q = let k = eqb-true c (lowest (b ∷ c ∷ d ∷ [])) q in (h.1, h.2, h.0, omega arith, omega arith)
    go false p false q =
        let k = eqb-false b (lowest (b ∷ c ∷ d ∷ [])) p in
        let l = eqb-false c (lowest (b ∷ c ∷ d ∷ [])) q in
        (h.2, h.0, h.1, omega arith, omega arith)

as_written : (t : Tet ℕ) → Ordered t → written t ≡ t
as_written (tet a b c d) h =
    simp (eq-eqb a (lowest (a ∷ b ∷ c ∷ d ∷ [])) (omega arith), eq-eqb b (lowest (b ∷ c ∷ d ∷ [])) (omega arith))

written-again : (t : Tet ℕ) → written (written t) ≡ written t
written-again t = as_written (written t) (second-low (first_lowest t) (first-low t))

-- what stands in order was there
insert_from : (t x : Tet ℕ) (l : List (Tet ℕ)) → Memᴰ t (insert x l) → (t ≡ x) ⊎ Memᴰ t l
insert_from t x [] m = Memᴰ.cases_cons m
insert_from t x (u ∷ l) m = go (up_to (of_tet x) (of_tet u)) m (insert_from t x l)
  where
    go : (b : Bool) → Memᴰ t (cond b (x ∷ (u ∷ l)) (u ∷ insert x l)) → (Memᴰ t (insert x l) → (t ≡ x) ⊎ Memᴰ t l) → (t ≡ x) ⊎ Memᴰ t (u ∷ l)
    go true m ih = Memᴰ.cases_cons m
    go false m ih = by (Memᴰ.cases_cons m)
      where
        later : (t ≡ x) ⊎ Memᴰ t l → (t ≡ x) ⊎ Memᴰ t (u ∷ l)
        later (inl e) = inl e
        later (inr k) = inr (Memᴰ.tail k)

        by : (t ≡ u) ⊎ Memᴰ t (insert x l) → (t ≡ x) ⊎ Memᴰ t (u ∷ l)
        by (inl e) = inr (Memᴰ.head e)
        by (inr k) = later (ih k)

ascending_from : (t : Tet ℕ) (l : List (Tet ℕ)) → Memᴰ t (ascending l) → Memᴰ t l
ascending_from t [] m = m
ascending_from t (x ∷ l) m = go (insert_from t x (ascending l) m) (ascending_from t l)
  where
    go : (t ≡ x) ⊎ Memᴰ t (ascending l) → (Memᴰ t (ascending l) → Memᴰ t l) → Memᴰ t (x ∷ l)
    go (inl e) ih = Memᴰ.head e
    go (inr k) ih = Memᴰ.tail (ih k)

-- a tetrahedron of a cut is as it is written
pub cut-written : (e : Element) (t : Tet ℕ) → Memᴰ t (cut e) → written t ≡ t
unfolding cut
cut-written e t m =
    let u = Memᴰ.of_map written (tets_of e) (ascending_from t (map written (tets_of e)) m) in
    ap written (sym u.2) ∙ written-again u.0 ∙ u.2

-- ---- given as elements, they are cut to themselves
pub cut_self : (ts : List (Tet ℕ)) → T (every (λ t. distinct (of_tet t)) ts) → ((t : Tet ℕ) → Memᴰ t ts → written t ≡ t) → cut_mesh (map as_element ts) ≡ ts
unfolding cut_mesh
cut_self [] h w = refl
cut_self (tet a b c d ∷ ts) h w =
    ap₂ {C = List (Tet ℕ)} (λ x y. x ++ y)
    (stays_one a b c d (distinct_apart a b c d (and_left (distinct (a ∷ b ∷ c ∷ d ∷ [])) (every (λ t. distinct (of_tet t)) ts) h))
    ∙ ap {B = List (Tet ℕ)} (λ x. x ∷ []) (w (tet a b c d) (Memᴰ.head refl)))
    (cut_self ts (and_right (distinct (a ∷ b ∷ c ∷ d ∷ [])) (every (λ t. distinct (of_tet t)) ts) h) (λ t m. w t (Memᴰ.tail m)))
