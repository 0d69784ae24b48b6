-- A face and the same face turned: which of its diagonals is cut.
-- Assumes nothing.
use mathlib.Core.Path.{◌≡◌, refl, sym, ◌∙◌, ap, subst}
use mathlib.Core.Bool.{Bool, true, false, cond, ◌&&◌, ◌||◌}
use mathlib.Core.List.{List, [], ◌∷◌, map}
use mathlib.Core.Logic.{◌⊎◌, inl, inr}
use Prim.Native.Nat.{ℕ, zero, suc, ◌<◌}
use native.Mathlib.Omega.{arith}
use lib.Dec.{eqb, T, eqb→eq}
use borrow.Author.Tests.{eq-eqb, ne_eqb}
use Rattle.laws.specs.Words.{every, some, distinct, lowest}
use Rattle.solids.specs.Solids.{Face, three, four, tet}
use Rattle.solids.specs.Rotations.{eq_face}
use Rattle.solids.specs.Cut.{turned, turns}
use Rattle.laws.proofs.TestLaws.{or_cases, and_left, and_right}
use Rattle.solids.proofs.WrittenFormLaws.{Apart, Least, first, second, third, fourth, least}
use Rattle.solids.proofs.RenamingLaws.{asked, apart_on}

-- 0 for the diagonal from the first corner, 1 for the other
abbrev pub half : ℕ → ℕ
half zero = 0
half (suc zero) = 1
half (suc (suc k)) = half k

abbrev pub flip : ℕ → ℕ
flip zero = 1
flip (suc k) = 0

flip_flip : (k : ℕ) → flip (flip (half k)) ≡ half k
flip_flip zero = refl
flip_flip (suc zero) = refl
flip_flip (suc (suc k)) = flip_flip k

abbrev low : ℕ → ℕ → ℕ → ℕ → ℕ
low a b c d = lowest (a ∷ b ∷ c ∷ d ∷ [])

pub turns_0 : (a b c d : ℕ) → a < b → a < c → a < d → turns (four a b c d) ≡ 0
turns_0 a b c d p q r = simp (eq-eqb a (low a b c d) (omega arith))

pub turns_1 : (a b c d : ℕ) → b < a → b < c → b < d → turns (four a b c d) ≡ 1
turns_1 a b c d p q r = simp (ne_eqb a (low a b c d) (omega arith), eq-eqb b (low a b c d) (omega arith))

pub turns_2 : (a b c d : ℕ) → c < a → c < b → c < d → turns (four a b c d) ≡ 2
turns_2 a b c d p q r = simp (ne_eqb a (low a b c d) (omega arith), ne_eqb b (low a b c d) (omega arith), eq-eqb c (low a b c d) (omega arith))

pub turns_3 : (a b c d : ℕ) → d < a → d < b → d < c → turns (four a b c d) ≡ 3
turns_3 a b c d p q r = simp (ne_eqb a (low a b c d) (omega arith), ne_eqb b (low a b c d) (omega arith), ne_eqb c (low a b c d) (omega arith))

-- turned once, the other diagonal
turn_once : (a b c d : ℕ) → Apart a b c d → half (turns (four b c d a)) ≡ flip (half (turns (four a b c d)))
turn_once a b c d h = go (least h)
  where
    go : Least a b c d → half (turns (four b c d a)) ≡ flip (half (turns (four a b c d)))
    go (first p q r) = ap half (turns_3 b c d a p q r) ∙ ap (λ k. flip (half k)) (sym (turns_0 a b c d p q r))
    go (second p q r) = ap half (turns_0 b c d a q r p) ∙ ap (λ k. flip (half k)) (sym (turns_1 a b c d p q r))
    go (third p q r) = ap half (turns_1 b c d a q r p) ∙ ap (λ k. flip (half k)) (sym (turns_2 a b c d p q r))
    go (fourth p q r) = ap half (turns_2 b c d a q r p) ∙ ap (λ k. flip (half k)) (sym (turns_3 a b c d p q r))

pub cycle_apart : {a b c d : ℕ} → Apart a b c d → Apart b c d a
cycle_apart h = record { ab = h.bc; ac = h.bd; ad = λ e. h.ab (sym e); bc = h.cd; bd = λ e. h.ac (sym e); cd = λ e. h.ad (sym e) }

-- the diagonal of a face, from the faces of which one is it, turned
abbrev same_way : Face ℕ → Face ℕ → Bool
same_way X G = eq_face X G || eq_face (turned 2 X) G

abbrev other_way : Face ℕ → Face ℕ → Bool
other_way X G = eq_face (turned 1 X) G || eq_face (turned 3 X) G

abbrev pub look_for : List (Face ℕ) → List ℕ → Face ℕ → ℕ
look_for Xs hs (three p q r) = 0
look_for [] hs (four p q r s) = 0
look_for (X ∷ Xs) [] (four p q r s) = 0
look_for (X ∷ Xs) (h ∷ hs) (four p q r s) = cond (same_way X (four p q r s)) h (cond (other_way X (four p q r s)) (flip h) (look_for Xs hs (four p q r s)))

abbrev pub matched : List (Face ℕ) → Face ℕ → Bool
matched Xs (three p q r) = true
matched Xs (four p q r s) = some (λ X. same_way X (four p q r s) || other_way X (four p q r s)) Xs

pub eq_face→eq : (X G : Face ℕ) → T (eq_face X G) → G ≡ X
eq_face→eq (three a b c) (three p q r) h =
    let x = eqb→eq a p (and_left (eqb a p) (eqb b q && eqb c r) h) in
    let k = and_right (eqb a p) (eqb b q && eqb c r) h in
    let y = eqb→eq b q (and_left (eqb b q) (eqb c r) k) in
    let z = eqb→eq c r (and_right (eqb b q) (eqb c r) k) in
    cc
eq_face→eq (three a b c) (four p q r s) h = absurd h
eq_face→eq (four a b c d) (three p q r) h = absurd h
eq_face→eq (four a b c d) (four p q r s) h =
    let x = eqb→eq a p (and_left (eqb a p) (eqb b q && (eqb c r && eqb d s)) h) in
    let k = and_right (eqb a p) (eqb b q && (eqb c r && eqb d s)) h in
    let y = eqb→eq b q (and_left (eqb b q) (eqb c r && eqb d s) k) in
    let l = and_right (eqb b q) (eqb c r && eqb d s) k in
    let z = eqb→eq c r (and_left (eqb c r) (eqb d s) l) in
    let w = eqb→eq d s (and_right (eqb c r) (eqb d s) l) in
    cc

abbrev pub of_four : Face ℕ → Bool
of_four (three p q r) = true
of_four (four p q r s) = distinct (p ∷ q ∷ r ∷ s ∷ [])

abbrev pub apart_faces : List (Face ℕ) → Bool
apart_faces = every of_four

module _ (f : ℕ → ℕ) (inj : (p q : ℕ) → f p ≡ f q → p ≡ q) where
  abbrev pub way : Face ℕ → ℕ
  way F = half (asked f F)

  same_way_lem : (X : Face ℕ) → T (of_four X) → (p q r s : ℕ) → T (same_way X (four p q r s)) → way (four p q r s) ≡ way X
  same_way_lem (three a b c) h p q r s t = absurd t
  same_way_lem (four a b c d) h p q r s t = go (or_cases (eq_face (four a b c d) (four p q r s)) (eq_face (four c d a b) (four p q r s)) t)
    where
      A : Apart (f a) (f b) (f c) (f d)
      A = apart_on f inj (tet a b c d) h

      go : T (eq_face (four a b c d) (four p q r s)) ⊎ T (eq_face (four c d a b) (four p q r s)) → way (four p q r s) ≡ way (four a b c d)
      go (inl e) = ap way (eq_face→eq (four a b c d) (four p q r s) e)
      go (inr e) =
          ap way (eq_face→eq (four c d a b) (four p q r s) e)
          ∙ turn_once (f b) (f c) (f d) (f a) (cycle_apart A)
          ∙ ap flip (turn_once (f a) (f b) (f c) (f d) A)
          ∙ flip_flip (asked f (four a b c d))

  other_way_lem : (X : Face ℕ) → T (of_four X) → (p q r s : ℕ) → T (other_way X (four p q r s)) → way (four p q r s) ≡ flip (way X)
  other_way_lem (three a b c) h p q r s t = absurd t
  other_way_lem (four a b c d) h p q r s t = go (or_cases (eq_face (four b c d a) (four p q r s)) (eq_face (four d a b c) (four p q r s)) t)
    where
      A : Apart (f a) (f b) (f c) (f d)
      A = apart_on f inj (tet a b c d) h

      go : T (eq_face (four b c d a) (four p q r s)) ⊎ T (eq_face (four d a b c) (four p q r s)) → way (four p q r s) ≡ flip (way (four a b c d))
      go (inl e) = ap way (eq_face→eq (four b c d a) (four p q r s) e) ∙ turn_once (f a) (f b) (f c) (f d) A
      go (inr e) =
          ap way (eq_face→eq (four d a b c) (four p q r s) e)
          ∙ turn_once (f c) (f d) (f a) (f b) (cycle_apart (cycle_apart A))
          ∙ ap flip (turn_once (f b) (f c) (f d) (f a) (cycle_apart A) ∙ ap flip (turn_once (f a) (f b) (f c) (f d) A) ∙ flip_flip (asked f (four a b c d)))

  -- what is looked for is found
  pub look_right : (Xs : List (Face ℕ)) → T (apart_faces Xs) → (G : Face ℕ) → T (matched Xs G) → look_for Xs (map way Xs) G ≡ way G
  look_right Xs h (three p q r) m = refl
  look_right [] h (four p q r s) m = absurd m
  look_right (X ∷ Xs) h (four p q r s) m =
      go (same_way X G) refl (other_way X G) refl m (look_right Xs (and_right (of_four X) (apart_faces Xs) h) G)
    where
      G : Face ℕ
      G = four p q r s

      h_x : T (of_four X)
      h_x = and_left (of_four X) (apart_faces Xs) h

      go : (b : Bool) → same_way X (four p q r s) ≡ b → (c : Bool) → other_way X (four p q r s) ≡ c
          → T ((b || c) || matched Xs (four p q r s)) → (T (matched Xs (four p q r s)) → look_for Xs (map way Xs) (four p q r s) ≡ way (four p q r s))
          → cond b (way X) (cond c (flip (way X)) (look_for Xs (map way Xs) (four p q r s))) ≡ way (four p q r s)
      go true e c k t ih = sym (same_way_lem X h_x p q r s (subst T (sym e) tt))
      go false e true k t ih = sym (other_way_lem X h_x p q r s (subst T (sym k) tt))
      go false e false k t ih = ih t
