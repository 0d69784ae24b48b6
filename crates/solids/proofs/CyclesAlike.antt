-- One cycle read from another corner: this can be undone and done again, it survives a renaming and reading backwards, the test finds it, and it
-- keeps corners and edges.
-- Assumes nothing.
use mathlib.Core.Path.{◌≡◌, refl, sym, ◌∙◌, ap, subst}
use mathlib.Core.Bool.{Bool, ◌&&◌, ◌||◌}
use Prim.Native.Nat.{ℕ}
use lib.Dec.{eqb, T, eqb_refl}
use Rattle.laws.specs.Words.{some}
use Rattle.laws.proofs.TestLaws.{and_both, or_left, or_right}
use Rattle.solids.specs.Solids.{Face, three, four, Edge, edge, on_face, edges_of}
use Rattle.solids.specs.Rotations.{eq_face, same_face}
use Rattle.solids.specs.Fit.{back_face}
use Rattle.solids.proofs.CycleLaws.{Cycle, c0, c1, c2, c3, next, or_turn₃, or_turn₄}

-- one corner further
step : (F : Face ℕ) {G : Face ℕ} → Cycle F G → Cycle F (next G)
step F (c0 e) = c1 (ap next e)
step F (c1 e) = c2 (ap next e)
step F (c2 e) = c3 (ap next e)
step (three p q r) (c3 e) = c1 (ap next e)
step (four p q r s) (c3 e) = c0 (ap next e)

pub cycle_trans : {F G H : Face ℕ} → Cycle F G → Cycle G H → Cycle F H
cycle_trans {F} {G} c (c0 e) = subst (Cycle F) (sym e) c
cycle_trans {F} {G} c (c1 e) = subst (Cycle F) (sym e) (step F c)
cycle_trans {F} {G} c (c2 e) = subst (Cycle F) (sym e) (step F (step F c))
cycle_trans {F} {G} c (c3 e) = subst (Cycle F) (sym e) (step F (step F (step F c)))

home : (F : Face ℕ) → Cycle (next F) F
home (three p q r) = c2 refl
home (four p q r s) = c3 refl

pub cycle_sym : {F G : Face ℕ} → Cycle F G → Cycle G F
cycle_sym (c0 e) = c0 (sym e)
cycle_sym {F} (c1 e) = subst (λ (X : Face ℕ). Cycle X F) (sym e) (home F)
cycle_sym {F} (c2 e) = subst (λ (X : Face ℕ). Cycle X F) (sym e) (cycle_trans (home (next F)) (home F))
cycle_sym {F} (c3 e) = subst (λ (X : Face ℕ). Cycle X F) (sym e) (cycle_trans (home (next (next F))) (cycle_trans (home (next F)) (home F)))

-- what one step further survives, the whole cycle survives
through : (h : Face ℕ → Face ℕ) → ((F : Face ℕ) → Cycle (h F) (h (next F))) → {F G : Face ℕ} → Cycle F G → Cycle (h F) (h G)
through h one {F} (c0 e) = c0 (ap h e)
through h one {F} (c1 e) = subst (λ (X : Face ℕ). Cycle (h F) (h X)) (sym e) (one F)
through h one {F} (c2 e) = subst (λ (X : Face ℕ). Cycle (h F) (h X)) (sym e) (cycle_trans (one F) (one (next F)))
through h one {F} (c3 e) = subst (λ (X : Face ℕ). Cycle (h F) (h X)) (sym e) (cycle_trans (one F) (cycle_trans (one (next F)) (one (next (next F)))))

back_step : (F : Face ℕ) → Cycle (back_face F) (back_face (next F))
back_step (three p q r) = c2 refl
back_step (four p q r s) = c3 refl

pub cycle_back : {F G : Face ℕ} → Cycle F G → Cycle (back_face F) (back_face G)
cycle_back = through back_face back_step

pub back-back_face : (F : Face ℕ) → back_face (back_face F) ≡ F
back-back_face (three p q r) = refl
back-back_face (four p q r s) = refl

on_step : (f : ℕ → ℕ) (F : Face ℕ) → Cycle (on_face f F) (on_face f (next F))
on_step f (three p q r) = c1 refl
on_step f (four p q r s) = c1 refl

pub cycle_on : (f : ℕ → ℕ) {F G : Face ℕ} → Cycle F G → Cycle (on_face f F) (on_face f G)
cycle_on f = through (on_face f) (on_step f)

-- the reverse of the reverse
pub cycle_across : {F G : Face ℕ} → Cycle (back_face F) G → Cycle (back_face G) F
cycle_across {F} {G} c = subst (Cycle (back_face G)) (back-back_face F) (cycle_back (cycle_sym c))

-- ---- the test finds it

eq_face-refl : (F : Face ℕ) → T (eq_face F F)
eq_face-refl (three a b c) = and_both (eqb a a) (eqb b b && eqb c c) (eqb_refl a) (and_both (eqb b b) (eqb c c) (eqb_refl b) (eqb_refl c))
eq_face-refl (four a b c d) =
    and_both (eqb a a) (eqb b b && (eqb c c && eqb d d)) (eqb_refl a)
    (and_both (eqb b b) (eqb c c && eqb d d) (eqb_refl b) (and_both (eqb c c) (eqb d d) (eqb_refl c) (eqb_refl d)))

found : (X G : Face ℕ) → G ≡ X → T (eq_face X G)
found X G e = subst (λ (Y : Face ℕ). T (eq_face X Y)) (sym e) (eq_face-refl X)

pub cycle_test : (F G : Face ℕ) → Cycle F G → T (same_face F G)
cycle_test (three a b c) G (c0 e) = or_left (eq_face (three a b c) G) (eq_face (three b c a) G || eq_face (three c a b) G) (found (three a b c) G e)
cycle_test (three a b c) G (c1 e) =
    or_right (eq_face (three a b c) G) (eq_face (three b c a) G || eq_face (three c a b) G)
    (or_left (eq_face (three b c a) G) (eq_face (three c a b) G) (found (three b c a) G e))
cycle_test (three a b c) G (c2 e) =
    or_right (eq_face (three a b c) G) (eq_face (three b c a) G || eq_face (three c a b) G)
    (or_right (eq_face (three b c a) G) (eq_face (three c a b) G) (found (three c a b) G e))
cycle_test (three a b c) G (c3 e) = or_left (eq_face (three a b c) G) (eq_face (three b c a) G || eq_face (three c a b) G) (found (three a b c) G e)
cycle_test (four a b c d) G (c0 e) =
    or_left (eq_face (four a b c d) G) (eq_face (four b c d a) G || (eq_face (four c d a b) G || eq_face (four d a b c) G)) (found (four a b c d) G e)
cycle_test (four a b c d) G (c1 e) =
    or_right (eq_face (four a b c d) G) (eq_face (four b c d a) G || (eq_face (four c d a b) G || eq_face (four d a b c) G))
    (or_left (eq_face (four b c d a) G) (eq_face (four c d a b) G || eq_face (four d a b c) G) (found (four b c d a) G e))
cycle_test (four a b c d) G (c2 e) =
    or_right (eq_face (four a b c d) G) (eq_face (four b c d a) G || (eq_face (four c d a b) G || eq_face (four d a b c) G))
    (or_right (eq_face (four b c d a) G) (eq_face (four c d a b) G || eq_face (four d a b c) G)
    (or_left (eq_face (four c d a b) G) (eq_face (four d a b c) G) (found (four c d a b) G e)))
cycle_test (four a b c d) G (c3 e) =
    or_right (eq_face (four a b c d) G) (eq_face (four b c d a) G || (eq_face (four c d a b) G || eq_face (four d a b c) G))
    (or_right (eq_face (four b c d a) G) (eq_face (four c d a b) G || eq_face (four d a b c) G)
    (or_right (eq_face (four c d a b) G) (eq_face (four d a b c) G) (found (four d a b c) G e)))

-- ---- the edges are the same

module _ (P : Edge ℕ → Bool) where
  edges_next : (F : Face ℕ) → some P (edges_of (next F)) ≡ some P (edges_of F)
  edges_next (three p q r) = sym (or_turn₃ (P (edge p q)) (P (edge q r)) (P (edge r p)))
  edges_next (four p q r s) = sym (or_turn₄ (P (edge p q)) (P (edge q r)) (P (edge r s)) (P (edge s p)))

  pub edges_cycle : {F G : Face ℕ} → Cycle F G → some P (edges_of G) ≡ some P (edges_of F)
  edges_cycle (c0 e) = ap (λ (X : Face ℕ). some P (edges_of X)) e
  edges_cycle {F} (c1 e) = ap (λ (X : Face ℕ). some P (edges_of X)) e ∙ edges_next F
  edges_cycle {F} (c2 e) = ap (λ (X : Face ℕ). some P (edges_of X)) e ∙ edges_next (next F) ∙ edges_next F
  edges_cycle {F} (c3 e) = ap (λ (X : Face ℕ). some P (edges_of X)) e ∙ edges_next (next (next F)) ∙ edges_next (next F) ∙ edges_next F
