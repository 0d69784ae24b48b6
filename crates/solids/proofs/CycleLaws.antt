-- The cut of a face and of its cycle read backwards: the same triangles, reversed.
-- Assumes nothing.
use mathlib.Core.Path.{◌≡◌, refl, sym, ◌∙◌, ap, subst}
use mathlib.Core.Bool.{Bool, true, false, cond, ◌||◌}
use mathlib.Core.Logic.{◌⊎◌, inl, inr}
use Prim.Native.Nat.{ℕ, ◌+◌}
use native.Mathlib.Omega.{arith}
use lib.Dec.{eqb, T}
use Rattle.solids.specs.Solids.{Face, three, four, Tri, tri, holds}
use Rattle.solids.specs.Rotations.{eq_face, same_face}
use Rattle.solids.specs.Cut.{turned, lowest_first, halves, cut_face}
use Rattle.solids.specs.Fit.{back_face}
use Rattle.solids.specs.Surface.{back, same_tri, times}
use Rattle.laws.proofs.TestLaws.{or_cases}
use Rattle.solids.proofs.WrittenFormLaws.{Apart, Least, first, second, third, fourth, least}
use Rattle.solids.proofs.SideLaws.{Same, s1, same_right, same_back, same_test, test_same, bool_iff}
use Rattle.solids.proofs.TurnLaws.{turns_0, turns_1, turns_2, turns_3, cycle_apart, eq_face→eq}

abbrev pub FaceApart : Face ℕ → Type 0
FaceApart (three p q r) = Unit {0}
FaceApart (four p q r s) = Apart p q r s

abbrev pub next : Face ℕ → Face ℕ
next (three p q r) = three q r p
next (four p q r s) = four q r s p

next-apart : (F : Face ℕ) → FaceApart F → FaceApart (next F)
next-apart (three p q r) h = tt
next-apart (four p q r s) h = cycle_apart h

back-apart : (F : Face ℕ) → FaceApart F → FaceApart (back_face F)
back-apart (three p q r) h = tt
back-apart (four p q r s) h = record {
  ab = h.ad;
  ac = h.ac;
  ad = h.ab;
  bc = λ e. h.cd (sym e);
  bd = λ e. h.bd (sym e);
  cd = λ e. h.bc (sym e);
}

-- the cycle G is the cycle F, read from another corner
pub data Cycle (F G : Face ℕ) : Type 0 where
  c0 : G ≡ F → Cycle F G
  c1 : G ≡ next F → Cycle F G
  c2 : G ≡ next (next F) → Cycle F G
  c3 : G ≡ next (next (next F)) → Cycle F G

pub test_cycle : (F G : Face ℕ) → T (same_face F G) → Cycle F G
test_cycle (three a b c) G h = go (or_cases (eq_face (three a b c) G) (eq_face (three b c a) G || eq_face (three c a b) G) h)
  where
    go₂ : T (eq_face (three b c a) G) ⊎ T (eq_face (three c a b) G) → Cycle (three a b c) G
    go₂ (inl k) = c1 (eq_face→eq (three b c a) G k)
    go₂ (inr k) = c2 (eq_face→eq (three c a b) G k)

    go : T (eq_face (three a b c) G) ⊎ T (eq_face (three b c a) G || eq_face (three c a b) G) → Cycle (three a b c) G
    go (inl k) = c0 (eq_face→eq (three a b c) G k)
    go (inr k) = go₂ (or_cases (eq_face (three b c a) G) (eq_face (three c a b) G) k)
test_cycle (four a b c d) G h = go (or_cases (eq_face (four a b c d) G) (eq_face (four b c d a) G || (eq_face (four c d a b) G || eq_face (four d a b c) G)) h)
  where
    go₃ : T (eq_face (four c d a b) G) ⊎ T (eq_face (four d a b c) G) → Cycle (four a b c d) G
    go₃ (inl k) = c2 (eq_face→eq (four c d a b) G k)
    go₃ (inr k) = c3 (eq_face→eq (four d a b c) G k)

    go₂ : T (eq_face (four b c d a) G) ⊎ T (eq_face (four c d a b) G || eq_face (four d a b c) G) → Cycle (four a b c d) G
    go₂ (inl k) = c1 (eq_face→eq (four b c d a) G k)
    go₂ (inr k) = go₃ (or_cases (eq_face (four c d a b) G) (eq_face (four d a b c) G) k)

    go : T (eq_face (four a b c d) G) ⊎ T (eq_face (four b c d a) G || (eq_face (four c d a b) G || eq_face (four d a b c) G)) → Cycle (four a b c d) G
    go (inl k) = c0 (eq_face→eq (four a b c d) G k)
    go (inr k) = go₂ (or_cases (eq_face (four b c d a) G) (eq_face (four c d a b) G || eq_face (four d a b c) G) k)

-- the cut does not ask from which corner the cycle is read
low-next : (a b c d : ℕ) → Apart a b c d → lowest_first (four b c d a) ≡ lowest_first (four a b c d)
low-next a b c d h = go (least h)
  where
    go : Least a b c d → lowest_first (four b c d a) ≡ lowest_first (four a b c d)
    go (first p q r) = ap (λ k. turned k (four b c d a)) (turns_3 b c d a p q r) ∙ ap (λ k. turned k (four a b c d)) (sym (turns_0 a b c d p q r))
    go (second p q r) = ap (λ k. turned k (four b c d a)) (turns_0 b c d a q r p) ∙ ap (λ k. turned k (four a b c d)) (sym (turns_1 a b c d p q r))
    go (third p q r) = ap (λ k. turned k (four b c d a)) (turns_1 b c d a q r p) ∙ ap (λ k. turned k (four a b c d)) (sym (turns_2 a b c d p q r))
    go (fourth p q r) = ap (λ k. turned k (four b c d a)) (turns_2 b c d a q r p) ∙ ap (λ k. turned k (four a b c d)) (sym (turns_3 a b c d p q r))

low-back : (a b c d : ℕ) → Apart a b c d → lowest_first (four a d c b) ≡ back_face (lowest_first (four a b c d))
low-back a b c d h = go (least h)
  where
    go : Least a b c d → lowest_first (four a d c b) ≡ back_face (lowest_first (four a b c d))
    go (first p q r) = ap (λ k. turned k (four a d c b)) (turns_0 a d c b r q p) ∙ ap (λ k. back_face (turned k (four a b c d))) (sym (turns_0 a b c d p q r))
    go (second p q r) = ap (λ k. turned k (four a d c b)) (turns_3 a d c b p r q) ∙ ap (λ k. back_face (turned k (four a b c d))) (sym (turns_1 a b c d p q r))
    go (third p q r) = ap (λ k. turned k (four a d c b)) (turns_2 a d c b p r q) ∙ ap (λ k. back_face (turned k (four a b c d))) (sym (turns_2 a b c d p q r))
    go (fourth p q r) = ap (λ k. turned k (four a d c b)) (turns_1 a d c b p r q) ∙ ap (λ k. back_face (turned k (four a b c d))) (sym (turns_3 a b c d p q r))

pub back-back : (t : Tri ℕ) → back (back t) ≡ t
back-back (tri a b c) = refl

same_reverse : (t u : Tri ℕ) → same_tri t (back u) ≡ same_tri (back t) u
same_reverse t u =
    bool_iff (same_tri t (back u)) (same_tri (back t) u)
    (λ h. same_test (back t) u (subst (λ (x : Tri ℕ). Same (back t) x) (back-back u) (same_back (test_same t (back u) h))))
    (λ h. same_test t (back u) (subst (λ (x : Tri ℕ). Same x (back u)) (back-back t) (same_back (test_same (back t) u h))))

module _ (t : Tri ℕ) where
  times-next : (F : Face ℕ) → FaceApart F → times t (cut_face (next F)) ≡ times t (cut_face F)
  times-next (three a b c) h = ap {B = ℕ} (λ k. cond k 1 0 + 0) (sym (same_right t {u = tri a b c} {v = tri b c a} (s1 refl)))
  times-next (four a b c d) h = ap (λ (X : Face ℕ). times t (halves X)) (low-next a b c d h)

  halves-back : (F : Face ℕ) → times t (halves (back_face F)) ≡ times (back t) (halves F)
  halves-back (three a b c) = ap {B = ℕ} (λ k. cond k 1 0 + 0) (same_reverse t (tri a b c))
  halves-back (four a b c d) =
      let x = ap {B = ℕ} (λ k. cond k 1 0) (same_reverse t (tri a b c)) in
      let y = ap {B = ℕ} (λ k. cond k 1 0) (same_reverse t (tri a c d)) in
      omega arith

  times-back : (F : Face ℕ) → FaceApart F → times t (cut_face (back_face F)) ≡ times (back t) (cut_face F)
  times-back (three a b c) h = halves-back (three a b c)
  times-back (four a b c d) h = ap (λ (X : Face ℕ). times t (halves X)) (low-back a b c d h) ∙ halves-back (lowest_first (four a b c d))

  times_cycle : (F G : Face ℕ) → FaceApart F → Cycle F G → times t (cut_face G) ≡ times t (cut_face F)
  times_cycle F G h (c0 e) = ap (λ (X : Face ℕ). times t (cut_face X)) e
  times_cycle F G h (c1 e) = ap (λ (X : Face ℕ). times t (cut_face X)) e ∙ times-next F h
  times_cycle F G h (c2 e) = ap (λ (X : Face ℕ). times t (cut_face X)) e ∙ times-next (next F) (next-apart F h) ∙ times-next F h
  times_cycle F G h (c3 e) =
      ap (λ (X : Face ℕ). times t (cut_face X)) e
      ∙ times-next (next (next F)) (next-apart (next F) (next-apart F h)) ∙ times-next (next F) (next-apart F h) ∙ times-next F h

  -- the triangles of a face are those of the same face on the other side, reversed
  pub times_across : (F G : Face ℕ) → FaceApart F → Cycle (back_face F) G → times t (cut_face G) ≡ times (back t) (cut_face F)
  times_across F G h c = times_cycle (back_face F) G (back-apart F h) c ∙ times-back F h

-- the corners are the same
pub or_turn₃ : (a b c : Bool) → (a || (b || (c || false))) ≡ (b || (c || (a || false)))
or_turn₃ true true c = refl
or_turn₃ true false true = refl
or_turn₃ true false false = refl
or_turn₃ false true c = refl
or_turn₃ false false true = refl
or_turn₃ false false false = refl

pub or_turn₄ : (a b c d : Bool) → (a || (b || (c || (d || false)))) ≡ (b || (c || (d || (a || false))))
or_turn₄ true true c d = refl
or_turn₄ true false true d = refl
or_turn₄ true false false true = refl
or_turn₄ true false false false = refl
or_turn₄ false true c d = refl
or_turn₄ false false true d = refl
or_turn₄ false false false true = refl
or_turn₄ false false false false = refl

or_swap₃ : (b c : Bool) → (b || (c || false)) ≡ (c || (b || false))
or_swap₃ true true = refl
or_swap₃ true false = refl
or_swap₃ false true = refl
or_swap₃ false false = refl

or_swap₄ : (b c d : Bool) → (b || (c || (d || false))) ≡ (d || (c || (b || false)))
or_swap₄ true true true = refl
or_swap₄ true true false = refl
or_swap₄ true false true = refl
or_swap₄ true false false = refl
or_swap₄ false true true = refl
or_swap₄ false true false = refl
or_swap₄ false false true = refl
or_swap₄ false false false = refl

module _ (v : ℕ) where
  pub holds-next : (F : Face ℕ) → holds v (next F) ≡ holds v F
  holds-next (three p q r) = sym (or_turn₃ (eqb v p) (eqb v q) (eqb v r))
  holds-next (four p q r s) = sym (or_turn₄ (eqb v p) (eqb v q) (eqb v r) (eqb v s))

  holds-back : (F : Face ℕ) → holds v (back_face F) ≡ holds v F
  holds-back (three p q r) = ap (λ x. eqb v p || x) (or_swap₃ (eqb v r) (eqb v q))
  holds-back (four p q r s) = ap (λ x. eqb v p || x) (or_swap₄ (eqb v s) (eqb v r) (eqb v q))

  pub holds_cycle : (F G : Face ℕ) → Cycle F G → holds v G ≡ holds v F
  holds_cycle F G (c0 e) = ap (holds v) e
  holds_cycle F G (c1 e) = ap (holds v) e ∙ holds-next F
  holds_cycle F G (c2 e) = ap (holds v) e ∙ holds-next (next F) ∙ holds-next F
  holds_cycle F G (c3 e) = ap (holds v) e ∙ holds-next (next (next F)) ∙ holds-next (next F) ∙ holds-next F

  pub holds_across : (F G : Face ℕ) → Cycle (back_face F) G → holds v G ≡ holds v F
  holds_across F G c = holds_cycle (back_face F) G c ∙ holds-back F
