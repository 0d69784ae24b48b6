-- How many tetrahedra own a side: what does not change it.
-- Assumes nothing.
use mathlib.Core.Path.{◌≡◌, refl, sym, ◌∙◌, ap, ap₂}
use mathlib.Core.Bool.{Bool, true, false, cond, ◌&&◌, ◌||◌}
use mathlib.Core.List.{List, [], ◌∷◌, ◌++◌, map, map-append}
use mathlib.Core.Logic.{◌⊎◌, inl, inr}
use Prim.Native.Nat.{ℕ, ◌+◌}
use native.Mathlib.Omega.{arith}
use lib.Dec.{eqb, T, eqb→eq, eqb_refl}
use Rattle.laws.specs.Words.{gather, every, lowest}
use Rattle.solids.specs.Solids.{Tri, tri, Tet, tet, on_tri, on_tet, of_tet}
use Rattle.solids.specs.Cut.{first_lowest, second_lowest, written, up_to, insert, in_order}
use Rattle.solids.specs.Surface.{sides, back, eq_tri, same_tri, times, owners}
use Rattle.laws.proofs.TestLaws.{or_cases, or_left, or_right, and_left, and_right, T_true, true-T}
use Rattle.laws.proofs.EveryLaws.{count_append, count_cong}
use Rattle.solids.proofs.WrittenFormLaws.{either}
use Rattle.solids.proofs.RenamingLaws.{eqb_on}

abbrev pub turn : Tri ℕ → Tri ℕ
turn (tri a b c) = tri b c a

turn³ : (t : Tri ℕ) → turn (turn (turn t)) ≡ t
turn³ (tri a b c) = refl

-- one triangle, read from another corner
pub data Same (t u : Tri ℕ) : Type 0 where
  s0 : u ≡ t → Same t u
  s1 : u ≡ turn t → Same t u
  s2 : u ≡ turn (turn t) → Same t u

pub same-sym : {t u : Tri ℕ} → Same t u → Same u t
same-sym (s0 p) = s0 (sym p)
same-sym {t} {u} (s1 p) = s2 (sym (turn³ t) ∙ sym (ap (λ x. turn (turn x)) p))
same-sym {t} {u} (s2 p) = s1 (sym (turn³ t) ∙ sym (ap turn p))

pub same_trans : {t u v : Tri ℕ} → Same t u → Same u v → Same t v
same_trans (s0 p) (s0 q) = s0 (q ∙ p)
same_trans (s0 p) (s1 q) = s1 (q ∙ ap turn p)
same_trans (s0 p) (s2 q) = s2 (q ∙ ap (λ x. turn (turn x)) p)
same_trans (s1 p) (s0 q) = s1 (q ∙ p)
same_trans (s1 p) (s1 q) = s2 (q ∙ ap turn p)
same_trans {t} (s1 p) (s2 q) = s0 (q ∙ ap (λ x. turn (turn x)) p ∙ turn³ t)
same_trans (s2 p) (s0 q) = s2 (q ∙ p)
same_trans {t} (s2 p) (s1 q) = s0 (q ∙ ap turn p ∙ turn³ t)
same_trans {t} (s2 p) (s2 q) = s1 (q ∙ ap (λ x. turn (turn x)) p ∙ ap turn (turn³ t))

pub same_back : {t u : Tri ℕ} → Same t u → Same (back t) (back u)
same_back {t} {u} (s0 p) = s0 (ap back p)
same_back {t = tri a b c} {u} (s1 p) = s2 (ap back p)
same_back {t = tri a b c} {u} (s2 p) = s1 (ap back p)

eq_tri→eq : (t u : Tri ℕ) → T (eq_tri t u) → u ≡ t
eq_tri→eq (tri a b c) (tri p q r) h =
    let x = eqb→eq a p (and_left (eqb a p) (eqb b q && eqb c r) h) in
    let k = and_right (eqb a p) (eqb b q && eqb c r) h in
    let y = eqb→eq b q (and_left (eqb b q) (eqb c r) k) in
    let z = eqb→eq c r (and_right (eqb b q) (eqb c r) k) in
    cc

eq_tri-refl : (t : Tri ℕ) → T (eq_tri t t)
eq_tri-refl (tri a b c) = rw (T_true (eqb a a) (eqb_refl a), T_true (eqb b b) (eqb_refl b), T_true (eqb c c) (eqb_refl c)) tt

pub test_same : (t u : Tri ℕ) → T (same_tri t u) → Same t u
test_same (tri a b c) u h = go (or_cases (eq_tri (tri a b c) u) (eq_tri (tri b c a) u || eq_tri (tri c a b) u) h)
  where
    go₂ : T (eq_tri (tri b c a) u) ⊎ T (eq_tri (tri c a b) u) → Same (tri a b c) u
    go₂ (inl k) = s1 (eq_tri→eq (tri b c a) u k)
    go₂ (inr k) = s2 (eq_tri→eq (tri c a b) u k)

    go : T (eq_tri (tri a b c) u) ⊎ T (eq_tri (tri b c a) u || eq_tri (tri c a b) u) → Same (tri a b c) u
    go (inl k) = s0 (eq_tri→eq (tri a b c) u k)
    go (inr k) = go₂ (or_cases (eq_tri (tri b c a) u) (eq_tri (tri c a b) u) k)

pub same_test : (t u : Tri ℕ) → Same t u → T (same_tri t u)
same_test (tri a b c) u (s0 p) = rw p (or_left (eq_tri (tri a b c) (tri a b c)) (eq_tri (tri b c a) (tri a b c) || eq_tri (tri c a b) (tri a b c)) (eq_tri-refl (tri a b c)))
same_test (tri a b c) u (s1 p) =
    rw p (or_right (eq_tri (tri a b c) (tri b c a)) (eq_tri (tri b c a) (tri b c a) || eq_tri (tri c a b) (tri b c a))
    (or_left (eq_tri (tri b c a) (tri b c a)) (eq_tri (tri c a b) (tri b c a)) (eq_tri-refl (tri b c a))))
same_test (tri a b c) u (s2 p) =
    rw p (or_right (eq_tri (tri a b c) (tri c a b)) (eq_tri (tri b c a) (tri c a b) || eq_tri (tri c a b) (tri c a b))
    (or_right (eq_tri (tri b c a) (tri c a b)) (eq_tri (tri c a b) (tri c a b)) (eq_tri-refl (tri c a b))))

pub bool_iff : (a b : Bool) → (T a → T b) → (T b → T a) → a ≡ b
bool_iff true true p q = refl
bool_iff true false p q = absurd (p tt)
bool_iff false true p q = absurd (q tt)
bool_iff false false p q = refl

-- the test does not tell one triangle from itself read from another corner
pub same_left : {t u : Tri ℕ} → Same t u → (x : Tri ℕ) → same_tri t x ≡ same_tri u x
same_left {t} {u} s x =
    bool_iff (same_tri t x) (same_tri u x)
    (λ h. same_test u x (same_trans (same-sym s) (test_same t x h)))
    (λ h. same_test t x (same_trans s (test_same u x h)))

pub same_right : (t : Tri ℕ) {u v : Tri ℕ} → Same u v → same_tri t u ≡ same_tri t v
same_right t {u} {v} s =
    bool_iff (same_tri t u) (same_tri t v)
    (λ h. same_test t v (same_trans (test_same t u h) s))
    (λ h. same_test t u (same_trans (test_same t v h) (same-sym s)))

pub times-same : {t u : Tri ℕ} → Same t u → (l : List (Tri ℕ)) → times t l ≡ times u l
times-same {t} {u} s l = count_cong (same_tri t) (same_tri u) (same_left s) l

-- the even reorderings keep the sides
module _ (t : Tri ℕ) where
  pairs_sides : (a b c d : ℕ) → times t (sides (tet b a d c)) ≡ times t (sides (tet a b c d))
  pairs_sides a b c d =
      let x = ap {B = ℕ} (λ k. cond k 1 0) (same_right t {u = tri a c b} {v = tri b a c} (s2 refl)) in
      let y = ap {B = ℕ} (λ k. cond k 1 0) (same_right t {u = tri a b d} {v = tri b d a} (s1 refl)) in
      omega arith

  halves-sides : (a b c d : ℕ) → times t (sides (tet c d a b)) ≡ times t (sides (tet a b c d))
  halves-sides a b c d =
      let x = ap {B = ℕ} (λ k. cond k 1 0) (same_right t {u = tri b c d} {v = tri c d b} (s1 refl)) in
      let y = ap {B = ℕ} (λ k. cond k 1 0) (same_right t {u = tri a d c} {v = tri c a d} (s2 refl)) in
      let z = ap {B = ℕ} (λ k. cond k 1 0) (same_right t {u = tri a b d} {v = tri d a b} (s2 refl)) in
      let w = ap {B = ℕ} (λ k. cond k 1 0) (same_right t {u = tri a c b} {v = tri c b a} (s1 refl)) in
      omega arith

  turn_sides : (a b c d : ℕ) → times t (sides (tet a c d b)) ≡ times t (sides (tet a b c d))
  turn_sides a b c d =
      let x = ap {B = ℕ} (λ k. cond k 1 0) (same_right t {u = tri b c d} {v = tri c d b} (s1 refl)) in
      omega arith

  first-sides : (u : Tet ℕ) → times t (sides (first_lowest u)) ≡ times t (sides u)
  first-sides (tet a b c d) =
      either P (eqb a m) refl
      (either P (eqb b m) (pairs_sides a b c d)
      (either P (eqb c m) (halves-sides a b c d)
      (halves-sides b a d c ∙ pairs_sides a b c d)))
    where
      m : ℕ
      m = lowest (a ∷ b ∷ c ∷ d ∷ [])

      P : Tet ℕ → Type 0
      P u = times t (sides u) ≡ times t (sides (tet a b c d))

  second-sides : (u : Tet ℕ) → times t (sides (second_lowest u)) ≡ times t (sides u)
  second-sides (tet a b c d) =
      either P (eqb b m) refl
      (either P (eqb c m) (turn_sides a b c d)
      (turn_sides a c d b ∙ turn_sides a b c d))
    where
      m : ℕ
      m = lowest (b ∷ c ∷ d ∷ [])

      P : Tet ℕ → Type 0
      P u = times t (sides u) ≡ times t (sides (tet a b c d))

  owners-cons : (x : Tet ℕ) (l : List (Tet ℕ)) → owners t (x ∷ l) ≡ times t (sides x) + owners t l
  owners-cons x l = count_append (same_tri t) (sides x) (gather sides l)

  owners-insert : (x : Tet ℕ) (l : List (Tet ℕ)) → owners t (insert x l) ≡ times t (sides x) + owners t l
  owners-insert x [] = owners-cons x []
  owners-insert x (u ∷ l) = go (up_to (of_tet x) (of_tet u)) (owners-insert x l)
    where
      go : (b : Bool) → owners t (insert x l) ≡ times t (sides x) + owners t l
          → owners t (cond b (x ∷ (u ∷ l)) (u ∷ insert x l)) ≡ times t (sides x) + owners t (u ∷ l)
      go true ih = owners-cons x (u ∷ l)
      go false ih = owners-cons u (insert x l) ∙ rw (ih, owners-cons u l) (omega arith)

  -- to write tetrahedra in their order changes no owner
  pub owners-in_order : (l : List (Tet ℕ)) → owners t (in_order l) ≡ owners t l
  owners-in_order [] = refl
  owners-in_order (x ∷ l) =
      owners-insert (written x) (in_order l)
      ∙ ap₂ {C = ℕ} (λ m n. m + n) (second-sides (first_lowest x) ∙ first-sides x) (owners-in_order l)
      ∙ sym (owners-cons x l)

-- an injective renaming changes no count
module _ (f : ℕ → ℕ) (inj : (p q : ℕ) → f p ≡ f q → p ≡ q) where
  pub same_on : (t u : Tri ℕ) → same_tri (on_tri f t) (on_tri f u) ≡ same_tri t u
  same_on (tri a b c) (tri p q r) = simp (eqb_on f inj)

  pub times_on : (t : Tri ℕ) (l : List (Tri ℕ)) → times (on_tri f t) (map (on_tri f) l) ≡ times t l
  times_on t [] = refl
  times_on t (u ∷ l) = ap₂ {C = ℕ} (λ b n. cond b 1 0 + n) (same_on t u) (times_on t l)

  sides_one : (x : Tet ℕ) → sides (on_tet f x) ≡ map (on_tri f) (sides x)
  sides_one (tet a b c d) = refl

  pub sides_on : (l : List (Tet ℕ)) → gather sides (map (on_tet f) l) ≡ map (on_tri f) (gather sides l)
  sides_on [] = refl
  sides_on (x ∷ l) = ap₂ {C = List (Tri ℕ)} (λ y z. y ++ z) (sides_one x) (sides_on l) ∙ sym (map-append (on_tri f) (sides x) (gather sides l))

  pub back_on : (t : Tri ℕ) → back (on_tri f t) ≡ on_tri f (back t)
  back_on (tri a b c) = refl

  -- a triangle of a renamed list is the renaming of one of the list, or it does not occur
  pub found : (P : Tri ℕ → Bool) (l : List (Tri ℕ)) → T (every P l) → (t : Tri ℕ)
      → (times t (map (on_tri f) l) ≡ 0) ⊎ ((u : Tri ℕ) × Same t (on_tri f u) × T (P u))
  found P [] h t = inl refl
  found P (u ∷ l) h t = go (same_tri t (on_tri f u)) refl (found P l (and_right (P u) (every P l) h) t)
    where
      go : (b : Bool) → same_tri t (on_tri f u) ≡ b
          → (times t (map (on_tri f) l) ≡ 0) ⊎ ((v : Tri ℕ) × Same t (on_tri f v) × T (P v))
          → (cond b 1 0 + times t (map (on_tri f) l) ≡ 0) ⊎ ((v : Tri ℕ) × Same t (on_tri f v) × T (P v))
      go true e ih = inr (u, test_same t (on_tri f u) (true-T e), and_left (P u) (every P l) h)
      go false e (inl z) = inl (omega arith)
      go false e (inr v) = inr v
