-- Lists of numbers, by what is among them: a list inside another, the same numbers in whatever order, and that lists of different numbers with the
-- same members are equally long, and as much is gathered of them.
-- Assumes nothing.
use mathlib.Core.Path.{◌≡◌, refl, sym, ◌∙◌, ap, subst}
use mathlib.Core.Bool.{Bool, true, false, cond, not}
use mathlib.Core.List.{List, [], ◌∷◌, ◌++◌}
use mathlib.Core.Logic.{◌⊎◌, inl, inr}
use Prim.Native.Nat.{ℕ, ◌+◌, ◌≤◌}
use native.Mathlib.Omega.{arith}
use lib.Dec.{eqb, T, eqb→eq, eqb_refl}
use lib.ListN.{length, length-append}
use borrow.Author.Tests.{eqb-true, eqb-false, eq-eqb}
use Rattle.laws.specs.Words.{every, among, distinct, keep, gather}
use Rattle.laws.proofs.TestLaws.{and_left, and_right, and_both, or_cases, or_left, or_right, true-T, distinct_cons}
use Rattle.laws.proofs.EveryLaws.{among-every}
use Rattle.solids.specs.Fit.{same_set}
use Rattle.solids.proofs.MeetLaws.{among-keep}

-- every number of l is among m
abbrev pub Sub : List ℕ → List ℕ → Type 0
Sub l m = (v : ℕ) → T (among v l) → T (among v m)

pub among_first : (v : ℕ) (l : List ℕ) → T (among v (v ∷ l))
among_first v l = or_left (eqb v v) (among v l) (eqb_refl v)

pub among_later : (v w : ℕ) (l : List ℕ) → T (among v l) → T (among v (w ∷ l))
among_later v w l h = or_right (eqb v w) (among v l) h

pub among_cases : (v w : ℕ) (l : List ℕ) → T (among v (w ∷ l)) → (v ≡ w) ⊎ T (among v l)
among_cases v w l h = go (or_cases (eqb v w) (among v l) h)
  where
    go : T (eqb v w) ⊎ T (among v l) → (v ≡ w) ⊎ T (among v l)
    go (inl k) = inl (eqb→eq v w k)
    go (inr k) = inr k

pub sub_every : (l m : List ℕ) → Sub l m → T (every (λ v. among v m) l)
sub_every [] m s = tt
sub_every (x ∷ l) m s =
    and_both (among x m) (every (λ v. among v m) l) (s x (among_first x l)) (sub_every l m (λ v h. s v (among_later v x l h)))

pub every_sub : (l m : List ℕ) → T (every (λ v. among v m) l) → Sub l m
every_sub l m h = among-every (λ v. among v m) l h

-- the same numbers, in whatever order
pub same_set_lem : (l m : List ℕ) → Sub l m → Sub m l → T (same_set l m)
same_set_lem l m s r = and_both (every (λ v. among v m) l) (every (λ v. among v l) m) (sub_every l m s) (sub_every m l r)

pub set_there : (l m : List ℕ) → T (same_set l m) → Sub l m
set_there l m h = every_sub l m (and_left (every (λ v. among v m) l) (every (λ v. among v l) m) h)

pub set_back : (l m : List ℕ) → T (same_set l m) → Sub m l
set_back l m h = every_sub m l (and_right (every (λ v. among v m) l) (every (λ v. among v l) m) h)

-- ---- the members that pass a test

keep_cases : (P : ℕ → Bool) (l : List ℕ) (v : ℕ) → T (among v (keep P l)) → T (among v l) × T (P v)
keep_cases P [] v h = absurd h
keep_cases P (w ∷ l) v h = go (P w) refl h (keep_cases P l v)
  where
    go : (b : Bool) → P w ≡ b → T (among v (cond b (w ∷ keep P l) (keep P l))) → (T (among v (keep P l)) → T (among v l) × T (P v)) → T (among v (w ∷ l)) × T (P v)
    go true e h ih = by (among_cases v w (keep P l) h)
      where
        by : (v ≡ w) ⊎ T (among v (keep P l)) → T (among v (w ∷ l)) × T (P v)
        by (inl k) = (or_left (eqb v w) (among v l) (true-T (eq-eqb v w k)), true-T (ap P k ∙ e))
        by (inr k) = let r = ih k in (among_later v w l r.0, r.1)
    go false e h ih = let r = ih h in (among_later v w l r.0, r.1)

pub kept_in : (P : ℕ → Bool) (l : List ℕ) (v : ℕ) → T (among v (keep P l)) → T (among v l)
kept_in P l v h = (keep_cases P l v h).0

pub kept-passes : (P : ℕ → Bool) (l : List ℕ) (v : ℕ) → T (among v (keep P l)) → T (P v)
kept-passes P l v h = (keep_cases P l v h).1

not_T : (b : Bool) → (T b → ⊥) → T (not b)
not_T true h = absurd (h tt)
not_T false h = tt

T_not : (b : Bool) → T (not b) → T b → ⊥
T_not true h k = h
T_not false h k = k

pub not_in : (v : ℕ) (l : List ℕ) → T (distinct (v ∷ l)) → T (among v l) → ⊥
not_in v l d h = T_not (among v l) (distinct_cons v l d).0 h

pub distinct_both : (v : ℕ) (l : List ℕ) → (T (among v l) → ⊥) → T (distinct l) → T (distinct (v ∷ l))
distinct_both v l h d = and_both (not (among v l)) (distinct l) (not_T (among v l) h) d

pub distinct-keep : (P : ℕ → Bool) (l : List ℕ) → T (distinct l) → T (distinct (keep P l))
distinct-keep P [] d = tt
distinct-keep P (w ∷ l) d = go (P w) (distinct-keep P l (distinct_cons w l d).1)
  where
    go : (b : Bool) → T (distinct (keep P l)) → T (distinct (cond b (w ∷ keep P l) (keep P l)))
    go true k = distinct_both w (keep P l) (λ h. not_in w l d (kept_in P l w h)) k
    go false k = k

-- ---- how long lists of different numbers are

abbrev other : ℕ → ℕ → Bool
other x w = not (eqb w x)

-- what is gathered of numbers
module _ {A : Type 0} (g : ℕ → List A) where
  keep_le : (P : ℕ → Bool) (l : List ℕ) → length (gather g (keep P l)) ≤ length (gather g l)
  keep_le P [] = omega arith
  keep_le P (w ∷ l) = go (P w) (keep_le P l)
    where
      go : (b : Bool) → length (gather g (keep P l)) ≤ length (gather g l)
          → length (gather g (cond b (w ∷ keep P l) (keep P l))) ≤ length (g w ++ gather g l)
      go true h = simp length-append (omega arith)
      go false h = simp length-append (omega arith)

  without_le : (x : ℕ) (l : List ℕ) → T (among x l) → length (g x) + length (gather g (keep (other x) l)) ≤ length (gather g l)
  without_le x [] h = absurd h
  without_le x (w ∷ l) h = go (eqb w x) refl (among_cases x w l h) (without_le x l)
    where
      go : (b : Bool) → eqb w x ≡ b → (x ≡ w) ⊎ T (among x l)
          → (T (among x l) → length (g x) + length (gather g (keep (other x) l)) ≤ length (gather g l))
          → length (g x) + length (gather g (cond (not b) (w ∷ keep (other x) l) (keep (other x) l))) ≤ length (g w ++ gather g l)
      go true e c ih =
          let k = keep_le (other x) l in
          let p : length (g w) ≡ length (g x) = ap (λ (y : ℕ). length (g y)) (eqb-true w x e) in
          simp length-append (omega arith)
      go false e (inl c) ih = absurd (eqb-false w x e (sym c))
      go false e (inr c) ih = let k = ih c in simp length-append (omega arith)

  -- of different numbers, all of them among m, no more is gathered than of m
  pub gathered_le : (l m : List ℕ) → T (distinct l) → Sub l m → length (gather g l) ≤ length (gather g m)
  gathered_le [] m d s = omega arith
  gathered_le (x ∷ l) m d s =
      let k = gathered_le l (keep (other x) m) (distinct_cons x l d).1
      (λ v h. among-keep (other x) m v (s v (among_later v x l h)) (away v h)) in
      let n = without_le x m (s x (among_first x l)) in
      simp length-append (omega arith)
    where
      away : (v : ℕ) → T (among v l) → T (other x v)
      away v h = not_T (eqb v x) (λ e. not_in x l d (subst (λ (w : ℕ). T (among w l)) (eqb→eq v x e) h))

  -- and as much where each number of the one is among the other
  pub gathered_same : (l m : List ℕ) → T (distinct l) → T (distinct m) → Sub l m → Sub m l → length (gather g l) ≡ length (gather g m)
  gathered_same l m d e s r = let x = gathered_le l m d s in let y = gathered_le m l e r in omega arith

gather_self : (l : List ℕ) → gather (λ v. v ∷ []) l ≡ l
gather_self [] = refl
gather_self (v ∷ l) = ap (λ (m : List ℕ). v ∷ m) (gather_self l)

-- different numbers, all of them among m, are no more than m has
pub distinct_le : (l m : List ℕ) → T (distinct l) → Sub l m → length l ≤ length m
distinct_le l m d s = rw (gather_self l, gather_self m) at (gathered_le (λ v. v ∷ []) l m d s)

pub same_length : (l m : List ℕ) → T (distinct l) → T (distinct m) → Sub l m → Sub m l → length l ≡ length m
same_length l m d e s r = let x = distinct_le l m d s in let y = distinct_le m l e r in omega arith
