-- Computed tests, and what a passed test says: conjunctions, every number below a bound, every choice of numbers below bounds.
-- Assumes nothing.
use mathlib.Core.Path.{◌≡◌, refl, sym, subst}
use mathlib.Core.Bool.{Bool, true, false, not, ◌&&◌, ◌||◌}
use mathlib.Core.List.{List, [], ◌∷◌, map}
use mathlib.Core.Logic.{◌≢◌, ◌⊎◌, inl, inr}
use Prim.Native.Nat.{ℕ, zero, suc, ◌<◌}
use native.Mathlib.Nat.{le_of_suc-le-suc, not-suc-le-zero}
use lib.Dec.{eqb, T}
use borrow.Author.Tests.{eqb-false}
use Rattle.laws.specs.Words.{among, distinct}

pub T_true : (b : Bool) → T b → b ≡ true
T_true true t = refl
T_true false t = absurd t

pub true-T : {b : Bool} → b ≡ true → T b
true-T e = subst T (sym e) tt

pub and_left : (a b : Bool) → T (a && b) → T a
and_left true b t = tt
and_left false b t = t

pub and_right : (a b : Bool) → T (a && b) → T b
and_right true b t = t
and_right false b t = absurd t

pub and_both : (a b : Bool) → T a → T b → T (a && b)
and_both true b p q = q
and_both false b p q = absurd p

pub or_cases : (a b : Bool) → T (a || b) → T a ⊎ T b
or_cases true b t = inl tt
or_cases false b t = inr t

pub or_left : (a b : Bool) → T a → T (a || b)
or_left true b t = tt
or_left false b t = absurd t

pub or_right : (a b : Bool) → T b → T (a || b)
or_right true b t = tt
or_right false b t = t

-- the test passes at each number below n
abbrev pub below : ℕ → (ℕ → Bool) → Bool
below zero t = true
below (suc n) t = t zero && below n (λ k. t (suc k))

pub at_below : (n : ℕ) (t : ℕ → Bool) → T (below n t) → (k : ℕ) → k < n → T (t k)
at_below zero t h k l = absurd (not-suc-le-zero l)
at_below (suc n) t h zero l = and_left (t zero) (below n (λ k. t (suc k))) h
at_below (suc n) t h (suc k) l = at_below n (λ j. t (suc j)) (and_right (t zero) (below n (λ j. t (suc j))) h) k (le_of_suc-le-suc l)

-- the test passes at each choice of a number below its own bound for each member of the list
module _ {A : Type 0} (bound : A → ℕ) where
  abbrev pub choices : List A → (List ℕ → Bool) → Bool
  choices [] t = t []
  choices (x ∷ xs) t = below (bound x) (λ k. choices xs (λ ks. t (k ∷ ks)))

  pub at_choices : (k : A → ℕ) → ((x : A) → k x < bound x) → (xs : List A) (t : List ℕ → Bool) → T (choices xs t) → T (t (map k xs))
  at_choices k h [] t c = c
  at_choices k h (x ∷ xs) t c =
      at_choices k h xs (λ ks. t (k x ∷ ks)) (at_below (bound x) (λ j. choices xs (λ ks. t (j ∷ ks))) c (k x) (h x))

pub not_among_cons : (v w : ℕ) (ws : List ℕ) → T (not (among v (w ∷ ws))) → (v ≢ w) × T (not (among v ws))
not_among_cons v w ws t = go (eqb v w) refl t
  where
    go : (b : Bool) → eqb v w ≡ b → T (not (b || among v ws)) → (v ≢ w) × T (not (among v ws))
    go true p t = absurd t
    go false p t = (eqb-false v w p, t)

pub distinct_cons : (v : ℕ) (vs : List ℕ) → T (distinct (v ∷ vs)) → T (not (among v vs)) × T (distinct vs)
distinct_cons v vs t = (and_left (not (among v vs)) (distinct vs) t, and_right (not (among v vs)) (distinct vs) t)
