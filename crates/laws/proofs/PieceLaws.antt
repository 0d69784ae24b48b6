-- Laws of a text cut at a byte: where the byte stands first, and that what was joined is cut again.
-- Assumes nothing.
use Prim.Native.Nat.{ℕ, suc, zero-le}
use native.Mathlib.Nat.{not-suc-le-zero, le_of_suc-le-suc, suc-add}
use native.Mathlib.Omega.{arith}
use mathlib.Core.Path.{◌≡◌, refl}
use mathlib.Core.List.{List, [], ◌∷◌, ◌++◌}
use borrow.Author.Tests.{eq-eqb, ne_eqb}
use Rattle.laws.specs.Pieces.{rest, piece, push, split, FirstAt}

pub first_nowhere : (b : ℕ) → FirstAt b [] 0
unfolding split
first_nowhere b = record { high = zero-le; hit = λ h. absurd (not-suc-le-zero h); miss = λ h. refl }

pub first-here : (b x : ℕ) (xs : List ℕ) → x ≡ b → FirstAt b (x ∷ xs) 0
unfolding split
first-here b x xs e = record {
  high = zero-le;
  hit = λ h. rw (eq-eqb x b e);
  miss = λ h. absurd (not-suc-le-zero h);
}

pub first_later : (b x : ℕ) (xs : List ℕ) (r : ℕ) → (x ≡ b → ⊥) → FirstAt b xs r → FirstAt b (x ∷ xs) (suc r)
unfolding split push
first_later b x xs r e k = record {
  high = omega (arith, k.high);
  hit = λ h. rw (ne_eqb x b e, k.hit (le_of_suc-le-suc h), suc-add r 1);
  miss = λ h. rw (ne_eqb x b e, k.miss (le_of_suc-le-suc h));
}

-- b does not stand in l
abbrev pub Free : ℕ → List ℕ → Type 0
Free b [] = Unit {0}
Free b (x ∷ l) = (x ≡ b → ⊥) × Free b l

pub split-joined : (b : ℕ) (x y : List ℕ) → Free b x → split b (x ++ (b ∷ y)) ≡ piece x (split b y)
unfolding split push
split-joined b [] y f = rw (eq-eqb b b refl)
split-joined b (a ∷ x) y f = rw (ne_eqb a b f.0, split-joined b x y f.1)

pub split_free : (b : ℕ) (x : List ℕ) → Free b x → split b x ≡ rest x
unfolding split push
split_free b [] f = refl
split_free b (a ∷ x) f = rw (ne_eqb a b f.0, split_free b x f.1)
