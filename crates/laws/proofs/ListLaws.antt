-- Laws of lists that are gathered from lists, and of the part of a list that is changed member by member.
-- Assumes nothing.
use mathlib.Core.Path.{◌≡◌, refl, sym, ap, ◌∙◌}
use mathlib.Core.List.{List, [], ◌∷◌, ◌++◌, map, append_assoc}
use Prim.Native.Nat.{ℕ, zero, suc}
use lib.ListN.{drop}
use Rattle.laws.specs.Words.{gather}

module _ {A B : Type 0} where
  pub gather_append : (f : A → List B) (xs ys : List A) → gather f (xs ++ ys) ≡ gather f xs ++ gather f ys
  gather_append f [] ys = refl
  gather_append f (x ∷ xs) ys = ap (λ l. f x ++ l) (gather_append f xs ys) ∙ sym (append_assoc (f x) (gather f xs) (gather f ys))

  pub map-drop : (f : A → B) (i : ℕ) (l : List A) → drop i (map f l) ≡ map f (drop i l)
  map-drop f zero l = refl
  map-drop f (suc i) [] = refl
  map-drop f (suc i) (x ∷ l) = map-drop f i l
