-- To put tetrahedra in ascending order forgets the order in which they stood.
-- Assumes nothing.
use mathlib.Core.Path.{◌≡◌, refl, sym, ◌∙◌, ap}
use mathlib.Core.Bool.{Bool, true, false, cond}
use mathlib.Core.List.{List, [], ◌∷◌, map}
use Prim.Native.Nat.{ℕ, ◌<◌}
use native.Mathlib.Omega.{arith}
use lib.Dec.{eqb, ltb}
use borrow.Author.Tests.{ltb-true, ltb-false, eqb-true, eqb-false, lt-ltb, le-ltb, eq-eqb, ne_eqb}
use Rattle.solids.specs.Solids.{Tet, tet, of_tet}
use Rattle.solids.specs.Cut.{up_to, insert, ascending}

-- a test that is both true and false
pub clash : {A : Type 0} {b : Bool} → b ≡ true → b ≡ false → A
clash {A} {b} p q = let z : ◌≡◌ {A = Bool} true false = cc in
    let n : ◌≡◌ {A = ℕ} 0 1 = ap (λ (c : Bool). cond c 0 1) z in absurd (omega arith)

up_to_eq : (x y : ℕ) (xs ys : List ℕ) → x ≡ y → up_to (x ∷ xs) (y ∷ ys) ≡ up_to xs ys
up_to_eq x y xs ys h = simp (le-ltb x y (omega arith), eq-eqb x y h)

up_to_lt : (x y : ℕ) (xs ys : List ℕ) → x < y → up_to (x ∷ xs) (y ∷ ys) ≡ true
up_to_lt x y xs ys h = simp (lt-ltb x y h)

up_to_gt : (x y : ℕ) (xs ys : List ℕ) → y < x → up_to (x ∷ xs) (y ∷ ys) ≡ false
up_to_gt x y xs ys h = simp (le-ltb x y (omega arith), ne_eqb x y (omega arith))

-- the three ways in which two numbers stand to one another
pub data Three (x y : ℕ) : Type 0 where
  less : x < y → Three x y
  same : x ≡ y → Three x y
  more : y < x → Three x y

pub three : (x y : ℕ) → Three x y
three x y = go (ltb x y) refl (eqb x y) refl
  where
    go : (b : Bool) → ltb x y ≡ b → (c : Bool) → eqb x y ≡ c → Three x y
    go true p c q = less (ltb-true x y p)
    go false p true q = same (eqb-true x y q)
    go false p false q = let k = eqb-false x y q in let l = ltb-false x y p in more (omega arith)

up_to-total : (xs ys : List ℕ) → up_to xs ys ≡ false → up_to ys xs ≡ true
up_to-total [] ys p = clash refl p
up_to-total (x ∷ xs) [] p = refl
up_to-total (x ∷ xs) (y ∷ ys) p = go (three x y) (up_to-total xs ys)
  where
    go : Three x y → (up_to xs ys ≡ false → up_to ys xs ≡ true) → up_to (y ∷ ys) (x ∷ xs) ≡ true
    go (less h) ih = clash (up_to_lt x y xs ys h) p
    go (same h) ih = up_to_eq y x ys xs (sym h) ∙ ih (sym (up_to_eq x y xs ys h) ∙ p)
    go (more h) ih = up_to_lt y x ys xs h

up_to_trans : (xs ys zs : List ℕ) → up_to xs ys ≡ true → up_to ys zs ≡ true → up_to xs zs ≡ true
up_to_trans [] ys zs p q = refl
up_to_trans (x ∷ xs) [] zs p q = clash p refl
up_to_trans (x ∷ xs) (y ∷ ys) [] p q = clash q refl
up_to_trans (x ∷ xs) (y ∷ ys) (z ∷ zs) p q = go (three x y) (three y z) (up_to_trans xs ys zs)
  where
    go : Three x y → Three y z → (up_to xs ys ≡ true → up_to ys zs ≡ true → up_to xs zs ≡ true) → up_to (x ∷ xs) (z ∷ zs) ≡ true
    go (less h) (less k) ih = up_to_lt x z xs zs (omega arith)
    go (less h) (same k) ih = up_to_lt x z xs zs (omega arith)
    go (less h) (more k) ih = clash q (up_to_gt y z ys zs k)
    go (same h) (less k) ih = up_to_lt x z xs zs (omega arith)
    go (same h) (same k) ih = up_to_eq x z xs zs (h ∙ k) ∙ ih (sym (up_to_eq x y xs ys h) ∙ p) (sym (up_to_eq y z ys zs k) ∙ q)
    go (same h) (more k) ih = clash q (up_to_gt y z ys zs k)
    go (more h) k ih = clash p (up_to_gt x y xs ys h)

up_to_antisym : (xs ys : List ℕ) → up_to xs ys ≡ true → up_to ys xs ≡ true → xs ≡ ys
up_to_antisym [] [] p q = refl
up_to_antisym [] (y ∷ ys) p q = clash q refl
up_to_antisym (x ∷ xs) [] p q = clash p refl
up_to_antisym (x ∷ xs) (y ∷ ys) p q = go (three x y) (up_to_antisym xs ys)
  where
    go : Three x y → (up_to xs ys ≡ true → up_to ys xs ≡ true → xs ≡ ys) → ◌≡◌ {A = List ℕ} (x ∷ xs) (y ∷ ys)
    go (less h) ih = clash q (up_to_gt y x ys xs h)
    go (same h) ih = let t = ih (sym (up_to_eq x y xs ys h) ∙ p) (sym (up_to_eq y x ys xs (sym h)) ∙ q) in cc
    go (more h) ih = clash p (up_to_gt x y xs ys h)

of_tet_inj : (t u : Tet ℕ) → of_tet t ≡ of_tet u → t ≡ u
of_tet_inj (tet a b c d) (tet e f g h) p = cc

abbrev le : Tet ℕ → Tet ℕ → Bool
le t u = up_to (of_tet t) (of_tet u)

-- x before y, or y before x: one list
swap_head : (x y : Tet ℕ) (r : List (Tet ℕ)) → cond (le x y) (x ∷ y ∷ r) (y ∷ x ∷ r) ≡ cond (le y x) (y ∷ x ∷ r) (x ∷ y ∷ r)
swap_head x y r = go (le x y) refl (le y x) refl
  where
    go : (b : Bool) → le x y ≡ b → (c : Bool) → le y x ≡ c → cond b (x ∷ y ∷ r) (y ∷ x ∷ r) ≡ cond c (y ∷ x ∷ r) (x ∷ y ∷ r)
    go true p true q = let e = of_tet_inj x y (up_to_antisym (of_tet x) (of_tet y) p q) in cc
    go true p false q = refl
    go false p true q = refl
    go false p false q = clash (up_to-total (of_tet x) (of_tet y) p) q

insert_comm : (x y : Tet ℕ) (l : List (Tet ℕ)) → insert x (insert y l) ≡ insert y (insert x l)
insert_comm x y [] = swap_head x y []
insert_comm x y (u ∷ l) = go (le x u) refl (le y u) refl (insert_comm x y l)
  where
    go : (b : Bool) → le x u ≡ b → (c : Bool) → le y u ≡ c → insert x (insert y l) ≡ insert y (insert x l)
        → insert x (cond c (y ∷ (u ∷ l)) (u ∷ insert y l)) ≡ insert y (cond b (x ∷ (u ∷ l)) (u ∷ insert x l))
    go true p true q ih = simp (p, q) (swap_head x y (u ∷ l))
    go true p false q ih = simp (p, q, yx) refl
      where
        yx : le y x ≡ false
        yx = no_yx (le y x) refl
          where
            no_yx : (b : Bool) → le y x ≡ b → le y x ≡ false
            no_yx true h = clash (up_to_trans (of_tet y) (of_tet x) (of_tet u) h p) q
            no_yx false h = h
    go false p true q ih = simp (p, q, xy) refl
      where
        xy : le x y ≡ false
        xy = no_xy (le x y) refl
          where
            no_xy : (b : Bool) → le x y ≡ b → le x y ≡ false
            no_xy true h = clash (up_to_trans (of_tet x) (of_tet y) (of_tet u) h q) p
            no_xy false h = h
    go false p false q ih = simp (p, q, ih) refl

module _ (g : Tet ℕ → Tet ℕ) where
  insert-through : (x : Tet ℕ) (l : List (Tet ℕ)) → ascending (map g (insert x l)) ≡ insert (g x) (ascending (map g l))
  insert-through x [] = refl
  insert-through x (u ∷ l) = go (le x u) (insert-through x l)
    where
      go : (b : Bool) → ascending (map g (insert x l)) ≡ insert (g x) (ascending (map g l))
          → ascending (map g (cond b (x ∷ (u ∷ l)) (u ∷ insert x l))) ≡ insert (g x) (insert (g u) (ascending (map g l)))
      go true ih = refl
      go false ih = ap (insert (g u)) ih ∙ insert_comm (g u) (g x) (ascending (map g l))

  -- a list that was put in order, changed one by one and put in order again, is the list itself, changed and put in order
  pub ascending-through : (l : List (Tet ℕ)) → ascending (map g (ascending l)) ≡ ascending (map g l)
  ascending-through [] = refl
  ascending-through (x ∷ l) = insert-through x (ascending l) ∙ ap (insert (g x)) (ascending-through l)
