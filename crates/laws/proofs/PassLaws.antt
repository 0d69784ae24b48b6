-- Loops that pass over numbers or over a list: the least number that passes a test, whether each member passes, and the members that pass, collected
-- in lent memory. And a search through gathered lists. Assumes nothing.
use mathlib.Core.Path.{◌≡◌, refl, sym, ap, ◌∙◌}
use mathlib.Core.Bool.{Bool, true, false, ◌||◌, or_assoc}
use mathlib.Core.List.{List, [], ◌∷◌, ◌++◌, append_assoc, append-nil}
use Prim.Native.Nat.{ℕ, ◌+◌, ◌≤◌, ◌<◌, zero-le}
use native.Mathlib.Numerals.{add-one}
use native.Mathlib.Omega.{arith}
use lib.ListN.{length, get_or, take, drop, set, drop_of_length-le}
use lib.Seq.{drop-cons, take-suc-set}
use Rattle.laws.specs.Searches.{least}
use Rattle.laws.specs.Words.{every, some, keep, gather}
use Rattle.laws.proofs.SearchLaws.{least_start, least_more, least_found}
use Rattle.laws.proofs.WordLaws.{Left, left_here, left-next, left_end}

-- the least number below n that passes a test: none below i does
pub record Failed (p : ℕ → Bool) (n i : ℕ) : Type 0 where
  pub high : i ≤ n
  pub none : least p i ≡ 0

module _ (p : ℕ → Bool) where
  pub failed_start : (n : ℕ) → Failed p n 0
  failed_start n = record { high = zero-le; none = least_start p }

  module _ {n i : ℕ} (w : Failed p n i) where
    pub failed_here : i < n → p i ≡ true → i + 1 ≡ least p n
    failed_here h e = rw (add-one i) (sym (least_found p w.none e h))

    pub failed_next : i < n → p i ≡ false → Failed p n (i + 1)
    failed_next h e = record { high = omega arith; none = least_more p w.none e }

    pub failed_end : n ≤ i → 0 ≡ least p n
    failed_end h = let e : i ≡ n = omega (arith, w.high) in sym w.none ∙ ap (least p) e

-- whether each member passes a test
module _ {A : Type 0} (t : A → Bool) (d : A) {l : List A} {i : ℕ} (w : Left (every t) l i) where
  pub every_here : i < length l → t (get_or l i d) ≡ false → false ≡ every t l
  every_here h e = sym (left_here w d h ∙ rw e)

  pub every-next : i < length l → t (get_or l i d) ≡ true → Left (every t) l (i + 1)
  every-next h e = left-next w d h (rw e)

  pub every-end : length l ≤ i → true ≡ every t l
  every-end h = sym (left_end w h)

-- of the first i members, the n that pass stand at the front of the memory
pub record Kept {A : Type 0} (t : A → Bool) (l memory : List A) (n i : ℕ) : Type 0 where
  pub high : i ≤ length l
  pub few : n ≤ i
  pub these : take n memory ++ keep t (drop i l) ≡ keep t l

module _ {A : Type 0} (t : A → Bool) (l : List A) where
  pub kept-start : (memory : List A) → Kept t l memory 0 0
  kept-start memory = record { high = zero-le; few = zero-le; these = refl }

  module _ {memory : List A} {n i : ℕ} (w : Kept t l memory n i) where
    -- what is kept of the members that are left, where the next one passes or fails
    rest_yes : (d : A) → i < length l → t (get_or l i d) ≡ true → keep t (drop i l) ≡ get_or l i d ∷ keep t (drop (i + 1) l)
    rest_yes d h e = rw (add-one i, drop-cons l i d h, e)

    rest-no : (d : A) → i < length l → t (get_or l i d) ≡ false → keep t (drop i l) ≡ keep t (drop (i + 1) l)
    rest-no d h e = rw (add-one i, drop-cons l i d h, e)

    stored : (x : A) → n < length memory → take (n + 1) (set memory n x) ≡ take n memory ++ (x ∷ [])
    stored x k = rw (add-one n) (take-suc-set memory n x k)

    -- the member passes, and is stored behind those that are kept
    pub kept_yes : (d : A) → i < length l → n < length memory → t (get_or l i d) ≡ true → Kept t l (set memory n (get_or l i d)) (n + 1) (i + 1)
    kept_yes d h k e =
        record {
          high = omega arith;
          few = omega (arith, w.few);
          these =
              ap (λ (x : List A). x ++ keep t (drop (i + 1) l)) (stored (get_or l i d) k)
              ∙ append_assoc (take n memory) (get_or l i d ∷ []) (keep t (drop (i + 1) l))
              ∙ ap (λ (x : List A). take n memory ++ x) (sym (rest_yes d h e))
              ∙ w.these;
        }

    -- the member fails, and nothing is stored
    pub kept-no : (d : A) → i < length l → t (get_or l i d) ≡ false → Kept t l memory n (i + 1)
    kept-no d h e =
        record {
          high = omega arith;
          few = omega (arith, w.few);
          these = ap (λ (x : List A). take n memory ++ x) (sym (rest-no d h e)) ∙ w.these;
        }

    pub kept-end : length l ≤ i → take n memory ≡ keep t l
    kept-end h =
        sym (append-nil (take n memory))
        ∙ ap (λ (x : List A). take n memory ++ keep t x) (sym (drop_of_length-le l h))
        ∙ w.these

-- whether a member of the gathered lists passes is whether a member of one of the lists does
module _ {A B : Type 0} (t : B → Bool) (f : A → List B) where
  some_append : (l m : List B) → some t (l ++ m) ≡ (some t l || some t m)
  some_append [] m = refl
  some_append (x ∷ l) m = ap (λ (b : Bool). t x || b) (some_append l m) ∙ sym (or_assoc (t x) (some t l) (some t m))

  pub some-gather : (l : List A) → some t (gather f l) ≡ some (λ x. some t (f x)) l
  some-gather [] = refl
  some-gather (x ∷ l) = some_append (f x) (gather f l) ∙ ap (λ (b : Bool). some t (f x) || b) (some-gather l)
