-- A loop that passes over a list computes a word of it: what the word says of the part that is left is what it says of the whole.
-- And what the code's `&l[i..]` is.
-- Assumes nothing.
use mathlib.Core.Path.{◌≡◌, refl, sym, ap, ◌∙◌}
use mathlib.Core.Bool.{Bool, true, false}
use mathlib.Core.List.{List, [], ◌∷◌}
use Prim.Native.Nat.{ℕ, ◌+◌, ◌-◌, ◌≤◌, ◌<◌, zero-le}
use native.Mathlib.Numerals.{add-one}
use native.Mathlib.Omega.{arith}
use lib.ListN.{length, get_or, take, drop, length-drop, drop_of_length-le}
use lib.Seq.{drop-cons, take_all}
use Rattle.laws.specs.Words.{some, among, distinct}

-- the code's part of a list from an index on
pub part_from : {A : Type 0} (l : List A) (i : ℕ) → take (length l - i) (drop i l) ≡ drop i l
part_from l i = take_all (length l - i) (drop i l) (let e = length-drop i l in omega arith)

-- ---- loops

module _ {A B : Type 0} where
  -- the first i members are passed, and f of the members that are left is f of all
  pub record Left (f : List A → B) (l : List A) (i : ℕ) : Type 0 where
    pub high : i ≤ length l
    pub same : f (drop i l) ≡ f l

  pub left-start : (f : List A → B) (l : List A) → Left f l 0
  left-start f l = record { high = zero-le; same = refl }

  module _ {f : List A → B} {l : List A} {i : ℕ} (w : Left f l i) where
    -- f of all, where a member is left
    pub left_here : (d : A) → i < length l → f l ≡ f (get_or l i d ∷ drop (i + 1) l)
    left_here d h = sym w.same ∙ ap f (rw (add-one i) (drop-cons l i d h))

    -- the member is passed, where f does not depend on it
    pub left-next : (d : A) → i < length l → f (get_or l i d ∷ drop (i + 1) l) ≡ f (drop (i + 1) l) → Left f l (i + 1)
    left-next d h e = record { high = omega arith; same = sym (left_here d h ∙ e) }

    -- f of all, where no member is left
    pub left_end : length l ≤ i → f l ≡ f []
    left_end h = sym w.same ∙ ap f (drop_of_length-le l h)

-- whether a member passes a test
module _ {A : Type 0} (t : A → Bool) (d : A) {l : List A} {i : ℕ} (w : Left (some t) l i) where
  pub some-here : i < length l → t (get_or l i d) ≡ true → true ≡ some t l
  some-here h e = sym (left_here w d h ∙ rw e)

  pub some_next : i < length l → t (get_or l i d) ≡ false → Left (some t) l (i + 1)
  some_next h e = left-next w d h (rw e)

  pub some_end : length l ≤ i → false ≡ some t l
  some_end h = sym (left_end w h)

-- whether no number stands twice
module _ {l : List ℕ} {i : ℕ} (w : Left distinct l i) where
  pub distinct-here : i < length l → true ≡ among (get_or l i 0) (drop (i + 1) l) → false ≡ distinct l
  distinct-here h e = sym (left_here w 0 h ∙ rw (← e))

  pub distinct-next : i < length l → false ≡ among (get_or l i 0) (drop (i + 1) l) → Left distinct l (i + 1)
  distinct-next h e = left-next w 0 h (rw (← e))

  pub distinct-end : length l ≤ i → true ≡ distinct l
  distinct-end h = sym (left_end w h)
