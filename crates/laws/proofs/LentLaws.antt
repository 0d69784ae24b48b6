-- Laws of lent memory: nothing placed, the length, two placed one after the other, stores in a row, and placed from the front is laid.
-- Assumes nothing.
use mathlib.Core.Path.{◌≡◌, refl, sym, ap, ◌∙◌}
use mathlib.Core.List.{List, [], ◌++◌, append_assoc}
use Prim.Native.Nat.{ℕ, ◌+◌, ◌≤◌}
use native.Mathlib.Nat.{add-zero, zero-add, add_assoc}
use native.Mathlib.Omega.{arith}
use lib.ListN.{length, take, drop, length-append, length-drop, take-append-drop}
use lib.Seq.{sets, sets-eq, take_at, drop_at, length-take-le, drop-drop}
use Rattle.laws.specs.Lent.{laid, placed}

module _ {A : Type 0} where
  pub placed-none : (l : List A) (at : ℕ) → placed l at [] ≡ l
  unfolding placed
  placed-none l at = rw add-zero (take-append-drop at l)

  later : (p l : List A) (m k : ℕ) → drop m p ≡ drop m l → drop (m + k) p ≡ drop (m + k) l
  later p l m k e = sym (drop-drop k m p) ∙ ap (drop k) e ∙ drop-drop k m l

  module _ (l : List A) (at : ℕ) (b : List A) (h : at + length b ≤ length l) where
    head_length : length (take at l ++ b) ≡ at + length b
    head_length = simp (length-append, length-take-le at l (omega arith))

    pub length-placed : length (placed l at b) ≡ length l
    unfolding placed
    length-placed = simp (length-append, length-drop, length-take-le at l (omega arith)) (omega arith)

    -- what stands before, and what stands after
    pub take-placed : take (at + length b) (placed l at b) ≡ take at l ++ b
    unfolding placed
    take-placed = rw (← append_assoc) (take_at (take at l ++ b) (drop (at + length b) l) (at + length b) head_length)

    pub drop-placed : drop (at + length b) (placed l at b) ≡ drop (at + length b) l
    unfolding placed
    drop-placed = rw (← append_assoc) (drop_at (take at l ++ b) (drop (at + length b) l) (at + length b) head_length)

    -- a second list right after the first
    pub placed-placed : (b' : List A) → placed (placed l at b) (at + length b) b' ≡ placed l at (b ++ b')
    unfolding placed
    placed-placed b' =
        let m : ℕ = at + length b in
        ap (λ (x : List A). x ++ (b' ++ drop (m + length b') (placed l at b))) take-placed
        ∙ ap (λ (x : List A). take at l ++ b ++ (b' ++ x)) (later (placed l at b) l m (length b') drop-placed)
        ∙ simp (append_assoc, length-append, add_assoc)

  -- stores one after the other
  pub placed-sets : (l : List A) (at : ℕ) (b : List A) → at + length b ≤ length l → sets l at b ≡ placed l at b
  unfolding placed
  placed-sets l at b h = rw (← append_assoc) (sets-eq b l at h)

  -- from the front on
  pub placed-laid : (l b : List A) → placed l 0 b ≡ laid b l
  unfolding placed laid
  placed-laid l b = ap (λ (n : ℕ). b ++ drop n l) (zero-add (length b))

  -- where there are no records, all is as it was
  pub laid_none : (l : List A) → laid [] l ≡ l
  unfolding laid
  laid_none l = refl
