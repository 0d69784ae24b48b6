-- A key that goes through ascending keys, where at each place the lower of the two stays and the greater goes on, ends at its place among them.
-- Assumes nothing.
use Rattle.std.proofs.Common.{◌≡◌, refl, sym, ap, ◌∙◌, Bool, true, false, cond, List, [], ◌∷◌, ◌++◌, map, ℕ, ◌+◌, ◌≤◌, ◌<◌, min, max, length, take, drop, set, get_or, arith, append_assoc, add-one, leb}
use native.Mathlib.Nat.{min-eq_left, min-eq_right}
use Rattle.std.proofs.Math.Nat.{max-eq_left, max-eq_right}
use lib.Seq.{drop-cons, take_at}
use borrow.Author.Tests.{leb-true, leb-false}
use Rattle.std.proofs.lemmas.List.{take_more_set, drop-set-lt, take_all, drop_all}
use Rattle.solids.specs.Cut.{insert}
use Rattle.tets.specs.Tets.{key_of, keyed}
use Rattle.tets.proofs.Theorems.{key_again, keys_compare}
use Rattle.blocks.specs.BlockLoops.{AscendingFrom}

-- the keys of keys' tetrahedra are the keys
pub keys_again : (l : List ℕ) → map key_of (map keyed l) ≡ l
keys_again [] = refl
keys_again (k ∷ l) = λ i. key_again k i ∷ keys_again l i

-- what a key that goes through keys makes of them
abbrev pub swept : ℕ → List ℕ → List ℕ
swept k [] = k ∷ []
swept k (x ∷ xs) = min k x ∷ swept (max k x) xs

-- one place more
pub swept-more : (k : ℕ) (xs : List ℕ) (i : ℕ) → i < length xs → {m n : ℕ} → m ≡ min k (get_or xs i 0) → n ≡ max k (get_or xs i 0)
    → take i xs ++ swept k (drop i xs) ≡ take (i + 1) (set xs i m) ++ swept n (drop (i + 1) (set xs i m))
swept-more k xs i h {m} {n} p q =
    rw (take_more_set xs i m h, drop-set-lt (i + 1) xs i m (omega arith))
    (ap (λ (l : List ℕ). take i xs ++ swept k l) (drop-cons xs i 0 h ∙ ap (λ (j : ℕ). get_or xs i 0 ∷ drop j xs) (sym (add-one i)))
    ∙ (λ j. take i xs ++ (sym p j ∷ swept (sym q j) (drop (i + 1) xs)))
    ∙ sym (append_assoc (take i xs) (m ∷ []) (swept n (drop (i + 1) xs))))

-- ---- ascending keys

from-lower : (b c : ℕ) (xs : List ℕ) → b ≤ c → AscendingFrom c xs → AscendingFrom b xs
from-lower b c [] h a = tt
from-lower b c (x ∷ xs) h a = (omega (arith, a.0), a.1)

from-swept : (b k : ℕ) (xs : List ℕ) → b ≤ k → AscendingFrom b xs → AscendingFrom b (swept k xs)
from-swept b k [] h a = (h, tt)
from-swept b k (x ∷ xs) h a = (omega (arith, a.0), from-swept (min k x) (max k x) xs (omega arith) (from-lower (min k x) x xs (omega arith) a.1))

-- a key that is below them all comes first
swept-first : (k : ℕ) (xs : List ℕ) → AscendingFrom k xs → swept k xs ≡ k ∷ xs
swept-first k [] a = refl
swept-first k (x ∷ xs) a = rw (min-eq_left a.0, max-eq_right a.0) (ap (λ (l : List ℕ). k ∷ l) (swept-first x xs a.1))

-- the tetrahedron of the key is put at its place
swept-insert : (b k : ℕ) (xs : List ℕ) → AscendingFrom b xs → map keyed (swept k xs) ≡ insert (keyed k) (map keyed xs)
swept-insert b k [] a = refl
swept-insert b k (x ∷ xs) a = rw (keys_compare k x) (go (leb k x) refl (swept-insert x k xs a.1))
  where
    go : (c : Bool) → leb k x ≡ c → map keyed (swept k xs) ≡ insert (keyed k) (map keyed xs)
        → map keyed (swept k (x ∷ xs)) ≡ cond c (keyed k ∷ (keyed x ∷ map keyed xs)) (keyed x ∷ insert (keyed k) (map keyed xs))
    go true e ih =
        let h = leb-true k x e in
        rw (min-eq_left h, max-eq_right h, swept-first x xs a.1)
    go false e ih =
        let h = leb-false k x e in
        let l : x ≤ k = omega arith in
        rw (min-eq_right l, max-eq_left l) (ap (λ ts. keyed x ∷ ts) ih)

-- a key k₀ that has gone through the first n of ascending keys l: those are xs now, and k is in hand
pub record Through (l : List ℕ) (n k₀ : ℕ) (xs : List ℕ) (k i : ℕ) : Type 0 where
  pub ascending : AscendingFrom 0 (take n l)
  pub same : swept k₀ (take n l) ≡ take i xs ++ swept k (drop i xs)
  pub many : length xs ≡ n
  pub end : n ≤ i
  pub long : n < length (xs ++ drop n l)

-- with the one in hand stored behind them
module _ {l : List ℕ} {n k₀ : ℕ} {xs : List ℕ} {k i : ℕ} (h : Through l n k₀ xs k i) where
  all-swept : take (n + 1) (set (xs ++ drop n l) n k) ≡ swept k₀ (take n l)
  all-swept =
      take_more_set (xs ++ drop n l) n k h.long
      ∙ ap (λ (z : List ℕ). z ++ (k ∷ [])) (take_at xs (drop n l) n h.many)
      ∙ sym (h.same ∙ rw (take_all i xs (omega (arith, h.many, h.end)), drop_all i xs (omega (arith, h.many, h.end))))

  pub all-inserted : map keyed (take (n + 1) (set (xs ++ drop n l) n k)) ≡ insert (keyed k₀) (map keyed (take n l))
  all-inserted = ap (map keyed) all-swept ∙ swept-insert 0 k₀ (take n l) h.ascending

  pub all-ascending : AscendingFrom 0 (take (n + 1) (set (xs ++ drop n l) n k))
  all-ascending = rw all-swept (from-swept 0 k₀ (take n l) (omega arith) h.ascending)
