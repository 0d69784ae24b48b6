-- No number stands twice where each is apart from those behind it.
-- Assumes nothing.
use mathlib.Core.Path.{◌≡◌, refl, sym, subst}
use mathlib.Core.Bool.{Bool, true, false, not, ◌&&◌}
use mathlib.Core.List.{List, [], ◌∷◌}
use Prim.Native.Nat.{ℕ, zero, suc, ◌+◌, ◌<◌, zero-le}
use native.Mathlib.Nat.{le_of_suc-le-suc, not-suc-le-zero}
use native.Mathlib.Numerals.{add-one}
use native.Mathlib.Omega.{arith}
use lib.ListN.{length, get_or, drop}
use Rattle.std.specs.Bool.{MatchBool}
use Rattle.std.specs.List.{range_with_len, AllWithin, HoldsAt}
use Rattle.std.proofs.lemmas.List.FromFn.{length-range_with_len, get_or-range_with_len}
use Rattle.laws.specs.Words.{among, distinct}

-- whether the number at an index stands behind it once more
abbrev pub Again : List ℕ → Bool → ℕ → Type 0
Again l b k = among (get_or l k 0) (drop (k + 1) l) ≡ b

next-again : (v : ℕ) (vs : List ℕ) (b : Bool) (k : ℕ) → Again (v ∷ vs) b (suc k) → Again vs b k
next-again v vs b k e =
    let h : among (get_or vs k 0) (drop (suc k) vs) ≡ b = rw (add-one (suc k)) at e in
    rw (add-one k) h

each_apart : (l : List ℕ) → ((k : ℕ) → k < length l → Again l false k) → distinct l ≡ true
each_apart [] h = refl
each_apart (v ∷ vs) h =
    let first : among v vs ≡ false = h 0 (omega arith) in
    let rest : distinct vs ≡ true = each_apart vs (λ k b. next-again v vs false k (h (suc k) (omega arith))) in
    rw (first, rest)

one_again : (l : List ℕ) (k : ℕ) → k < length l → Again l true k → distinct l ≡ false
one_again [] k b e = absurd (not-suc-le-zero b)
one_again (v ∷ vs) zero b e = let first : among v vs ≡ true = e in rw first
one_again (v ∷ vs) (suc k) b e = by (among v vs) (one_again vs k (le_of_suc-le-suc b) (next-again v vs true k e))
  where
    by : (b : Bool) → distinct vs ≡ false → (not b && distinct vs) ≡ false
    by true e = refl
    by false e = e

-- what a test of all indexes tells
module _ (l : List ℕ) where
  abbrev indexes : List ℕ
  indexes = range_with_len 0 (length l)

  at-index : (b : Bool) (k : ℕ) → k < length l → HoldsAt (Again l b) indexes k → Again l b k
  at-index b k h f =
      let e : get_or indexes k 0 ≡ k = let q = get_or-range_with_len 0 (length l) k 0 h in omega arith in
      subst (Again l b) e (f 0)

  pub distinct_by_all : (r : Bool)
      → MatchBool r (AllWithin (Again l false) indexes 0 (length indexes)) ((k : ℕ) × (k < length indexes) × HoldsAt (Again l true) indexes k)
      → r ≡ distinct l
  distinct_by_all true h =
      sym (each_apart l (λ k b. at-index false k b (λ d. h k d zero-le (rw (length-range_with_len 0 (length l)) b))))
  distinct_by_all false h =
      let b : h.0 < length l = rw (length-range_with_len 0 (length l)) at h.1 in
      sym (one_again l h.0 b (at-index true h.0 b h.2))
