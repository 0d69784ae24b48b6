-- A loop that searches from 0 on finds the least; a loop that counts has the number.
-- Assumes nothing.
use mathlib.Core.Path.{◌≡◌, refl}
use mathlib.Core.Bool.{Bool, true, false, cond, not}
use Prim.Native.Nat.{ℕ, zero, suc, ◌+◌, ◌-◌, ◌≤◌, ◌<◌, zero-le}
use native.Mathlib.Nat.{add-zero, add-suc, add-sub_of_le, le_of_lt, le_refl}
use native.Mathlib.Numerals.{add-one}
use native.Mathlib.Omega.{arith}
use lib.Dec.{eqb}
use borrow.Author.Tests.{ne_eqb}
use Rattle.laws.specs.Searches.{least, many}

module _ (p : ℕ → Bool) where
  pub least_start : least p 0 ≡ 0
  unfolding least
  least_start = refl

  pub least_more : {k : ℕ} → least p k ≡ 0 → p k ≡ false → least p (k + 1) ≡ 0
  unfolding least
  least_more {k} h f = rw (add-one, h, f)

  hit : {k : ℕ} → least p k ≡ 0 → p k ≡ true → least p (suc k) ≡ suc k
  unfolding least
  hit {k} h t = rw (h, t)

  stays : (d k : ℕ) {x : ℕ} → least p k ≡ suc x → least p (k + d) ≡ suc x
  unfolding least
  stays zero k h = rw (add-zero k) h
  stays (suc d) k {x} h = rw (add-suc k d, stays d k h, ne_eqb (suc x) 0 (λ e. omega arith))

  pub least_found : {k n : ℕ} → least p k ≡ 0 → p k ≡ true → k < n → least p n ≡ suc k
  least_found {k} {n} h t l = rw (add-sub_of_le l) at (stays (n - suc k) (suc k) (hit h t))

  -- as a Bool: whether there is one
  pub some : {k n : ℕ} → least p k ≡ 0 → p k ≡ true → k < n → true ≡ not (eqb (least p n) 0)
  some {k} {n} h t l = rw (least_found h t l, ne_eqb (suc k) 0 (λ e. omega arith))

  pub none : (n : ℕ) → least p n ≡ 0 → false ≡ not (eqb (least p n) 0)
  none n h = rw h

  pub many_yes : {k : ℕ} → p k ≡ true → many p (k + 1) ≡ many p k + 1
  unfolding many
  many_yes {k} t = rw (add-one k, t, add-one)

  pub many-no : {k : ℕ} → p k ≡ false → many p (k + 1) ≡ many p k
  unfolding many
  many-no {k} f = rw (add-one k, f)

  -- none below n passes
  module _ (n : ℕ) (h : least p n ≡ 0) (k : ℕ) (l : k < n) where
    none_below : (x : ℕ) → least p k ≡ x → least p k ≡ 0
    none_below zero e = e
    none_below (suc x) e =
        let f : least p n ≡ suc x = rw (add-sub_of_le (le_of_lt l)) at (stays (n - k) k e) in
        let q : ⊥ = omega arith in
        absurd q

    not-here : (b : Bool) → p k ≡ b → p k ≡ false
    not-here false e = e
    not-here true e =
        let f : least p n ≡ suc k = least_found (none_below (least p k) refl) e l in
        let q : ⊥ = omega arith in
        absurd q

    pub least_all : p k ≡ false
    least_all = not-here (p k) refl

-- where none below n passes, none is found
pub least-none : (p : ℕ → Bool) (n : ℕ) → ((k : ℕ) → k < n → p k ≡ false) → least p n ≡ 0
unfolding least
least-none p zero h = refl
least-none p (suc n) h = rw (least-none p n (λ k l. h k (omega arith)), h n (omega arith))

-- two tests that agree below n find the same
pub least_cong : (p q : ℕ → Bool) (n : ℕ) → ((k : ℕ) → k < n → p k ≡ q k) → least p n ≡ least q n
unfolding least
least_cong p q zero h = refl
least_cong p q (suc n) h = rw (least_cong p q n (λ k l. h k (omega arith)), h n (omega arith))

-- what is found is a number below n, or 0
pub least-most : (p : ℕ → Bool) (n : ℕ) → least p n ≤ n
unfolding least
least-most p zero = zero-le
least-most p (suc n) = go (p n) (eqb (least p n) 0) (least-most p n)
  where
    go : (a b : Bool) → least p n ≤ n → cond b (cond a (suc n) 0) (least p n) ≤ suc n
    go true true h = le_refl (suc n)
    go false true h = zero-le
    go true false h = omega arith
    go false false h = omega arith
