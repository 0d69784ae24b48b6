-- Laws of `every`, `some`, `among` and `count`: at a member, at a changed list, at two lists joined, and from one test to another.
-- Assumes nothing.
use mathlib.Core.Path.{◌≡◌, refl, sym, ap₂, subst}
use mathlib.Core.Bool.{Bool, true, false, cond, ◌||◌}
use mathlib.Core.List.Memᴰ
use mathlib.Core.List.{List, [], ◌∷◌, ◌++◌, map, Memᴰ}
use mathlib.Core.Logic.{◌⊎◌, inl, inr}
use Prim.Native.Nat.{ℕ, zero, suc, ◌+◌, ◌<◌}
use native.Mathlib.Nat.{le_of_suc-le-suc, not-suc-le-zero}
use lib.ListN.{length, get_or}
use native.Mathlib.Omega.{arith}
use lib.Dec.{eqb, T, eqb→eq}
use Rattle.laws.specs.Words.{every, some, among, count}
use Rattle.laws.proofs.TestLaws.{and_left, and_right, and_both, or_cases, true-T}

module _ {A : Type 0} where
  -- what holds of each member
  pub every-at : (P : A → Bool) (l : List A) → T (every P l) → (x : A) → Memᴰ x l → T (P x)
  every-at P [] h x m = absurd (Memᴰ.not-nil m)
  every-at P (y ∷ l) h x m = go (every-at P l (and_right (P y) (every P l) h) x) (Memᴰ.cases_cons m)
    where
      go : (Memᴰ x l → T (P x)) → (x ≡ y) ⊎ Memᴰ x l → T (P x)
      go ih (inl e) = subst (λ z. T (P z)) (sym e) (and_left (P y) (every P l) h)
      go ih (inr n) = ih n

  -- a member that passes
  pub some_at : (P : A → Bool) (l : List A) → T (some P l) → (x : A) × Memᴰ x l × T (P x)
  some_at P [] h = absurd h
  some_at P (x ∷ l) h = go (or_cases (P x) (some P l) h) (some_at P l)
    where
      go : T (P x) ⊎ T (some P l) → (T (some P l) → (y : A) × Memᴰ y l × T (P y)) → (y : A) × Memᴰ y (x ∷ l) × T (P y)
      go (inl p) ih = (x, Memᴰ.head refl, p)
      go (inr q) ih = let r = ih q in (r.0, Memᴰ.tail r.1, r.2)

  -- from two tests to a third
  pub every_both : (P Q R : A → Bool) → ((x : A) → T (P x) → T (Q x) → T (R x)) → (l : List A) → T (every P l) → T (every Q l) → T (every R l)
  every_both P Q R e [] p q = tt
  every_both P Q R e (x ∷ l) p q =
      and_both (R x) (every R l) (e x (and_left (P x) (every P l) p) (and_left (Q x) (every Q l) q))
      (every_both P Q R e l (and_right (P x) (every P l) p) (and_right (Q x) (every Q l) q))

  -- from one test to another
  pub every_implies : (P Q : A → Bool) → ((x : A) → T (P x) → T (Q x)) → (l : List A) → T (every P l) → T (every Q l)
  every_implies P Q e l h = every_both P P Q (λ x p q. e x p) l h h

  -- what holds of each member holds of the one at an index
  pub every_index : (P : A → Bool) (l : List A) (d : A) (i : ℕ) → T (every P l) → i < length l → T (P (get_or l i d))
  every_index P [] d i h k = absurd (not-suc-le-zero k)
  every_index P (x ∷ l) d zero h k = and_left (P x) (every P l) h
  every_index P (x ∷ l) d (suc i) h k = every_index P l d i (and_right (P x) (every P l) h) (le_of_suc-le-suc k)

  -- and back: what holds at each index holds of each member
  pub every_indexed : (P : A → Bool) (d : A) (l : List A) → ((k : ℕ) → k < length l → T (P (get_or l k d))) → T (every P l)
  every_indexed P d [] h = tt
  every_indexed P d (x ∷ l) h = and_both (P x) (every P l) (h zero (omega arith)) (every_indexed P d l (λ k b. h (suc k) (omega arith)))

  pub every_append : (P : A → Bool) (l m : List A) → T (every P l) → T (every P m) → T (every P (l ++ m))
  every_append P [] m p q = q
  every_append P (x ∷ l) m p q =
      and_both (P x) (every P (l ++ m)) (and_left (P x) (every P l) p) (every_append P l m (and_right (P x) (every P l) p) q)

  -- where no member passes Q, each passes a test that holds where Q fails
  pub every_follows : (P Q : A → Bool) → ((x : A) → Q x ≡ false → T (P x)) → (l : List A) → some Q l ≡ false → T (every P l)
  every_follows P Q f [] e = tt
  every_follows P Q f (x ∷ l) e = follows (Q x) refl (every_follows P Q f l) e
    where
      follows : (a : Bool) → Q x ≡ a → (some Q l ≡ false → T (every P l)) → (a || some Q l) ≡ false → T (every P (x ∷ l))
      follows true p rest e = absurd (subst T e tt)
      follows false p rest e = and_both (P x) (every P l) (f x p) (rest e)

  -- where each member passes P, none passes a test that fails where P holds
  pub none_follows : (P Q : A → Bool) → ((x : A) → T (P x) → Q x ≡ false) → (l : List A) → T (every P l) → some Q l ≡ false
  none_follows P Q f [] p = refl
  none_follows P Q f (x ∷ l) p = rw (f x (and_left (P x) (every P l) p)) (none_follows P Q f l (and_right (P x) (every P l) p))

  -- two lists joined
  pub every_front : (P : A → Bool) (l m : List A) → T (every P (l ++ m)) → T (every P l)
  every_front P [] m h = tt
  every_front P (x ∷ l) m h =
      and_both (P x) (every P l) (and_left (P x) (every P (l ++ m)) h) (every_front P l m (and_right (P x) (every P (l ++ m)) h))

  pub every_rest : (P : A → Bool) (l m : List A) → T (every P (l ++ m)) → T (every P m)
  every_rest P [] m h = h
  every_rest P (x ∷ l) m h = every_rest P l m (and_right (P x) (every P (l ++ m)) h)

  pub count_append : (P : A → Bool) (l m : List A) → count P (l ++ m) ≡ count P l + count P m
  count_append P [] m = omega arith
  count_append P (x ∷ l) m = rw (count_append P l m) (omega arith)

  -- two tests that agree count the same
  pub count_cong : (P Q : A → Bool) → ((x : A) → P x ≡ Q x) → (l : List A) → count P l ≡ count Q l
  count_cong P Q h [] = refl
  count_cong P Q h (x ∷ l) = ap₂ {C = ℕ} (λ b n. cond b 1 0 + n) (h x) (count_cong P Q h l)

module _ {A B : Type 0} where
  -- a list changed member by member
  pub every_map : (P : B → Bool) (g : A → B) (Q : A → Bool) → ((x : A) → T (Q x) → T (P (g x))) → (l : List A) → T (every Q l) → T (every P (map g l))
  every_map P g Q e [] h = tt
  every_map P g Q e (x ∷ l) h =
      and_both (P (g x)) (every P (map g l)) (e x (and_left (Q x) (every Q l) h)) (every_map P g Q e l (and_right (Q x) (every Q l) h))

  -- members changed in two ways that agree where the test passes
  pub map_agree : (g k : A → B) (P : A → Bool) → ((x : A) → T (P x) → g x ≡ k x) → (l : List A) → T (every P l) → map g l ≡ map k l
  map_agree g k P e [] h = refl
  map_agree g k P e (x ∷ l) h =
      ap₂ {C = List B} (λ y ys. y ∷ ys) (e x (and_left (P x) (every P l) h)) (map_agree g k P e l (and_right (P x) (every P l) h))

-- a number among others passes the test that each of them passes
pub among-every : (P : ℕ → Bool) (l : List ℕ) → T (every P l) → (v : ℕ) → T (among v l) → T (P v)
among-every P [] h v m = absurd m
among-every P (x ∷ l) h v m = go (eqb v x) refl m (among-every P l (and_right (P x) (every P l) h) v)
  where
    go : (b : Bool) → eqb v x ≡ b → T (b || among v l) → (T (among v l) → T (P v)) → T (P v)
    go true e m ih = subst (λ (y : ℕ). T (P y)) (sym (eqb→eq v x (true-T e))) (and_left (P x) (every P l) h)
    go false e m ih = ih m
