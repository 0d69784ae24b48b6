-- Elements in another order: they are proper and fit as before, and their blocks move.
-- Assumes nothing.
use mathlib.Core.Path.{◌≡◌, refl, sym, ◌∙◌, ap, ap₂, subst}
use mathlib.Core.Bool.{Bool, true, false, ◌&&◌}
use mathlib.Core.List.{List, [], ◌∷◌, ◌++◌, map, map-map}
use mathlib.Core.Logic.{◌⊎◌, inl, inr, ◌≢◌}
use Prim.Native.Nat.{ℕ, zero, suc, ◌+◌, ◌≤◌, ◌<◌}
use native.Mathlib.Nat.{not-suc-le-zero, le_of_suc-le-suc}
use native.Mathlib.Omega.{arith}
use lib.Dec.{eqb, ltb, T, eqb→eq, ltb→lt}
use lib.ListN.{length, get_or}
use borrow.Author.Tests.{eqb-false}
use Rattle.laws.specs.Words.{every, among, distinct, gather}
use Rattle.laws.proofs.TestLaws.{and_left, and_right, and_both, true-T, distinct_cons}
use Rattle.laws.proofs.EveryLaws.{among-every}
use Rattle.solids.specs.Solids.{Tet, Element}
use Rattle.solids.specs.Cut.{cut, cut_mesh}
use Rattle.solids.specs.Fit.{proper, fits, fitting}
use Rattle.solids.specs.Listings.{is_order, picked}
use Rattle.solids.proofs.SideLaws.{bool_iff}
use Rattle.solids.proofs.SetLaws.{Sub, among_first, among_later, among_cases, not_in, distinct_both, distinct_le, gathered_same}
use Rattle.solids.proofs.FitLaws.{fits-sym}

-- ---- the numbers from k on, n of them

run : ℕ → ℕ → List ℕ
run k zero = []
run k (suc n) = k ∷ run (suc k) n

run_length : (k n : ℕ) → length (run k n) ≡ n
unfolding run
run_length k zero = refl
run_length k (suc n) = ap suc (run_length (suc k) n)

run_from : (k n v : ℕ) → T (among v (run k n)) → (k ≤ v) × (v < k + n)
unfolding run
run_from k zero v h = absurd h
run_from k (suc n) v h = go (among_cases v k (run (suc k) n) h) (run_from (suc k) n v)
  where
    go : (v ≡ k) ⊎ T (among v (run (suc k) n)) → (T (among v (run (suc k) n)) → (suc k ≤ v) × (v < suc k + n)) → (k ≤ v) × (v < k + suc n)
    go (inl e) ih = (omega arith, omega arith)
    go (inr m) ih = let r = ih m in (omega arith, omega arith)

run_has : (k n v : ℕ) → k ≤ v → v < k + n → T (among v (run k n))
unfolding run
run_has k zero v p q = absurd (omega arith)
run_has k (suc n) v p q = go (eqb v k) refl (λ r. run_has (suc k) n v r (omega arith))
  where
    go : (b : Bool) → eqb v k ≡ b → (suc k ≤ v → T (among v (run (suc k) n))) → T (among v (k ∷ run (suc k) n))
    go true e ih = subst (λ (w : ℕ). T (among v (w ∷ run (suc k) n))) (eqb→eq v k (true-T e)) (among_first v (run (suc k) n))
    go false e ih = let x = eqb-false v k e in among_later v k (run (suc k) n) (ih (omega arith))

run_distinct : (k n : ℕ) → T (distinct (run k n))
unfolding run
run_distinct k zero = tt
run_distinct k (suc n) = distinct_both k (run (suc k) n) (λ h. let r = run_from (suc k) n k h in omega arith) (run_distinct (suc k) n)

run_suc : (k n : ℕ) → run (suc k) n ≡ map suc (run k n)
unfolding run
run_suc k zero = refl
run_suc k (suc n) = ap {B = List ℕ} (λ l. suc k ∷ l) (run_suc (suc k) n)

-- a list is its members in their order
listed : {A : Type 0} (d : A) (l : List A) → map (λ i. get_or l i d) (run 0 (length l)) ≡ l
unfolding run
listed d [] = refl
listed {A} d (x ∷ l) =
    ap {B = List A} (λ r. x ∷ r)
    (ap (map (λ i. get_or (x ∷ l) i d)) (run_suc 0 (length l)) ∙ map-map (λ i. get_or (x ∷ l) i d) suc (run 0 (length l)) ∙ listed d l)

-- what is gathered of members that are changed one by one
gather-map : {A B C : Type 0} (f : B → List C) (g : A → B) (l : List A) → gather f (map g l) ≡ gather (λ x. f (g x)) l
gather-map f g [] = refl
gather-map {C} f g (x ∷ l) = ap (λ (r : List C). f (g x) ++ r) (gather-map f g l)

-- ---- two lists of the same different numbers

each : (Q : ℕ → Bool) (l : List ℕ) → ((i : ℕ) → T (among i l) → T (Q i)) → T (every Q l)
each Q [] h = tt
each Q (i ∷ l) h = and_both (Q i) (every Q l) (h i (among_first i l)) (each Q l (λ j m. h j (among_later j i l m)))

module _ (g : ℕ → Element) where
  every-through : (P : Element → Bool) (l : List ℕ) → every P (map g l) ≡ every (λ i. P (g i)) l
  every-through P [] = refl
  every-through P (i ∷ l) = ap {B = Bool} (λ b. P (g i) && b) (every-through P l)

  every_at_index : (P : Element → Bool) (l : List ℕ) → T (every P (map g l)) → (i : ℕ) → T (among i l) → T (P (g i))
  every_at_index P l h i m = among-every (λ j. P (g j)) l (subst T (every-through P l) h) i m

  every_moved : (P : Element → Bool) (l m : List ℕ) → Sub m l → T (every P (map g l)) → T (every P (map g m))
  every_moved P l m s h = subst T (sym (every-through P m)) (each (λ i. P (g i)) m (λ i k. every_at_index P l h i (s i k)))

  -- every two that fit
  pairs : (l : List ℕ) → T (every proper (map g l)) → T (fitting (map g l)) → (i j : ℕ) → T (among i l) → T (among j l) → i ≢ j → T (fits (g i) (g j))
  unfolding fitting
  pairs [] p h i j m n x = absurd m
  pairs (k ∷ l) p h i j m n x =
      go (pairs l (and_right (proper (g k)) (every proper (map g l)) p) (and_right (every (fits (g k)) (map g l)) (fitting (map g l)) h) i j)
      (among_cases i k l m) (among_cases j k l n)
    where
      pl : T (every proper (map g l))
      pl = and_right (proper (g k)) (every proper (map g l)) p

      ahead : (w : ℕ) → T (among w l) → T (fits (g k) (g w))
      ahead w y = every_at_index (fits (g k)) l (and_left (every (fits (g k)) (map g l)) (fitting (map g l)) h) w y

      behind : (w : ℕ) → T (among w l) → T (fits (g w) (g k))
      behind w y = subst T (fits-sym (g k) (g w) (and_left (proper (g k)) (every proper (map g l)) p) (every_at_index proper l pl w y)) (ahead w y)

      go : (T (among i l) → T (among j l) → i ≢ j → T (fits (g i) (g j))) → (i ≡ k) ⊎ T (among i l) → (j ≡ k) ⊎ T (among j l) → T (fits (g i) (g j))
      go ih (inl a) (inl b) = absurd (x (a ∙ sym b))
      go ih (inl a) (inr b) = subst (λ (w : ℕ). T (fits (g w) (g j))) (sym a) (ahead j b)
      go ih (inr a) (inl b) = subst (λ (w : ℕ). T (fits (g i) (g w))) (sym b) (behind i a)
      go ih (inr a) (inr b) = ih a b x

  all_pairs : (l : List ℕ) → T (distinct l) → ((i j : ℕ) → T (among i l) → T (among j l) → i ≢ j → T (fits (g i) (g j))) → T (fitting (map g l))
  unfolding fitting
  all_pairs [] d h = tt
  all_pairs (k ∷ l) d h =
      and_both (every (fits (g k)) (map g l)) (fitting (map g l))
      (subst T (sym (every-through (fits (g k)) l))
      (each (λ i. fits (g k) (g i)) l (λ i m. h k i (among_first k l) (among_later i k l m) (λ e. not_in k l d (subst (λ (w : ℕ). T (among w l)) (sym e) m)))))
      (all_pairs l (distinct_cons k l d).1 (λ i j m n. h i j (among_later i k l m) (among_later j k l n)))

  fitting_moved : (l m : List ℕ) → T (distinct m) → Sub m l → T (every proper (map g l)) → T (fitting (map g l)) → T (fitting (map g m))
  fitting_moved l m d s p h = all_pairs m d (λ i j a b. pairs l p h i j (s i a) (s j b))

-- ---- an order

module _ (n : ℕ) (σ : List ℕ) (o : T (is_order n σ)) where
  rest : T (every (λ i. ltb i n) σ && distinct σ)
  rest = and_right (eqb (length σ) n) (every (λ i. ltb i n) σ && distinct σ) o

  long : length σ ≡ n
  long = eqb→eq (length σ) n (and_left (eqb (length σ) n) (every (λ i. ltb i n) σ && distinct σ) o)

  pub order-distinct : T (distinct σ)
  order-distinct = and_right (every (λ i. ltb i n) σ) (distinct σ) rest

  pub order_below : (i : ℕ) → T (among i σ) → i < n
  order_below i m = ltb→lt i n (among-every (λ j. ltb j n) σ (and_left (every (λ i. ltb i n) σ) (distinct σ) rest) i m)

  in_run : Sub σ (run 0 n)
  in_run i m = run_has 0 n i (omega arith) (let k = order_below i m in omega arith)

  -- every number below n is named
  in_order : Sub (run 0 n) σ
  in_order i m = go (among i σ) refl
    where
      go : (b : Bool) → among i σ ≡ b → T (among i σ)
      go true e = true-T e
      go false e =
          let k = distinct_le (i ∷ σ) (run 0 n) (distinct_both i σ (λ h. subst T e h) order-distinct) both in
          let l = long in
          let r = run_length 0 n in
          absurd (omega arith)
        where
          both : Sub (i ∷ σ) (run 0 n)
          both j h = by (among_cases j i σ h)
            where
              by : (j ≡ i) ⊎ T (among j σ) → T (among j (run 0 n))
              by (inl x) = subst (λ (w : ℕ). T (among w (run 0 n))) (sym x) m
              by (inr y) = in_run j y

  pub order_names : (i : ℕ) → i < n → T (among i σ)
  order_names i h = in_order i (run_has 0 n i (omega arith) (omega arith))

-- ---- THE REORDERED MESH

module _ (d : Element) (es : List Element) (σ : List ℕ) (o : T (is_order (length es) σ)) where
  abbrev τ : List ℕ
  τ = run 0 (length es)

  pub reordered-proper : every proper (picked d σ es) ≡ every proper es
  reordered-proper =
      bool_iff (every proper (picked d σ es)) (every proper es)
      (λ h. subst (λ (l : List Element). T (every proper l)) (listed d es) (every_moved (λ i. get_or es i d) proper σ τ (in_order (length es) σ o) h))
      (λ h. every_moved (λ i. get_or es i d) proper τ σ (in_run (length es) σ o) (subst (λ (l : List Element). T (every proper l)) (sym (listed d es)) h))

  pub reordered-fitting : T (every proper es) → fitting (picked d σ es) ≡ fitting es
  reordered-fitting p =
      bool_iff (fitting (picked d σ es)) (fitting es)
      (λ h. subst (λ (l : List Element). T (fitting l)) (listed d es)
      (fitting_moved (λ i. get_or es i d) σ τ (run_distinct 0 (length es)) (in_order (length es) σ o) (subst T (sym reordered-proper) p) h))
      (λ h. fitting_moved (λ i. get_or es i d) τ σ (order-distinct (length es) σ o) (in_run (length es) σ o)
      (subst (λ (l : List Element). T (every proper l)) (sym (listed d es)) p) (subst (λ (l : List Element). T (fitting l)) (sym (listed d es)) h))

  -- as many tetrahedra
  pub reordered-many : length (cut_mesh (picked d σ es)) ≡ length (cut_mesh es)
  unfolding cut_mesh
  reordered-many =
      ap length (gather-map cut (λ i. get_or es i d) σ)
      ∙ gathered_same (λ i. cut (get_or es i d)) σ τ (order-distinct (length es) σ o) (run_distinct 0 (length es)) (in_run (length es) σ o) (in_order (length es) σ o)
      ∙ ap length (sym (gather-map cut (λ i. get_or es i d) τ))
      ∙ ap (λ (l : List Element). length (gather cut l)) (listed d es)

-- the blocks at the same indices
cut_at : (d : Element) (l : List Element) (i : ℕ) → i < length l → cut (get_or l i d) ≡ get_or (map cut l) i []
cut_at d [] i h = absurd (not-suc-le-zero h)
cut_at d (e ∷ l) zero h = refl
cut_at d (e ∷ l) (suc i) h = cut_at d l i (le_of_suc-le-suc h)

moved : (d : Element) (es : List Element) (σ : List ℕ) → ((i : ℕ) → T (among i σ) → i < length es) → cut_mesh (picked d σ es) ≡ gather (λ b. b) (picked [] σ (map cut es))
unfolding cut_mesh
moved d es [] h = refl
moved d es (i ∷ σ) h =
    ap₂ {C = List (Tet ℕ)} (λ x y. x ++ y) (cut_at d es i (h i (among_first i σ))) (moved d es σ (λ j m. h j (among_later j i σ m)))

pub reordered-cut : (d : Element) (es : List Element) (σ : List ℕ) → T (is_order (length es) σ) → cut_mesh (picked d σ es) ≡ gather (λ b. b) (picked [] σ (map cut es))
reordered-cut d es σ o = moved d es σ (order_below (length es) σ o)

pub blocks_joined : (es : List Element) → cut_mesh es ≡ gather (λ b. b) (map cut es)
unfolding cut_mesh
blocks_joined [] = refl
blocks_joined (e ∷ es) = ap {B = List (Tet ℕ)} (λ l. cut e ++ l) (blocks_joined es)
