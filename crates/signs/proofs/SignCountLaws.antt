-- The counts of the sign report: tetrahedron by tetrahedron, and block by block; they add up to the number of tetrahedra.
-- Assumes nothing.
use mathlib.Core.Path.{◌≡◌, refl, sym, ap, ◌∙◌, subst}
use mathlib.Core.Bool.{Bool, true, false, cond, not, ◌&&◌}
use mathlib.Core.List.{List, [], ◌∷◌, ◌++◌, append-nil, map}
use Prim.Native.Nat.{ℕ, zero, suc, ◌+◌, ◌≤◌}
use native.Mathlib.Nat.{zero-add}
use native.Mathlib.Omega.{arith}
use borrow.Author.Tests.{lt-ltb, le-ltb, ne_eqb}
use lib.Dec.{eqb}
use lib.IntN.{ℤ, pos, negsuc, nat_abs}
use lib.ListN.{length}
use lib.Signed.{lt_z}
use Rattle.std.specs.declared.cmp.Ordering.{Ordering}
use Rattle.std.specs.declared.cmp.Ordering.TheVariants.{Less, Equal, Greater}
use Rattle.std.specs.Ordering.{int_cmp}
use Rattle.laws.specs.Words.{count, every, gather}
use Rattle.laws.proofs.EveryLaws.{count_append}
use Rattle.laws.proofs.ListLaws.{gather_append}
use Rattle.solids.specs.Solids.{Tet, Element}
use Rattle.solids.specs.Cut.{cut, cut_mesh}
use Rattle.signs.specs.declared.SignCounts.{SignCounts}
use Rattle.signs.specs.Signs.{volume_in, is_positive, is_zero, is_negative, sound, sign_counts}
use Rattle.signs.specs.SignLoops.{block_counts, with_sign, Tallied, all_positive, of_counts, FewSums, Summed}

-- ---- a sign

-- how a number compares with 0
abbrev sign_of : ℤ → Ordering
sign_of (pos zero) = Equal
sign_of (pos (suc n)) = Greater
sign_of (negsuc n) = Less

compared : (z : ℤ) → int_cmp z (pos 0) ≡ sign_of z
compared (pos zero) = refl
compared (pos (suc n)) = rw (le-ltb (suc n) 0 (omega arith), lt-ltb 0 (suc n) (omega arith))
compared (negsuc n) = refl

abbrev pub is_plus : Ordering → Bool
is_plus Greater = true
is_plus Equal = false
is_plus Less = false

abbrev is_null : Ordering → Bool
is_null Greater = false
is_null Equal = true
is_null Less = false

abbrev pub is_minus : Ordering → Bool
is_minus Greater = false
is_minus Equal = false
is_minus Less = true

-- the three tests of a number are those of its sign
pub plus_sign : (z : ℤ) → lt_z (pos 0) z ≡ is_plus (sign_of z)
plus_sign (pos zero) = refl
plus_sign (pos (suc n)) = lt-ltb 0 (suc n) (omega arith)
plus_sign (negsuc n) = refl

null_sign : (z : ℤ) → eqb (nat_abs z) 0 ≡ is_null (sign_of z)
null_sign (pos zero) = refl
null_sign (pos (suc n)) = ne_eqb (suc n) 0 (λ e. omega arith)
null_sign (negsuc n) = ne_eqb (suc n) 0 (λ e. omega arith)

pub minus_sign : (z : ℤ) → lt_z z (pos 0) ≡ is_minus (sign_of z)
minus_sign (pos zero) = refl
minus_sign (pos (suc n)) = le-ltb (suc n) 0 (omega arith)
minus_sign (negsuc n) = refl

module _ (table : List ℤ) (t : Tet ℕ) where
  abbrev sign_in : Ordering
  sign_in = sign_of (volume_in table t)

  positive_by_sign : is_positive table t ≡ is_plus sign_in
  unfolding is_positive
  positive_by_sign = plus_sign (volume_in table t)

  zero_by_sign : is_zero table t ≡ is_null sign_in
  unfolding is_zero
  zero_by_sign = null_sign (volume_in table t)

  negative_by_sign : is_negative table t ≡ is_minus sign_in
  unfolding is_negative
  negative_by_sign = minus_sign (volume_in table t)

-- one count grows by one, that of the sign
record OneMore (s : Ordering) (c r : SignCounts) : Type 0 where
  positive : r.positive ≡ c.positive + cond (is_plus s) 1 0
  zero : r.zero ≡ c.zero + cond (is_null s) 1 0
  negative : r.negative ≡ c.negative + cond (is_minus s) 1 0

one_more : (s : Ordering) (c : SignCounts) → OneMore s c (with_sign s c)
one_more Greater c = record { positive = refl; zero = omega arith; negative = omega arith }
one_more Equal c = record { positive = omega arith; zero = refl; negative = omega arith }
one_more Less c = record { positive = omega arith; zero = omega arith; negative = refl }

one_sign : (s : Ordering) → cond (is_plus s) 1 0 + cond (is_null s) 1 0 + cond (is_minus s) 1 0 ≡ 1
one_sign Greater = refl
one_sign Equal = refl
one_sign Less = refl

and_false : (b : Bool) → (b && false) ≡ false
and_false true = refl
and_false false = refl

-- ---- tetrahedra

count_last : {A : Type 0} (P : A → Bool) (l : List A) (x : A) → count P (l ++ (x ∷ [])) ≡ count P l + cond (P x) 1 0
count_last P l x = count_append P l (x ∷ []) ∙ omega arith

count_most : {A : Type 0} (P : A → Bool) (l : List A) → count P l ≤ length l
count_most P [] = omega arith
count_most P (x ∷ l) = go (P x) (count_most P l)
  where
    go : (b : Bool) → count P l ≤ length l → cond b 1 0 + count P l ≤ suc (length l)
    go true h = omega arith
    go false h = omega arith

-- nothing is counted
abbrev pub zeros : SignCounts
zeros = record { positive = 0; zero = 0; negative = 0; unsound = 0 }

module _ (table : List ℤ) where
  -- one tetrahedron more
  pub tallied_next : {ts : List (Tet ℕ)} {c : SignCounts} → Tallied table ts c → (t : Tet ℕ) → Tallied table (ts ++ (t ∷ [])) (with_sign (int_cmp (volume_in table t) (pos 0)) c)
  tallied_next {ts} {c} h t =
      let m = one_more (sign_of (volume_in table t)) c in
      subst (λ o. Tallied table (ts ++ (t ∷ [])) (with_sign o c)) (sym (compared (volume_in table t))) (record {
        positive = m.positive ∙ next (is_positive table) h.positive (positive_by_sign table t);
        zero = m.zero ∙ next (is_zero table) h.zero (zero_by_sign table t);
        negative = m.negative ∙ next (is_negative table) h.negative (negative_by_sign table t);
      })
    where
      next : (P : Tet ℕ → Bool) {n : ℕ} {b : Bool} → n ≡ count P ts → P t ≡ b → n + cond b 1 0 ≡ count P (ts ++ (t ∷ []))
      next P e f = (λ i. e i + cond (sym f i) 1 0) ∙ sym (count_last P ts t)

  -- no count is above the number of tetrahedra
  pub record AtMost (n : ℕ) (c : SignCounts) : Type 0 where
    pub positive : c.positive ≤ n
    pub zero : c.zero ≤ n
    pub negative : c.negative ≤ n

  pub tallied_most : {ts : List (Tet ℕ)} {c : SignCounts} → Tallied table ts c → AtMost (length ts) c
  tallied_most {ts} h = record {
    positive = rw h.positive (count_most (is_positive table) ts);
    zero = rw h.zero (count_most (is_zero table) ts);
    negative = rw h.negative (count_most (is_negative table) ts);
  }

  -- each tetrahedron has one of the three signs
  counts_add : (ts : List (Tet ℕ)) → count (is_positive table) ts + count (is_zero table) ts + count (is_negative table) ts ≡ length ts
  counts_add [] = refl
  counts_add (t ∷ ts) =
      rw (positive_by_sign table t, zero_by_sign table t, negative_by_sign table t)
      (omega (arith, one_sign (sign_of (volume_in table t)), counts_add ts))

  -- ---- elements

  -- none is zero or negative exactly if all are positive
  tally_sound : (ts : List (Tet ℕ)) → (eqb (count (is_zero table) ts) 0 && eqb (count (is_negative table) ts) 0) ≡ every (is_positive table) ts
  tally_sound [] = refl
  tally_sound (t ∷ ts) =
      rw (positive_by_sign table t, zero_by_sign table t, negative_by_sign table t) (go (sign_of (volume_in table t)) (tally_sound ts))
    where
      zeros : ℕ
      zeros = count (is_zero table) ts

      negatives : ℕ
      negatives = count (is_negative table) ts

      go : (s : Ordering) → (eqb zeros 0 && eqb negatives 0) ≡ every (is_positive table) ts
          → (eqb (cond (is_null s) 1 0 + zeros) 0 && eqb (cond (is_minus s) 1 0 + negatives) 0) ≡ (is_plus s && every (is_positive table) ts)
      go Greater h = (λ i. eqb (zero-add zeros i) 0 && eqb (zero-add negatives i) 0) ∙ h
      go Equal h = ap (λ b. b && eqb (0 + negatives) 0) (ne_eqb (1 + zeros) 0 (omega arith))
      go Less h = ap (λ b. eqb (0 + zeros) 0 && b) (ne_eqb (1 + negatives) 0 (omega arith)) ∙ and_false (eqb (0 + zeros) 0)

  -- the four counts of blocks, one by one
  record CountsAre (bs : List (List (Tet ℕ))) (r : SignCounts) : Type 0 where
    positive : r.positive ≡ count (is_positive table) (gather (λ b. b) bs)
    zero : r.zero ≡ count (is_zero table) (gather (λ b. b) bs)
    negative : r.negative ≡ count (is_negative table) (gather (λ b. b) bs)
    unsound : r.unsound ≡ count (λ b. not (sound table b)) bs

  to_list : {bs : List (List (Tet ℕ))} {r : SignCounts} → CountsAre bs r → of_counts r ≡ block_counts table bs
  unfolding block_counts
  to_list h = λ i. h.positive i ∷ h.zero i ∷ h.negative i ∷ h.unsound i ∷ []

  from_list : {bs : List (List (Tet ℕ))} {r : SignCounts} → of_counts r ≡ block_counts table bs → CountsAre bs r
  unfolding block_counts
  from_list h = record { positive = cc; zero = cc; negative = cc; unsound = cc }

  pub counts_none : of_counts zeros ≡ block_counts table []
  unfolding block_counts
  counts_none = refl

  -- one block: its tetrahedra by sign, and 1 where it is not sound
  module _ {ts : List (Tet ℕ)} {c : SignCounts} (h : Tallied table ts c) where
    alone : (P : Tet ℕ → Bool) {m : ℕ} → m ≡ count P ts → m ≡ count P (gather (λ b. b) (ts ∷ []))
    alone P p = p ∙ ap (count P) (sym (append-nil ts))

    -- the tally says whether it is sound
    pub sound_by_tally : all_positive c ≡ sound table ts
    unfolding sound
    sound_by_tally = (λ i. eqb (h.zero i) 0 && eqb (h.negative i) 0) ∙ tally_sound ts

    pub counts_of_one : {m : ℕ} → m ≡ count (λ b. not (sound table b)) (ts ∷ []) → of_counts (record { positive = c.positive; zero = c.zero; negative = c.negative; unsound = m }) ≡ block_counts table (ts ∷ [])
    counts_of_one u = to_list (record {
      positive = alone (is_positive table) h.positive;
      zero = alone (is_zero table) h.zero;
      negative = alone (is_negative table) h.negative;
      unsound = u;
    })

  -- no count is above a bound
  pub record Bounded (m : ℕ) (c : SignCounts) : Type 0 where
    pub positive : c.positive ≤ m
    pub zero : c.zero ≤ m
    pub negative : c.negative ≤ m
    pub unsound : c.unsound ≤ m

  pub none_bounded : Bounded 0 zeros
  none_bounded = record { positive = omega arith; zero = omega arith; negative = omega arith; unsound = omega arith }

  pub one_bounded : (ts : List (Tet ℕ)) {r : SignCounts} → length ts ≤ 6 → of_counts r ≡ block_counts table (ts ∷ []) → Bounded 6 r
  one_bounded ts few e =
      let f = from_list e in
      let bs = ts ∷ [] in
      let all = ap length (append-nil ts) in
      record {
        positive = omega (arith, f.positive, count_most (is_positive table) (gather (λ b. b) bs));
        zero = omega (arith, f.zero, count_most (is_zero table) (gather (λ b. b) bs));
        negative = omega (arith, f.negative, count_most (is_negative table) (gather (λ b. b) bs));
        unsound = omega (arith, f.unsound, count_most (λ b. not (sound table b)) bs);
      }

  module _ {m : ℕ} {a b : SignCounts} (h : Bounded m a) (k : Bounded 6 b) where
    pub sums_few : m + 6 ≤ 6144 → FewSums a b
    sums_few l = record {
      positive = omega (arith, h.positive, k.positive);
      zero = omega (arith, h.zero, k.zero);
      negative = omega (arith, h.negative, k.negative);
      unsound = omega (arith, h.unsound, k.unsound);
    }

    pub sum_bounded : {r : SignCounts} → Summed a b r → Bounded (m + 6) r
    sum_bounded s = record {
      positive = omega (arith, s.positive, h.positive, k.positive);
      zero = omega (arith, s.zero, h.zero, k.zero);
      negative = omega (arith, s.negative, h.negative, k.negative);
      unsound = omega (arith, s.unsound, h.unsound, k.unsound);
    }

  -- blocks and blocks behind them
  module _ (bs cs : List (List (Tet ℕ))) {a b : SignCounts} (k : of_counts a ≡ block_counts table bs) (l : of_counts b ≡ block_counts table cs) where
    joined : (P : Tet ℕ → Bool) {m n : ℕ} → m ≡ count P (gather (λ x. x) bs) → n ≡ count P (gather (λ x. x) cs) → m + n ≡ count P (gather (λ x. x) (bs ++ cs))
    joined P p q =
        (λ i. p i + q i) ∙ sym (count_append P (gather (λ x. x) bs) (gather (λ x. x) cs)) ∙ ap (count P) (sym (gather_append (λ x. x) bs cs))

    pub counts_joined : {r : SignCounts} → Summed a b r → of_counts r ≡ block_counts table (bs ++ cs)
    counts_joined s =
        let p = from_list k in
        let q = from_list l in
        to_list (record {
          positive = s.positive ∙ joined (is_positive table) p.positive q.positive;
          zero = s.zero ∙ joined (is_zero table) p.zero q.zero;
          negative = s.negative ∙ joined (is_negative table) p.negative q.negative;
          unsound = s.unsound ∙ (λ i. p.unsound i + q.unsound i) ∙ sym (count_append (λ x. not (sound table x)) bs cs);
        })

  -- ---- elements: the blocks of their cuts

  all_blocks : (es : List Element) → gather (λ b. b) (map cut es) ≡ cut_mesh es
  unfolding cut_mesh
  all_blocks [] = refl
  all_blocks (e ∷ es) = ap (λ ts. cut e ++ ts) (all_blocks es)

  unsound_blocks : (es : List Element) → count (λ b. not (sound table b)) (map cut es) ≡ count (λ e. not (sound table (cut e))) es
  unsound_blocks [] = refl
  unsound_blocks (e ∷ es) = ap (λ (n : ℕ). cond (not (sound table (cut e))) 1 0 + n) (unsound_blocks es)

  pub element_blocks : (es : List Element) → block_counts table (map cut es) ≡ sign_counts table es
  unfolding block_counts sign_counts
  element_blocks es =
      λ i. count (is_positive table) (all_blocks es i) ∷ count (is_zero table) (all_blocks es i) ∷ count (is_negative table) (all_blocks es i) ∷ unsound_blocks es i ∷ []

  -- the three signs together are all tetrahedra
  pub counts_total : (es : List Element) (c : SignCounts) → of_counts c ≡ sign_counts table es → c.positive + c.zero + c.negative ≡ length (cut_mesh es)
  unfolding sign_counts
  counts_total es c e =
      let p : c.positive ≡ count (is_positive table) (cut_mesh es) = cc in
      let z : c.zero ≡ count (is_zero table) (cut_mesh es) = cc in
      let m : c.negative ≡ count (is_negative table) (cut_mesh es) = cc in
      omega (arith, counts_add (cut_mesh es))
