-- Records one after the other: how long they are together, and which is the record at an index.
-- Assumes nothing.
use mathlib.Core.Path.{◌≡◌, refl, ap, ◌∙◌}
use mathlib.Core.Bool.{Bool}
use mathlib.Core.List.{List, [], ◌∷◌, ◌++◌, append_assoc}
use Prim.Native.Nat.{ℕ, zero, suc, ◌+◌, ◌*◌, ◌<◌}
use native.Mathlib.Nat.{le_of_suc-le-suc, not-suc-le-zero}
use native.Mathlib.Omega.{arith}
use lib.Dec.{T, eqb, eqb→eq}
use lib.ListN.{length, get_or, take, drop, length-append}
use lib.Seq.{take_at, drop-append-add}
use Rattle.limits.specs.Limits.{element_width}
use Rattle.laws.specs.Words.{every, gather}
use Rattle.laws.proofs.TestLaws.{and_left, and_right}
use Rattle.records.specs.Record.{record_at}

module _ {A : Type 0} (f : A → List ℕ) where
  -- f makes a record of x
  abbrev pub is_wide : A → Bool
  is_wide x = eqb (length (f x)) element_width

  first-wide : (x : A) (l : List A) → T (every is_wide (x ∷ l)) → length (f x) ≡ element_width
  first-wide x l h = eqb→eq (length (f x)) element_width (and_left (is_wide x) (every is_wide l) h)

  pub gathered_length : (l : List A) → T (every is_wide l) → length (gather f l) ≡ element_width * length l
  gathered_length [] h = refl
  gathered_length (x ∷ l) h =
      let e = gathered_length l (and_right (is_wide x) (every is_wide l) h) in
      let w = first-wide x l h in
      simp length-append (omega arith)

  -- what stands behind the first record
  behind-first : (x : A) (r : List ℕ) (k : ℕ) → length (f x) ≡ element_width → drop (element_width * suc k) (f x ++ r) ≡ drop (element_width * k) r
  behind-first x r k w =
      let e : element_width * suc k ≡ length (f x) + element_width * k = omega arith in
      ap (λ (n : ℕ). drop n (f x ++ r)) e ∙ drop-append-add (f x) r (element_width * k)

  pub gathered_at : (d : A) (l : List A) (rest : List ℕ) (k : ℕ) → T (every is_wide l) → k < length l → record_at (gather f l ++ rest) k ≡ f (get_or l k d)
  unfolding record_at
  gathered_at d [] rest k h b = absurd (not-suc-le-zero b)
  gathered_at d (x ∷ l) rest zero h b =
      ap (take element_width) (append_assoc (f x) (gather f l) rest) ∙ take_at (f x) (gather f l ++ rest) element_width (first-wide x l h)
  gathered_at d (x ∷ l) rest (suc k) h b =
      ap (λ (r : List ℕ). take element_width (drop (element_width * suc k) r)) (append_assoc (f x) (gather f l) rest)
      ∙ ap (take element_width) (behind-first x (gather f l ++ rest) k (first-wide x l h))
      ∙ gathered_at d l rest k (and_right (is_wide x) (every is_wide l) h) (le_of_suc-le-suc b)
