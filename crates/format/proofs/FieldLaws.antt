-- Laws of fields: a line's fields by where its first space stands, the values of the first ones, and the first fault of several.
-- Assumes nothing.
use Prim.Native.Nat.{ℕ, zero, suc, ◌+◌, ◌-◌, ◌≤◌}
use native.Mathlib.Numerals.{sub-one}
use native.Mathlib.Omega.{arith}
use mathlib.Core.Path.{◌≡◌, refl, ap, ◌∙◌}
use mathlib.Core.Logic.{◌⊎◌, ⊎_elim}
use mathlib.Core.Bool.{Bool, true, false, not, ◌&&◌}
use mathlib.Core.List.{List, [], ◌∷◌, append-nil}
use lib.Dec.{eqb}
use borrow.Author.Tests.{ne_eqb}
use lib.ListN.{length, drop_of_length-le}
use lib.Seq.{sets, sets-eq}
use Rattle.std.specs.Prelude.{Ok, Err}
use Rattle.limits.specs.Limits.{space}
use Rattle.laws.specs.Pieces.{Pieces, rest, piece, split}
use Rattle.faults.specs.declared.Fault.{Fault}
use Rattle.format.specs.Line.{some, are_fields, first_of, first, field_verdict, fields_verdict}
use Rattle.format.specs.declared.Role.{Role}
use Rattle.format.specs.declared.ReaderState.{ReaderState}

-- ---- the number of fields

pub none_wanted : (p : Pieces) → are_fields 0 p ≡ false
unfolding are_fields
none_wanted (rest l) = refl
none_wanted (piece l p) = refl

pub some_bytes : (l : List ℕ) → (length l ≡ 0 → ⊥) → some l ≡ true
some_bytes [] h = absurd (h refl)
some_bytes (x ∷ l) h = refl

-- the first field is empty
pub fields_empty : (n : ℕ) (l : List ℕ) (p : Pieces) → length l ≡ 0 → are_fields n (piece l p) ≡ false
unfolding are_fields
fields_empty zero l p e = refl
fields_empty (suc n) [] p e = refl
fields_empty (suc n) (x ∷ l) p e = absurd (omega arith)

-- more fields follow
pub fields_more : (n : ℕ) (l : List ℕ) (p : Pieces) → (n ≡ 0 → ⊥) → (length l ≡ 0 → ⊥) → are_fields n (piece l p) ≡ are_fields (n - 1) p
unfolding are_fields
fields_more zero l p z e = absurd (z refl)
fields_more (suc n) [] p z e = absurd (e refl)
fields_more (suc n) (x ∷ l) p z e = rw sub-one

-- the first field is the last, and one is wanted
pub fields_last : (l : List ℕ) → are_fields 1 (rest l) ≡ not (eqb (length l) 0)
unfolding are_fields
fields_last [] = refl
fields_last (x ∷ l) = rw (ne_eqb (length (x ∷ l)) 0 (λ e. omega arith))

-- the first field is the last, and another number is wanted
pub fields_other : (n : ℕ) (l : List ℕ) → (n ≡ 1 → ⊥) → are_fields n (rest l) ≡ false
unfolding are_fields
fields_other zero l z = refl
fields_other (suc n) l z = rw (ne_eqb n 0 (λ e. z (ap suc e))) (none (some l))
  where
    none : (b : Bool) → (b && false) ≡ false
    none true = refl
    none false = refl

-- ---- the values of the first fields

module _ {A : Type 0} (f : List ℕ → A) where
  pub length-first : (n : ℕ) (p : Pieces) → length (first_of f n p) ≡ n
  unfolding first_of
  length-first zero p = refl
  length-first (suc n) (rest l) = ap suc (length-first n (rest []))
  length-first (suc n) (piece l p) = ap suc (length-first n p)

  pub first-none : (n : ℕ) (p : Pieces) → n ≡ 0 → first_of f n p ≡ []
  unfolding first_of
  first-none zero p e = refl
  first-none (suc n) p e = absurd (omega arith)

  one_more : (n : ℕ) (l : List ℕ) (p : Pieces) → first_of f (suc n) (piece l p) ≡ f l ∷ first_of f n p
  unfolding first_of
  one_more n l p = refl

  one_last : (n : ℕ) (l : List ℕ) → first_of f (suc n) (rest l) ≡ f l ∷ first_of f n (split space [])
  unfolding first_of split
  one_last n l = refl

  -- the first field l, then those of u behind it, which is nothing behind the last
  pub first_then : (t l u : List ℕ) → (split space t ≡ piece l (split space u)) ⊎ ((split space t ≡ rest l) × (u ≡ [])) → (n m : ℕ) → n ≡ suc m
      → first_of f n (split space t) ≡ f l ∷ first_of f m (split space u)
  first_then t l u e n m q =
      ap (λ (j : ℕ). first_of f j (split space t)) q
      ∙ ⊎_elim (λ h. rw h (one_more m l (split space u))) (λ h. rw (h.0, h.1) (one_last m l)) e

-- as many stores as there is room are all there is
pub sets-whole : {A : Type 0} (vs l : List A) → length vs ≡ length l → sets l 0 vs ≡ vs
sets-whole vs l e =
    let h : 0 + length vs ≤ length l = omega arith in
    let j : length l ≤ 0 + length vs = omega arith in
    sets-eq vs l 0 h ∙ rw (drop_of_length-le l j) (append-nil vs)

-- ---- the first fault

module _ (state : ReaderState) (role : Role) where
  pub verdict_last : (l : List ℕ) → fields_verdict state role (rest l) ≡ field_verdict state role l
  unfolding fields_verdict
  verdict_last l = refl

  verdict_on : (l : List ℕ) (p : Pieces) → fields_verdict state role (piece l p) ≡ first (field_verdict state role l) (fields_verdict state role p)
  unfolding fields_verdict
  verdict_on l p = refl

  -- the first field passes: the whole is judged as what stands behind it
  pub verdict_passed : (l : List ℕ) (p : Pieces) → field_verdict state role l ≡ Ok tt → fields_verdict state role (piece l p) ≡ fields_verdict state role p
  verdict_passed l p e = verdict_on l p ∙ rw e

  pub verdict_failed : (f : Fault) (l : List ℕ) (p : Pieces) → field_verdict state role l ≡ Err f → fields_verdict state role (piece l p) ≡ Err f
  verdict_failed f l p e = verdict_on l p ∙ rw e
