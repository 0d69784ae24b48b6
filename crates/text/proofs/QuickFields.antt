-- Fields read quickly, one after the other: each is good, and what it says stands in the record.
-- Assumes nothing.
use Prim.Native.Nat.{ℕ, ◌+◌, ◌<◌}
use native.Mathlib.Numerals.{add-one}
use native.Mathlib.Omega.{arith}
use mathlib.Core.Path.{◌≡◌, refl, sym, ap, ◌∙◌}
use mathlib.Core.List.{List, [], ◌∷◌, ◌++◌, map, append_assoc, append-nil}
use lib.IntN.{ℤ}
use lib.ListN.{length, take, set, length-append, length-set}
use lib.Seq.{take-suc-set, take-length}
use borrow.Author.Tests.{eq-eqb, ne_eqb, le-ltb}
use Rattle.limits.specs.Limits.{space, minus, digit0}
use Rattle.format.specs.Number.{thousandths_of, value_of}
use Rattle.format.specs.Line.{field_verdict}
use Rattle.format.specs.GoodFields.{Good, Each, spaced}
use Rattle.format.specs.declared.Role.{Role}
use Rattle.format.specs.declared.Role.TheVariants.{VertexLine, ElementLine}
use Rattle.format.specs.declared.ReaderState.{ReaderState}
use Rattle.format.proofs.NumberLaws.{above_lower}
use Rattle.text.specs.QuickLoops.{CoordinateAt, NumberAt, FieldAt, FieldsAt, end_of}

-- ---- one field

pub number_field : (state : ReaderState) {t : List ℕ} {n : ℕ} {rest : List ℕ} → NumberAt t state.vertices n rest → FieldAt value_of state ElementLine t n rest
unfolding field_verdict value_of
number_field state {n = n} k = record {
  field = k.field;
  here = k.here;
  good = record {
    some = k.some;
    plain = above_lower digit0 minus k.field (omega arith) k.plain;
    passes = rw (k.is, ne_eqb n 0 (λ e. omega (arith, k.low)), le-ltb state.vertices n k.high);
  };
  says = rw k.is;
}

pub coordinate_field : (state : ReaderState) {t : List ℕ} {z : ℤ} {rest : List ℕ} → CoordinateAt t z rest → FieldAt thousandths_of state VertexLine t z rest
unfolding field_verdict thousandths_of
coordinate_field state k = record {
  field = k.field;
  here = k.here;
  good = record { some = k.some; plain = k.plain; passes = rw k.is };
  says = rw k.is;
}

-- ---- fields so far

spaced_more : (fs : List (List ℕ)) (f r : List ℕ) → spaced (fs ++ (f ∷ [])) ++ r ≡ spaced fs ++ (space ∷ (f ++ r))
spaced_more [] f r = ap (λ (l : List ℕ). space ∷ (l ++ r)) (append-nil f)
spaced_more (g ∷ fs) f r = ap (λ (l : List ℕ). space ∷ l)
    (append_assoc g (spaced (fs ++ (f ∷ []))) r ∙ ap (λ (l : List ℕ). g ++ l) (spaced_more fs f r) ∙ sym (append_assoc g (spaced fs) (space ∷ (f ++ r))))

module _ {A : Type 0} (value : List ℕ → A) (state : ReaderState) (role : Role) (t : List ℕ) where
  -- the first k of the fields, as many as the record has places, and the byte that ends the last of them
  pub record SoFar (k : ℕ) (record' : List A) (rest : List ℕ) : Type 0 where
    pub fields : List (List ℕ)
    pub count : length fields ≡ k
    pub here : space ∷ t ≡ spaced fields ++ (end_of k (length record') ∷ rest)
    pub each : Each (Good state role) fields
    pub front : take k record' ≡ map value fields

  pub so_none : (record' : List A) → 0 < length record' → SoFar 0 record' t
  so_none r h = record {
    fields = [];
    count = refl;
    here = rw (ne_eqb 0 (length r) (λ e. omega arith));
    each = tt;
    front = refl;
  }

  each_more : (fs : List (List ℕ)) (f : List ℕ) → Each (Good state role) fs → Good state role f → Each (Good state role) (fs ++ (f ∷ []))
  each_more [] f e g = (g, tt)
  each_more (h ∷ fs) f e g = (e.0, each_more fs f e.1 g)

  map_more : (fs : List (List ℕ)) (f : List ℕ) → map value (fs ++ (f ∷ [])) ≡ map value fs ++ (value f ∷ [])
  map_more [] f = refl
  map_more (g ∷ fs) f = ap (λ (l : List A). value g ∷ l) (map_more fs f)

  -- a field more
  pub so_more : {k : ℕ} {record' : List A} {rest between : List ℕ} {v : A} → SoFar k record' rest → k < length record' → FieldAt value state role rest v between
      → (x : ℕ) (rest' : List ℕ) → x ≡ end_of (k + 1) (length record') → between ≡ x ∷ rest' → SoFar (k + 1) (set record' k v) rest'
  so_more {k = k} {record' = r} {rest = rest} {v = v} s h f x rest' e q =
      let d : space ∷ t ≡ spaced s.fields ++ (space ∷ rest) = s.here ∙ rw (ne_eqb k (length r) (λ e. omega arith)) in
      record {
        fields = s.fields ++ (f.field ∷ []);
        count = length-append s.fields (f.field ∷ []) ∙ ap (λ (m : ℕ). m + 1) s.count;
        here = d ∙ rw (f.here, q) (sym (spaced_more s.fields f.field (x ∷ rest')) ∙ rw (length-set r k v, e));
        each = each_more s.fields f.field s.each f.good;
        front = rw (add-one k, take-suc-set r k v h, s.front, f.says) (sym (map_more s.fields f.field));
      }

  pub so_all : {k : ℕ} {record' : List A} {rest : List ℕ} → SoFar k record' rest → k ≡ length record' → 0 < k → FieldsAt value state role t record' rest
  so_all {k = k} {record' = r} s e h = record {
    fields = s.fields;
    some = omega (arith, s.count);
    here = s.here ∙ rw (eq-eqb k (length r) e);
    each = s.each;
    says = sym (take-length r) ∙ rw (← e) s.front;
  }
