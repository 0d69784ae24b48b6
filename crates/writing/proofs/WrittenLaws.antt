-- Laws of the written lines: a line is put together field by field, and how long each line is at most.
-- Assumes nothing.
use Prim.Native.Nat.{ℕ, ◌+◌, ◌*◌, ◌/◌, ◌%◌, ◌^◌, ◌≤◌, ◌<◌}
use native.Mathlib.Nat.{le_refl, not-suc-le-zero, div-div-eq-div-mul}
use native.Mathlib.Numerals.{add-one}
use native.Mathlib.Omega.{arith}
use mathlib.Core.Path.{◌≡◌, refl, sym, ap, ◌∙◌}
use mathlib.Core.Bool.{Bool, true, false, ◌&&◌}
use mathlib.Core.List.{List, [], ◌∷◌, ◌++◌, map, append-nil, append_assoc, map-append}
use lib.Dec.{T, ltb, leb, leb→le}
use lib.IntN.{ℤ, pos, negsuc, nat_abs}
use lib.ListN.{length, get_or, take, length-append, get_or-eq_default}
use lib.Seq.{take_all, take-suc}
use lib.Signed.{lt_z}
use mir.Syntax.{w32}
use mir.Val.{SFits, to_z, of_z}
use mir.Facts.{to_z-of_z}
use borrow.Author.Tests.{ltb-true, ltb-false}
use Rattle.limits.specs.Limits.{line_end, space, minus, point, vertex_limit, tetrahedron_limit}
use Rattle.laws.specs.Words.{gather, every}
use Rattle.laws.proofs.TestLaws.{and_left, and_right}
use Rattle.laws.proofs.ListLaws.{gather_append}
use Rattle.faults.specs.Refusals.{number_of}
use Rattle.faults.specs.declared.Fault.{Fault}
use Rattle.faults.specs.declared.Fault.TheVariants as fault
use Rattle.faults.proofs.Theorems.{faults, listed}
use Rattle.faults.specs.declared.Refusal.{Refusal}
use Rattle.std.specs.Prelude.{Ok}
use Rattle.volume.specs.Volume.{in_range, point_in_range}
use Rattle.volume.proofs.RangeLaws.{in_range_within, coordinates}
use Rattle.records.specs.Record.{kind_of, used_of, record_finding}
use Rattle.records.specs.WholeRecords.{is_number}
use Rattle.records.proofs.RecordLaws.{clean_faultless, clean-whole, used_length, kind-small}
use Rattle.format.specs.Line.{mark_bytes}
use Rattle.format.specs.declared.Mark.{Mark}
use Rattle.format.specs.declared.Mark.TheVariants.{Vx, Te, Py, Pz, Pr, Hx, En, Unknown}
use Rattle.writing.specs.Written.{digit, decimal, sign_of, millimetres_of, coordinate_text, line_with, closed, vertex_line, mark_of_kind, element_line, end_line, refusal_line}
use Rattle.writing.specs.WriteLoops.{Put}
use Rattle.writing.proofs.DecimalLaws.{decimal_one, decimal_more, decimal-short}
use Rattle.writing.proofs.PutLaws.{put_two}

-- ---- a sign

pub minus_sign : (z : ℤ) → lt_z z (pos 0) ≡ true → sign_of z ≡ minus ∷ []
unfolding sign_of
minus_sign (pos n) h = absurd (not-suc-le-zero (ltb-true n 0 h))
minus_sign (negsuc n) h = refl

pub no_sign : (z : ℤ) → lt_z z (pos 0) ≡ false → sign_of z ≡ []
unfolding sign_of
no_sign (pos n) h = refl
no_sign (negsuc n) h = let z : ◌≡◌ {A = ℕ} 0 1 = cc in let q : ⊥ = omega arith in absurd q

-- a coordinate below 0, put as its sign and its size
pub signed_put : (old mid new : List ℕ) (at k r m : ℕ) (z : ℤ) → SFits w32 z → lt_z (to_z w32 (of_z w32 z)) (pos 0) ≡ true → m ≡ nat_abs (to_z w32 (of_z w32 z))
    → Put old at (minus ∷ []) mid k → Put mid k (millimetres_of m) new r → Put old at (coordinate_text z) new r
unfolding coordinate_text
signed_put old mid new at k r m z f l e a b =
    let back = to_z-of_z f in
    let e' : m ≡ nat_abs z = e ∙ ap nat_abs back in
    rw (minus_sign z (rw back at l), ← e') (put_two a b)

-- one of 0 or above, put as its size
pub unsigned_put : (old new : List ℕ) (at r m : ℕ) (z : ℤ) → SFits w32 z → lt_z (to_z w32 (of_z w32 z)) (pos 0) ≡ false → m ≡ nat_abs (to_z w32 (of_z w32 z))
    → Put old at (millimetres_of m) new r → Put old at (coordinate_text z) new r
unfolding coordinate_text
unsigned_put old new at r m z f l e a =
    let back = to_z-of_z f in
    let e' : m ≡ nat_abs z = e ∙ ap nat_abs back in
    rw (no_sign z (rw back at l), ← e') a

-- ---- a number by its last digit

module _ {old new : List ℕ} {at r : ℕ} (k : ℕ) where
  pub put_one_digit : k < 10 → Put old at (digit k ∷ []) new r → Put old at (decimal k) new r
  put_one_digit h p = rw (decimal_one k h) p

  pub put_last_digit : {mid : List ℕ} {n x : ℕ} → 10 ≤ k → Put old at (decimal (k / 10)) mid n → Put mid n (x ∷ []) new r → x ≡ digit (k % 10)
      → Put old at (decimal k) new r
  put_last_digit h p q e = rw (decimal_more k h, ← e) (put_two p q)

-- its last two digits
pub put_last_two_digits : (k : ℕ) {old hundreds tens new : List ℕ} {at n m r x y : ℕ} → 100 ≤ k
    → Put old at (decimal (k / 100)) hundreds n → Put hundreds n (x ∷ []) tens m → Put tens m (y ∷ []) new r
    → x ≡ digit (k / 10 % 10) → y ≡ digit (k % 10) → Put old at (decimal k) new r
put_last_two_digits k {old} {hundreds} {tens} {new} {at} {n} {m} h p q s ex ey =
    let e : k / 10 / 10 ≡ k / 100 = div-div-eq-div-mul k 10 10 in
    let upper : Put old at (decimal (k / 10 / 10)) hundreds n = rw e p in
    let lower : Put old at (decimal (k / 10)) tens m = put_last_digit (k / 10) (omega arith) upper q ex in
    put_last_digit k (omega arith) lower s ey

-- ---- whole millimetres, a point and three decimals

pub millimetres_put : (m : ℕ) {old l₁ l₂ l₃ l₄ new : List ℕ} {at n₁ n₂ n₃ n₄ r x y z : ℕ}
    → Put old at (decimal (m / 1000)) l₁ n₁ → Put l₁ n₁ (point ∷ []) l₂ n₂ → Put l₂ n₂ (x ∷ []) l₃ n₃ → Put l₃ n₃ (y ∷ []) l₄ n₄ → Put l₄ n₄ (z ∷ []) new r
    → x ≡ digit (m / 100 % 10) → y ≡ digit (m / 10 % 10) → z ≡ digit (m % 10) → Put old at (millimetres_of m) new r
unfolding millimetres_of
millimetres_put m h₁ h₂ h₃ h₄ h₅ ex ey ez =
    rw (← ex, ← ey, ← ez) (put_two h₁ (put_two h₂ (put_two h₃ (put_two h₄ h₅))))

-- ---- a line, field by field

-- a field more
fields_more : (fields : List (List ℕ)) (f : List ℕ) {old mid new : List ℕ} {at n r : ℕ} → Put old at (gather (λ (g : List ℕ). space ∷ g) fields) mid n
    → Put mid n (space ∷ f) new r → Put old at (gather (λ (g : List ℕ). space ∷ g) (fields ++ (f ∷ []))) new r
fields_more fields f h k = rw (gather_append (λ (g : List ℕ). space ∷ g) fields (f ∷ []), append-nil (space ∷ f)) (put_two h k)

module _ (mark : List ℕ) {old new : List ℕ} {r : ℕ} where
  -- the mark alone
  pub line-start : Put old 0 mark new r → Put old 0 (line_with mark []) new r
  unfolding line_with
  line-start h = rw (append-nil mark) h

  -- a line with a field more
  pub line-field : (fields : List (List ℕ)) (f : List ℕ) {mid : List ℕ} {n : ℕ} → Put old 0 (line_with mark fields) mid n → Put mid n (space ∷ f) new r
      → Put old 0 (line_with mark (fields ++ (f ∷ []))) new r
  unfolding line_with
  line-field fields f h k =
      rw (gather_append (λ (g : List ℕ). space ∷ g) fields (f ∷ []), append-nil (space ∷ f), ← append_assoc mark (gather (λ (g : List ℕ). space ∷ g) fields) (space ∷ f))
      (put_two h k)

-- ---- the line of an element, corner by corner

-- the first p numbers, each preceded by a space
abbrev pub numbers_part : List ℕ → ℕ → List ℕ
numbers_part numbers p = gather (λ (f : List ℕ). space ∷ f) (map decimal (take p numbers))

pub numbers_next : (numbers : List ℕ) (p v : ℕ) {old mid new : List ℕ} {at n s : ℕ} → p < length numbers → v ≡ get_or numbers p 0
    → Put old at (numbers_part numbers p) mid n → Put mid n (space ∷ decimal v) new s → Put old at (numbers_part numbers (p + 1)) new s
numbers_next numbers p v l e h k =
    rw (add-one p, take-suc numbers p 0 l, map-append decimal (take p numbers) (get_or numbers p 0 ∷ []), ← e)
    (fields_more (map decimal (take p numbers)) (decimal v) h k)

pub element-closed : (r numbers : List ℕ) (p : ℕ) {old marked numbered new : List ℕ} {n m s : ℕ} → numbers ≡ used_of r → length numbers ≤ p
    → Put old 0 (mark_bytes (mark_of_kind (kind_of r))) marked n → Put marked n (numbers_part numbers p) numbered m → Put numbered m (line_end ∷ []) new s
    → Put old 0 (closed (element_line r)) new s
unfolding element_line line_with
element-closed r numbers p e l f h k = put_two (put_two f (rw (take_all p numbers l, e) at h)) k

-- ---- how long a line is

line-length : (mark : List ℕ) (fields : List (List ℕ)) → length (closed (line_with mark fields)) ≡ length mark + length (gather (λ (f : List ℕ). space ∷ f) fields) + 1
unfolding line_with
line-length mark fields = simp length-append

mark_short : (m : Mark) → length (mark_bytes m) ≤ 2
mark_short Vx = le_refl 2
mark_short Te = le_refl 2
mark_short Py = le_refl 2
mark_short Pz = le_refl 2
mark_short Pr = le_refl 2
mark_short Hx = le_refl 2
mark_short En = le_refl 2
mark_short Unknown = omega arith

-- a coordinate within the limits: a minus, three digits, a point, three decimals
sign_short : (z : ℤ) → length (sign_of z) ≤ 1
unfolding sign_of
sign_short (pos n) = omega arith
sign_short (negsuc n) = le_refl 1

pub coordinate-short : (z : ℤ) → in_range z ≡ true → length (coordinate_text z) ≤ 8
unfolding coordinate_text millimetres_of
coordinate-short z h =
    let m : ℕ = nat_abs z in
    let w = (in_range_within z h).abs in
    let d : length (decimal (m / 1000)) ≤ 3 = decimal-short 2 (m / 1000) (omega arith) in
    simp length-append (omega (arith, sign_short z))

-- `VX -500.000 -500.000 -500.000` and its byte 10
pub vertex_line_short : (x y z : ℤ) → (in_range x && (in_range y && in_range z)) ≡ true → length (closed (vertex_line x y z)) ≤ 30
unfolding vertex_line point_in_range
vertex_line_short x y z h =
    let c = coordinates (record { x = x; y = y; z = z }) h in
    rw (line-length (mark_bytes Vx) (coordinate_text x ∷ coordinate_text y ∷ coordinate_text z ∷ []))
    (simp length-append (omega (arith, coordinate-short x c.on_x, coordinate-short y c.on_y, coordinate-short z c.on_z)))

-- a vertex number: four digits
numbers-short : (l : List ℕ) → T (every (is_number vertex_limit) l) → length (gather (λ (f : List ℕ). space ∷ f) (map decimal l)) ≤ 5 * length l
numbers-short [] h = le_refl 0
numbers-short (v ∷ l) h =
    let n : T (is_number vertex_limit v) = and_left (is_number vertex_limit v) (every (is_number vertex_limit) l) h in
    let b : v ≤ vertex_limit = leb→le v vertex_limit (and_right (ltb 0 v) (leb v vertex_limit) n) in
    let d : length (decimal v) ≤ 4 = decimal-short 3 v (omega arith) in
    simp length-append (omega (arith, numbers-short l (and_right (is_number vertex_limit v) (every (is_number vertex_limit) l) h)))

module _ (r : List ℕ) (clean : record_finding vertex_limit r ≡ Ok tt) where
  pub kind_of_clean : kind_of r ≤ 8
  kind_of_clean = kind-small (kind_of r) (clean_faultless vertex_limit r clean).kind

  corner_count : length (used_of r) ≡ kind_of r
  corner_count = used_length r (clean-whole vertex_limit r clean)

  -- a mark, as many numbers of four digits as the kind says, and the byte 10
  pub element_line_by_kind : length (closed (element_line r)) ≤ 5 * kind_of r + 3
  unfolding element_line
  element_line_by_kind =
      rw (line-length (mark_bytes (mark_of_kind (kind_of r))) (map decimal (used_of r)))
      (omega
      (arith, mark_short (mark_of_kind (kind_of r)), numbers-short (used_of r) (clean_faultless vertex_limit r clean).inside, corner_count))

  -- `HX` with eight numbers
  pub element_line_short : length (closed (element_line r)) ≤ 43
  element_line_short = omega (arith, element_line_by_kind, kind_of_clean)

-- `EN 4096 6144` and its byte 10
pub end_line_short : (v e : ℕ) → v ≤ vertex_limit → e ≤ tetrahedron_limit → length (closed (end_line v e)) ≤ 13
unfolding end_line
end_line_short v e hv he =
    let dv : length (decimal v) ≤ 4 = decimal-short 3 v (omega arith) in
    let de : length (decimal e) ≤ 4 = decimal-short 3 e (omega arith) in
    rw (line-length (mark_bytes En) (decimal v ∷ decimal e ∷ [])) (simp length-append (omega arith))

-- a fault's number: two digits
fault_small : (f : Fault) → number_of f < 100
fault_small f = go (ltb (listed f).at (length faults)) refl
  where
    go : (b : Bool) → ltb (listed f).at (length faults) ≡ b → number_of f < 100
    go true h = omega (arith, (listed f).next, ltb-true (listed f).at (length faults) h)
    go false h =
        let e : f ≡ fault.Long = sym (listed f).same ∙ get_or-eq_default faults fault.Long (ltb-false (listed f).at (length faults) h) in
        rw e (omega arith)

-- a usize: twenty digits
pub usize_short : (k : ℕ) → k < 2 ^ 64 → length (decimal k) ≤ 20
usize_short k h = decimal-short 19 k (omega arith)

-- `NO 14` with two numbers of twenty digits and its byte 10
pub refusal_line_short : (r : Refusal) → r.place < 2 ^ 64 → r.second < 2 ^ 64 → length (refusal_line r) ≤ 48
unfolding refusal_line
refusal_line_short r hp hs =
    let dn : length (decimal (number_of r.fault)) ≤ 2 = decimal-short 1 (number_of r.fault) (fault_small r.fault) in
    rw (line-length (78 ∷ 79 ∷ []) (decimal (number_of r.fault) ∷ decimal r.place ∷ decimal r.second ∷ []))
    (simp length-append (omega (arith, usize_short r.place hp, usize_short r.second hs)))
