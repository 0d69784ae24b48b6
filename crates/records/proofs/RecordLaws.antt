-- Laws of a record and of a table of records: the parts that the code reads are the fields; a record without a fault is whole, and a whole
-- record holds a proper element: as many corners as its solid has, no vertex twice. Assumes nothing.
use mathlib.Core.Path.{◌≡◌, refl, sym, ap, ap₂, ◌∙◌, subst}
use mathlib.Core.Bool.{Bool, true, false, cond, not, ◌&&◌, ◌||◌}
use mathlib.Core.List.Memᴰ
use mathlib.Core.List.{List, [], ◌∷◌, ◌++◌, Memᴰ}
use mathlib.Core.Logic.{◌⊎◌, inl, inr}
use Prim.Native.Nat.{ℕ, zero, suc, ◌+◌, ◌*◌, ◌≤◌, ◌<◌, min}
use native.Mathlib.Nat.{not-suc-le-zero}
use native.Mathlib.Numerals.{add-one, one-add}
use native.Mathlib.Omega.{arith}
use lib.Dec.{T, eqb, ltb, leb, eqb→eq, ltb→lt, leb→le, lt→ltb, le→leb}
use lib.ListN.{length, get_or, take, drop, length-append, length-take, length-drop, take-append-drop, drop_of_length-le, get_or-eq_default, get_or-append}
use lib.Seq.{take_all, drop-cons, get_or-take, get_or-drop, get_or_at, take_at, drop_at, length-take-le, ext_get_or}
use borrow.Author.Tests.{eq-eqb, ne_eqb, eqb-true, eqb-false, ltb-false, le-ltb, not-false}
use Rattle.limits.specs.Limits.{element_width}
use Rattle.laws.specs.Words.{every, some, distinct}
use Rattle.laws.proofs.TestLaws.{T_true, true-T, and_left, and_right, and_both}
use Rattle.laws.proofs.EveryLaws.{every_append, every_index, every_follows, every_implies, none_follows}
use Rattle.faults.specs.declared.Fault.{Fault}
use Rattle.faults.specs.declared.Fault.TheVariants.{Kind, Vertex, Spare, Repeat}
use Rattle.std.specs.Prelude.{Result, Ok, Err}
use Rattle.solids.specs.Solids.{Element, corners, at}
use Rattle.solids.specs.Fit.{proper}
use Rattle.records.specs.Record.{kind_of, numbers_of, used_of, spare_of, record_of, corner_at, is_kind, solid_of, element_of, stray_vertex, not_zero, record_finding, record_at, element_at, first_elements}
use Rattle.records.specs.WholeRecords.{is_number, Faultless, Whole, WholeTable}

-- the four kinds, one by one
pub data IsOne (k : ℕ) : Type 0 where
  is_4 : k ≡ 4 → IsOne k
  is_5 : k ≡ 5 → IsOne k
  is_6 : k ≡ 6 → IsOne k
  is_8 : k ≡ 8 → IsOne k

pub which_kind : (k : ℕ) → T (is_kind k) → IsOne k
unfolding is_kind
which_kind k = go (eqb k 4) refl (eqb k 5) refl (eqb k 6) refl (eqb k 8) refl
  where
    is : (n : ℕ) (b : Bool) → eqb k n ≡ b → T b → k ≡ n
    is n true e t = eqb→eq k n (rw e tt)
    is n false e t = absurd t

    go : (a : Bool) → eqb k 4 ≡ a → (b : Bool) → eqb k 5 ≡ b → (c : Bool) → eqb k 6 ≡ c → (d : Bool) → eqb k 8 ≡ d → T (a || (b || (c || d))) → IsOne k
    go true p b q c r d s t = is_4 (is 4 true p tt)
    go false p true q c r d s t = is_5 (is 5 true q tt)
    go false p false q true r d s t = is_6 (is 6 true r tt)
    go false p false q false r d s t = is_8 (is 8 d s t)

-- the solid of a kind has as many corners as the kind says
pub kind-corners : (k : ℕ) → T (is_kind k) → corners (solid_of k) ≡ k
unfolding solid_of
kind-corners k h = go (which_kind k h)
  where
    go : IsOne k → corners (solid_of k) ≡ k
    go (is_4 e) = rw e
    go (is_5 e) = rw e
    go (is_6 e) = rw e
    go (is_8 e) = rw e

pub kind-small : (k : ℕ) → T (is_kind k) → k ≤ 8
kind-small k h = go (which_kind k h)
  where
    go : IsOne k → k ≤ 8
    go (is_4 e) = omega arith
    go (is_5 e) = omega arith
    go (is_6 e) = omega arith
    go (is_8 e) = omega arith

pub numbers-length : (r : List ℕ) → length r ≡ element_width → length (numbers_of r) ≡ 8
unfolding numbers_of
numbers-length r h = simp (length-take, length-drop, h) refl

pub used_length : (r : List ℕ) → Whole r → length (used_of r) ≡ kind_of r
unfolding used_of
used_length r w =
    length-take (kind_of r) (numbers_of r)
    ∙ ap (min (kind_of r)) (numbers-length r w.wide)
    ∙ (let h = kind-small (kind_of r) w.kind in omega arith)

pub whole-proper : (r : List ℕ) → Whole r → T (proper (element_of r))
unfolding element_of
whole-proper r w =
    rw (eq-eqb (length (used_of r)) (corners (solid_of (kind_of r))) (used_length r w ∙ sym (kind-corners (kind_of r) w.kind))) w.apart

-- ---- the vertex number at a place

-- a place of the record is an index of its numbers
pub corner_field : (r : List ℕ) (p : ℕ) → 0 < p → p ≤ 8 → get_or r p 0 ≡ corner_at r p
unfolding corner_at numbers_of
corner_field r zero l h = absurd (omega arith)
corner_field r (suc i) l h = sym (get_or-take 8 (drop 1 r) i 0 h ∙ get_or-drop 1 r i 0 ∙ ap (λ (n : ℕ). get_or r n 0) (one-add i))

-- no vertex stands at place 0, at a place above 8, or behind the record's end
pub corner_none : (r : List ℕ) (p : ℕ) → p ≡ 0 → 0 ≡ corner_at r p
unfolding corner_at
corner_none r p e = rw e

pub corner_above : (r : List ℕ) (p : ℕ) → 8 < p → 0 ≡ corner_at r p
unfolding corner_at numbers_of
corner_above r zero l = absurd (omega arith)
corner_above r (suc i) l =
    sym (get_or-eq_default (take 8 (drop 1 r)) 0 (let e = length-take 8 (drop 1 r) in omega arith))

-- a place is of no corner, above them, or an index of the record
pub ruleset corner_cases = (corner_none, corner_above, corner_field)

-- at the places of the corners stand the vertex numbers of the corners
pub corner_used : (r : List ℕ) (p : ℕ) → p ≤ kind_of r → corner_at r p ≡ at (used_of r) p
unfolding corner_at used_of
corner_used r zero h = refl
corner_used r (suc i) h = sym (get_or-take (kind_of r) (numbers_of r) i 0 h)

-- ---- the parts of nine numbers

module _ (r : List ℕ) (wide : length r ≡ element_width) where
  all_numbers : numbers_of r ≡ drop 1 r
  unfolding numbers_of
  all_numbers = take_all 8 (drop 1 r) (let e = length-drop 1 r in omega arith)

  -- a record is its kind, its used and its unused vertex numbers
  pub record_parts : r ≡ kind_of r ∷ (used_of r ++ spare_of r)
  unfolding kind_of used_of spare_of
  record_parts =
      drop-cons r 0 0 (omega arith)
      ∙ ap (λ (l : List ℕ). kind_of r ∷ l) (sym all_numbers ∙ sym (take-append-drop (kind_of r) (numbers_of r)))

-- ---- a record made of its parts

module _ (k : ℕ) (used spare : List ℕ) (many : length used ≡ k) (eight : length used + length spare ≡ 8) where
  made_numbers : numbers_of (record_of k used spare) ≡ used ++ spare
  unfolding numbers_of
  made_numbers = take_all 8 (used ++ spare) (let e = length-append used spare in omega arith)

  pub made_length : length (record_of k used spare) ≡ element_width
  made_length = let e = length-append used spare in omega arith

  pub made_kind : kind_of (record_of k used spare) ≡ k
  unfolding kind_of
  made_kind = refl

  pub made_used : used_of (record_of k used spare) ≡ used
  unfolding used_of
  made_used = ap₂ {C = List ℕ} take made_kind made_numbers ∙ take_at used spare k many

  pub made_spare : spare_of (record_of k used spare) ≡ spare
  unfolding spare_of
  made_spare = ap₂ {C = List ℕ} drop made_kind made_numbers ∙ drop_at used spare k many

-- ---- what a record is found to be

-- the first fault, by the tests that lead to it
module _ (limit : ℕ) (r : List ℕ) where
  pub finding_short : (length r ≡ element_width → ⊥) → Err Kind ≡ record_finding limit r
  unfolding record_finding
  finding_short n = rw (ne_eqb (length r) element_width n)

  module _ (wide : length r ≡ element_width) where
    pub finding_kind : is_kind (kind_of r) ≡ false → Err Kind ≡ record_finding limit r
    unfolding record_finding
    finding_kind k = rw (eq-eqb (length r) element_width wide, k)

    module _ (kind : is_kind (kind_of r) ≡ true) where
      pub finding_vertex : some (stray_vertex limit) (used_of r) ≡ true → Err Vertex ≡ record_finding limit r
      unfolding record_finding
      finding_vertex v = rw (eq-eqb (length r) element_width wide, kind, v)

      module _ (vertex : some (stray_vertex limit) (used_of r) ≡ false) where
        pub finding_spare : some not_zero (spare_of r) ≡ true → Err Spare ≡ record_finding limit r
        unfolding record_finding
        finding_spare s = rw (eq-eqb (length r) element_width wide, kind, vertex, s)

        module _ (spare : some not_zero (spare_of r) ≡ false) where
          pub finding_repeat : distinct (used_of r) ≡ false → Err Repeat ≡ record_finding limit r
          unfolding record_finding
          finding_repeat d = rw (eq-eqb (length r) element_width wide, kind, vertex, spare, d)

          pub finding_clean : distinct (used_of r) ≡ true → Ok tt ≡ record_finding limit r
          unfolding record_finding
          finding_clean d = rw (eq-eqb (length r) element_width wide, kind, vertex, spare, d)

-- a finding past a test that may have found a fault
past : (b : Bool) (f : Fault) {next : Result (Unit {0}) Fault} → cond b (Err f) next ≡ Ok tt → (b ≡ false) × (next ≡ Ok tt)
past true f e = let z : ◌≡◌ {A = ℕ} 0 1 = cc in absurd (omega arith)
past false f e = (refl, e)

not_stray : (limit v : ℕ) → stray_vertex limit v ≡ false → T (is_number limit v)
not_stray limit v e = go (eqb v 0) refl (ltb limit v) refl e
  where
    go : (a : Bool) → eqb v 0 ≡ a → (b : Bool) → ltb limit v ≡ b → (a || b) ≡ false → T (is_number limit v)
    go true p b q e = absurd (subst T e tt)
    go false p true q e = absurd (subst T e tt)
    go false p false q e =
        and_both (ltb 0 v) (leb v limit)
        (lt→ltb 0 v (let n = eqb-false v 0 p in omega arith)) (le→leb v limit (ltb-false limit v q))

pub stays : (limit v : ℕ) → T (is_number limit v) → stray_vertex limit v ≡ false
stays limit v h =
    let low = ltb→lt 0 v (and_left (ltb 0 v) (leb v limit) h) in
    let high = leb→le v limit (and_right (ltb 0 v) (leb v limit) h) in
    rw (ne_eqb v 0 (λ e. omega arith), le-ltb limit v high)

is_zero : (v : ℕ) → not_zero v ≡ false → T (eqb 0 v)
is_zero v e = true-T (eq-eqb 0 v (sym (eqb-true v 0 (not-false (eqb v 0) e))))

module _ (limit : ℕ) (r : List ℕ) where
  -- no fault is found exactly where there is none
  pub clean_faultless : record_finding limit r ≡ Ok tt → Faultless limit r
  unfolding record_finding
  clean_faultless e =
      let shape = eqb (length r) element_width && is_kind (kind_of r) in
      let a = past (not shape) Kind e in
      let b = past (some (stray_vertex limit) (used_of r)) Vertex a.1 in
      let c = past (some not_zero (spare_of r)) Spare b.1 in
      let d = past (not (distinct (used_of r))) Repeat c.1 in
      let s : T shape = true-T (not-false shape a.0) in
      record {
        wide = eqb→eq (length r) element_width (and_left (eqb (length r) element_width) (is_kind (kind_of r)) s);
        kind = and_right (eqb (length r) element_width) (is_kind (kind_of r)) s;
        inside = every_follows (is_number limit) (stray_vertex limit) (not_stray limit) (used_of r) b.0;
        unused = every_follows (eqb 0) not_zero is_zero (spare_of r) c.0;
        apart = true-T (not-false (distinct (used_of r)) d.0);
      }

  pub faultless_clean : Faultless limit r → record_finding limit r ≡ Ok tt
  faultless_clean f =
      sym
      (finding_clean limit r f.wide (T_true (is_kind (kind_of r)) f.kind)
      (none_follows (is_number limit) (stray_vertex limit) (stays limit) (used_of r) f.inside)
      (none_follows (eqb 0) not_zero (λ v h. rw (eq-eqb v 0 (sym (eqb→eq 0 v h)))) (spare_of r) f.unused)
      (T_true (distinct (used_of r)) f.apart))

  -- a record without a fault is whole
  pub clean-whole : record_finding limit r ≡ Ok tt → Whole r
  clean-whole e =
      let f = clean_faultless e in
      record {
        wide = f.wide;
        kind = f.kind;
        apart = f.apart;
        positive = every_implies (is_number limit) (ltb 0) (λ v h. and_left (ltb 0 v) (leb v limit) h) (used_of r) f.inside;
      }

  -- at each corner's place stands a vertex number between 1 and the limit
  pub clean_corner : record_finding limit r ≡ Ok tt → (p : ℕ) → 0 < p → p ≤ kind_of r → T (is_number limit (corner_at r p))
  clean_corner e zero l h = absurd (not-suc-le-zero l)
  clean_corner e (suc i) l h =
      rw (corner_used r (suc i) h)
      (every_index (is_number limit) (used_of r) 0 i (clean_faultless e).inside (rw (used_length r (clean-whole e)) h))

-- ---- the records of a table

-- a record starts where it should, or, where that is no number of the machine's, behind the table's end
pub record_from : (t : List ℕ) (k start top : ℕ) → length t ≤ top → start ≡ min (k * element_width) top → take element_width (drop start t) ≡ record_at t k
unfolding record_at
record_from t k start top long e = ap (take element_width) (by (ltb top (element_width * k)) refl)
  where
    by : (b : Bool) → ltb top (element_width * k) ≡ b → drop start t ≡ drop (element_width * k) t
    by true l =
        let h = ltb→lt top (element_width * k) (true-T l) in
        drop_of_length-le t {i = start} (omega arith) ∙ sym (drop_of_length-le t {i = element_width * k} (omega arith))
    by false l =
        let h = ltb-false top (element_width * k) l in
        let q : start ≡ element_width * k = omega arith in
        rw q

-- where the table is long enough for n records, each of them has nine numbers
pub record_length : (t : List ℕ) (n k : ℕ) → element_width * n ≤ length t → k < n → length (record_at t k) ≡ element_width
unfolding record_at
record_length t n k long below =
    length-take-le element_width (drop (element_width * k) t) (let e = length-drop (element_width * k) t in omega arith)

-- ---- the elements of a table

-- the first n elements are n
pub first-length : (t : List ℕ) (n : ℕ) → length (first_elements t n) ≡ n
unfolding first_elements
first-length t zero = refl
first-length t (suc n) = rw (length-append, first-length t n, add-one)

-- the element at an index of the first elements is that of the table
pub first-at : (t : List ℕ) (n k : ℕ) (d : Element) → k < n → get_or (first_elements t n) k d ≡ element_at t k
unfolding first_elements
first-at t zero k d h = absurd (not-suc-le-zero h)
first-at t (suc n) k d h = by (eqb k n) refl (first-at t n k d)
  where
    l : length (first_elements t n) ≡ n
    l = first-length t n

    by : (b : Bool) → eqb k n ≡ b → (k < n → get_or (first_elements t n) k d ≡ element_at t k)
        → get_or (first_elements t n ++ (element_at t n ∷ [])) k d ≡ element_at t k
    by true e rest = let p = eqb-true k n e in rw p (get_or_at (first_elements t n) (element_at t n) [] d n l)
    by false e rest =
        let q = eqb-false k n e in
        let i : k < n = omega arith in
        get_or-append (first_elements t n) (element_at t n ∷ []) d k (rw l i) ∙ rest i

-- what each of the first n elements passes, all pass
pub first_all : (t : List ℕ) (p : Element → Bool) (n : ℕ) → ((k : ℕ) → k < n → T (p (element_at t k))) → T (every p (first_elements t n))
unfolding first_elements
first_all t p zero h = tt
first_all t p (suc n) h =
    every_append p (first_elements t n) (element_at t n ∷ []) (first_all t p n (λ k l. h k (omega arith)))
    (and_both (p (element_at t n)) true (h n (omega arith)) tt)

-- and what all pass, each passes
pub first-each : (t : List ℕ) (p : Element → Bool) (n : ℕ) → T (every p (first_elements t n)) → (k : ℕ) → k < n → T (p (element_at t k))
first-each t p n h k l =
    subst (λ (e : Element). T (p e)) (first-at t n k (element_at t k) l)
    (every_index p (first_elements t n) (element_at t k) k h (subst (λ (m : ℕ). k < m) (sym (first-length t n)) l))

-- the first n elements are these, if each is
pub first_are : (t : List ℕ) (n : ℕ) (d : Element) (l : List Element) → length l ≡ n → ((k : ℕ) → k < n → element_at t k ≡ get_or l k d) → first_elements t n ≡ l
first_are t n d l e h =
    ext_get_or d (first_elements t n) l (first-length t n ∙ sym e)
    (λ k b. let c : k < n = rw (first-length t n) at b in first-at t n k d c ∙ h k c)

-- one of the first n elements stands at an index
pub first_member : (t : List ℕ) (n : ℕ) (e : Element) → Memᴰ e (first_elements t n) → (k : ℕ) × (k < n) × (e ≡ element_at t k)
unfolding first_elements
first_member t zero e m = absurd (Memᴰ.not-nil m)
first_member t (suc n) e m = go (Memᴰ.append_cases (first_elements t n) m) (first_member t n e)
  where
    go : Memᴰ e (first_elements t n) ⊎ Memᴰ e (element_at t n ∷ []) → (Memᴰ e (first_elements t n) → (k : ℕ) × (k < n) × (e ≡ element_at t k))
        → (k : ℕ) × (k < suc n) × (e ≡ element_at t k)
    go (inl a) rest = let r = rest a in (r.0, (let b = r.1 in omega arith), r.2)
    go (inr a) rest = (n, omega arith, Memᴰ.eq_of_singleton a)

-- the elements of a whole table are proper
pub first-proper : (t : List ℕ) (n : ℕ) → WholeTable t n → T (every proper (first_elements t n))
unfolding element_at
first-proper t n w = first_all t proper n (λ k h. whole-proper (record_at t k) (w.whole k h))
