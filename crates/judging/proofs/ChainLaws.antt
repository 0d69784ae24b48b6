-- The places of a table by their vertices: the chain of a vertex meets every element that holds it, and elements with no vertex in common fit.
-- Assumes nothing.
use mathlib.Core.Path.{◌≡◌, refl, sym, ap, ap₂, ◌∙◌, subst}
use mathlib.Core.Bool.{Bool, true, false, cond, not, ◌||◌}
use mathlib.Core.List.{List, [], ◌∷◌, ◌++◌}
use Prim.Native.Nat.{ℕ, zero, suc, ◌+◌, ◌*◌, ◌/◌, ◌%◌, ◌≤◌, ◌<◌, zero-le}
use native.Mathlib.Numerals.{add-one}
use native.Mathlib.Omega.{arith}
use lib.Dec.{T, eqb, ltb, leb}
use lib.ListN.{length, get_or, take, drop, set, replicate, length-set, length-replicate}
use lib.Seq.{get_or-take, get_or-drop, get_or-set_same, get_or-set_other}
use borrow.Author.Tests.{eqb-true, eqb-false, eq-eqb, ne_eqb, ltb-true, ltb-false, lt-ltb, leb-true, leb-false, le-leb, not-false}
use Rattle.limits.specs.Limits.{element_limit, vertex_limit, element_width}
use Rattle.laws.specs.Words.{keep, among, distinct}
use Rattle.laws.proofs.SearchLaws.{least_all, least-none}
use Rattle.laws.proofs.TestLaws.{T_true, true-T, and_left, and_right, distinct_cons}
use Rattle.laws.proofs.EveryLaws.{every_index, every_append, every_implies}
use Rattle.solids.specs.Fit.{common, fits}
use Rattle.solids.proofs.SetLaws.{not_in}
use Rattle.solids.proofs.FaceFacts.{at-among}
use Rattle.records.specs.Record.{kind_of, numbers_of, used_of, spare_of, record_at, element_of, element_at}
use Rattle.records.specs.WholeRecords.{is_number, Faultless, WholeTable}
use Rattle.records.proofs.RecordLaws.{used_length, kind-small, record_parts, clean_faultless}
use Rattle.tables.specs.JudgedRecords.{bad_record}
use Rattle.judging.specs.Judge.{pair_fits, misfit}
use Rattle.tables.proofs.CleanRecordLaws.{record_clean}
use Rattle.judging.specs.Judgement.{Recorded}
use Rattle.judging.specs.declared.chains.Mark.{Mark}
use Rattle.judging.specs.declared.chains.Mark.TheVariants.{Unmet, MetOnce, Fits}
use Rattle.judging.specs.Chained.{Numbered, holds, latest, Filed}
use Rattle.judging.specs.Marks.{is_met, met, Seen, Grown, Meeting, Met}

-- ---- the greatest number below a bound

module _ (p : ℕ → Bool) where
  latest-high : (m : ℕ) → latest p m ≤ m
  unfolding latest
  latest-high zero = zero-le
  latest-high (suc m) = go (p m) (latest-high m)
    where
      go : (b : Bool) → latest p m ≤ m → cond b m (latest p m) ≤ suc m
      go true h = omega arith
      go false h = omega arith

  pub latest_less : (m : ℕ) → 0 < m → latest p m < m
  unfolding latest
  latest_less zero h = absurd (omega arith)
  latest_less (suc m) h = go (p m) (latest-high m)
    where
      go : (b : Bool) → latest p m ≤ m → cond b m (latest p m) < suc m
      go true l = omega arith
      go false l = omega arith

  latest-passes : (m : ℕ) → 0 < latest p m → p (latest p m) ≡ true
  unfolding latest
  latest-passes zero h = absurd (omega arith)
  latest-passes (suc m) h = go (p m) refl (latest-passes m) h
    where
      go : (b : Bool) → p m ≡ b → (0 < latest p m → p (latest p m) ≡ true) → 0 < cond b m (latest p m) → p (cond b m (latest p m)) ≡ true
      go true e rest l = e
      go false e rest l = rest l

  latest_above : (m x : ℕ) → x < m → p x ≡ true → x ≤ latest p m
  unfolding latest
  latest_above zero x h e = absurd (omega arith)
  latest_above (suc m) x h e = go (p m) (eqb x m) refl refl (latest_above m x)
    where
      go : (b d : Bool) → p m ≡ b → eqb x m ≡ d → (x < m → p x ≡ true → x ≤ latest p m) → x ≤ cond b m (latest p m)
      go true d f g rest = omega arith
      go false true f g rest =
          let q = eqb-true x m g in
          let z : true ≡ false = sym e ∙ ap p q ∙ f in
          absurd (subst T z tt)
      go false false f g rest = let q = eqb-false x m g in rest (omega arith) e

-- ---- what stands at a place

module _ (t : List ℕ) (v x : ℕ) where
  pub holds-place : holds t v x ≡ true → 0 < x % element_width
  unfolding holds
  holds-place e = ltb-true 0 (x % element_width) (T_true _ (and_left (ltb 0 (x % element_width)) (eqb (get_or t x 0) v) (true-T e)))

  pub holds-vertex : holds t v x ≡ true → get_or t x 0 ≡ v
  unfolding holds
  holds-vertex e = eqb-true (get_or t x 0) v (T_true _ (and_right (ltb 0 (x % element_width)) (eqb (get_or t x 0) v) (true-T e)))

  pub place-holds : 0 < x % element_width → get_or t x 0 ≡ v → holds t v x ≡ true
  unfolding holds
  place-holds h e = rw (lt-ltb 0 (x % element_width) h, eq-eqb (get_or t x 0) v e)

  other_holds : 0 < x % element_width → (get_or t x 0 ≡ v → ⊥) → holds t v x ≡ false
  unfolding holds
  other_holds h e = rw (lt-ltb 0 (x % element_width) h, ne_eqb (get_or t x 0) v e)

kind-holds : (t : List ℕ) (v j : ℕ) → holds t v (element_width * j) ≡ false
unfolding holds
kind-holds t v j = let e : (element_width * j) % element_width ≡ 0 = omega arith in rw e

-- ---- records without a fault

whole-front : (t : List ℕ) (n m : ℕ) → WholeTable t n → m ≤ n → WholeTable t m
whole-front t n m w h = record { few = omega (arith, w.few); long = omega (arith, w.long); whole = λ k l. w.whole k (omega arith) }

-- the verdict of two records is that of the pair
pub pair_verdict : (t : List ℕ) (i j : ℕ) {a b : List ℕ} {r : Bool} → a ≡ record_at t i → b ≡ record_at t j → r ≡ fits (element_of a) (element_of b) → r ≡ pair_fits t i j
unfolding pair_fits element_at
pair_verdict t i j p q e = e ∙ ap₂ {C = Bool} (λ x y. fits (element_of x) (element_of y)) p q

pub numbered-front : (t : List ℕ) (n m : ℕ) → Numbered t n → m ≤ n → Numbered t m
numbered-front t n m w h = record {
  table = whole-front t n m w.table h;
  low = λ x l. w.low x (omega arith);
}

-- a vertex number is at most 4,096
abbrev low_number : ℕ → Bool
low_number v = leb v vertex_limit

module _ (limit : ℕ) (few : limit ≤ vertex_limit) where
  inside-low : (v : ℕ) → T (is_number limit v) → T (low_number v)
  inside-low v h = true-T (le-leb v vertex_limit (let l = leb-true v limit (T_true _ (and_right (ltb 0 v) (leb v limit) h)) in omega arith))

  zero-low : (v : ℕ) → T (eqb 0 v) → T (low_number v)
  zero-low v h = true-T (le-leb v vertex_limit (let e = eqb-true 0 v (T_true _ h) in omega arith))

  -- the numbers of a record without a fault
  faultless_low : (r : List ℕ) → Faultless limit r → (a : ℕ) → a < 8 → T (low_number (get_or r (suc a) 0))
  faultless_low r f a h =
      let e = record_parts r f.wide in
      let l : length r ≡ suc (length (used_of r ++ spare_of r)) = ap length e in
      let w = f.wide in
      subst (λ (l : List ℕ). T (low_number (get_or l (suc a) 0))) (sym e)
      (every_index low_number (used_of r ++ spare_of r) 0 a
      (every_append low_number (used_of r) (spare_of r) (every_implies (is_number limit) low_number inside-low (used_of r) f.inside) (every_implies (eqb 0) low_number zero-low (spare_of r) f.unused))
      (omega arith))

  -- a table of records without a fault
  clean-numbered : (t : List ℕ) (n : ℕ) → WholeTable t n → bad_record limit t n ≡ 0 → Numbered t n
  unfolding record_at
  clean-numbered t n w none = record { table = w; low = λ x h p. leb-true (get_or t x 0) vertex_limit (T_true _ (at_place x h p)) }
    where
      here : (x a : ℕ) → x % element_width ≡ suc a → get_or (record_at t (x / element_width)) (suc a) 0 ≡ get_or t x 0
      here x a e =
          get_or-take element_width (drop (element_width * (x / element_width)) t) (suc a) 0 (omega arith)
          ∙ get_or-drop (element_width * (x / element_width)) t (suc a) 0
          ∙ ap (λ (m : ℕ). get_or t m 0) (omega arith)

      at_place : (x : ℕ) → x < element_width * n → 0 < x % element_width → T (low_number (get_or t x 0))
      at_place x h p = go (x % element_width) refl p
        where
          go : (m : ℕ) → x % element_width ≡ m → 0 < m → T (low_number (get_or t x 0))
          go zero e l = absurd (omega arith)
          go (suc a) e l =
              subst (λ (v : ℕ). T (low_number v)) (here x a e)
              (faultless_low (record_at t (x / element_width)) (clean_faultless limit (record_at t (x / element_width)) (record_clean limit t n none (x / element_width) (omega arith))) a (omega arith))

-- what a numbered table is up to one of its elements
pub numbered-next : {t : List ℕ} {n j : ℕ} → j < n → Numbered t n → Numbered t (j + 1)
numbered-next l h = record {
  table = record { few = omega (arith, h.table.few); long = omega (arith, h.table.long); whole = λ k m. h.table.whole k (omega arith) };
  low = λ x m p. h.low x (omega arith) p;
}

-- the pairs of a table may be judged once its records are
pub recorded_numbered : (v n : ℕ) (t : List ℕ) → Recorded v n t → Numbered t n
recorded_numbered v n t h = clean-numbered v h.few t n h.table h.clean

-- ---- filing places

still : {A : Type 0} (d : A) (n i : ℕ) → get_or (replicate n d) i d ≡ d
still d zero i = refl
still d (suc n) zero = refl
still d (suc n) (suc i) = still d n i

pub filed-start : (t : List ℕ) → Filed t (element_width * 0) (replicate 4097 0) (replicate 9216 0)
unfolding latest
filed-start t = record {
  wide = length-replicate {A = ℕ} 4097 0;
  long = length-replicate {A = ℕ} 9216 0;
  first = λ v h. still 0 4097 v;
  next = λ x h l. absurd (omega arith);
}

-- a kind is passed
pub filed-kind : (t : List ℕ) (j : ℕ) {heads links : List ℕ} → Filed t (element_width * j) heads links → Filed t (element_width * j + 1) heads links
unfolding latest
filed-kind t j w = record {
  wide = w.wide;
  long = w.long;
  first = λ v h. w.first v h ∙ rw (add-one (element_width * j), kind-holds t v j);
  next = λ x h l. w.next x (below x h l) l;
}
  where
    below : (x : ℕ) → x < element_width * j + 1 → 0 < x % element_width → x < element_width * j
    below x h l = omega arith

-- a place is filed
module _ (t : List ℕ) (x : ℕ) {heads links : List ℕ} (w : Filed t x heads links) (place : 0 < x % element_width) (v : ℕ) (this : v ≡ get_or t x 0)
    (low : v ≤ vertex_limit) (early : x < element_width * element_limit)
  where
    firsts : (u : ℕ) → u ≤ vertex_limit → get_or (set heads v x) u 0 ≡ latest (holds t u) (x + 1)
    unfolding latest
    firsts u h = rw (add-one x) (go (eqb u v) refl)
      where
        go : (b : Bool) → eqb u v ≡ b → get_or (set heads v x) u 0 ≡ cond (holds t u x) x (latest (holds t u) x)
        go true e =
            let q = eqb-true u v e in
            rw (place-holds t u x place (sym (q ∙ this)), q) (get_or-set_same heads v x 0 (rw w.wide (omega arith)))
        go false e =
            let q = eqb-false u v e in
            rw (other_holds t u x place (λ r. q (sym (this ∙ r)))) (get_or-set_other heads v u x 0 q ∙ w.first u h)

    nexts : (y : ℕ) → y < x + 1 → 0 < y % element_width → get_or (set links x (get_or heads v 0)) y 0 ≡ latest (holds t (get_or t y 0)) y
    nexts y h l = go (eqb y x) refl
      where
        go : (b : Bool) → eqb y x ≡ b → get_or (set links x (get_or heads v 0)) y 0 ≡ latest (holds t (get_or t y 0)) y
        go true e =
            let q = eqb-true y x e in
            rw (q, ← this) (get_or-set_same links x (get_or heads v 0) 0 (rw w.long early) ∙ w.first v low)
        go false e =
            let q = eqb-false y x e in
            get_or-set_other links x y (get_or heads v 0) 0 q ∙ w.next y (omega arith) l

    pub filed_more : Filed t (x + 1) (set heads v x) (set links x (get_or heads v 0))
    filed_more = record {
      wide = length-set heads v x ∙ w.wide;
      long = length-set links x (get_or heads v 0) ∙ w.long;
      first = firsts;
      next = nexts;
    }

-- ---- marks

pub seen_start : (t : List ℕ) (j : ℕ) → Seen t j (replicate 1024 Unmet)
seen_start t j = record { wide = length-replicate {A = Mark} 1024 Unmet; fit = λ i h. let e = still Unmet 1024 i in cc }

-- element i is met at one more vertex
module _ (t : List ℕ) (i j : ℕ) (marks : List Mark) (m : Meeting t i j marks) where
  inside : i < length marks
  inside = rw m.seen.wide (omega (arith, m.early, m.table.few))

  -- the mark of element i becomes one of those that are met
  module _ (k : Mark) (h : is_met k ≡ true) where
    pub met-set : met (set marks i k) i ≡ true
    met-set = rw (get_or-set_same marks i k Unmet inside) h

    grown-set : Grown marks (set marks i k)
    grown-set n l = go (eqb n i) refl
      where
        go : (b : Bool) → eqb n i ≡ b → met (set marks i k) n ≡ true
        go true q = rw (eqb-true n i q) met-set
        go false q = rw (get_or-set_other marks i n k Unmet (eqb-false n i q)) l

    -- a mark of those that fit is an old one, or that of i
    seen-set : (k ≡ Fits → pair_fits t i j ≡ true) → Seen t j (set marks i k)
    seen-set f = record { wide = length-set marks i k ∙ m.seen.wide; fit = λ n l. go n l (eqb n i) refl }
      where
        go : (n : ℕ) → get_or (set marks i k) n Unmet ≡ Fits → (b : Bool) → eqb n i ≡ b → pair_fits t n j ≡ true
        go n l true q =
            let e = eqb-true n i q in
            let a = subst (λ (x : ℕ). get_or (set marks i k) x Unmet ≡ Fits) e l in
            rw e (f (sym (get_or-set_same marks i k Unmet inside) ∙ a))
        go n l false q = m.seen.fit n (sym (get_or-set_other marks i n k Unmet (eqb-false n i q)) ∙ l)

  -- for the first time
  pub met_first : get_or marks i Unmet ≡ Unmet → Met t i j marks (set marks i MetOnce) true
  met_first e = record {
    seen = seen-set MetOnce refl (λ h. cc);
    grown = grown-set MetOnce refl;
    marked = λ z. met-set MetOnce refl;
    again = λ z h. absurd (subst T (sym h ∙ ap is_met e) tt);
    bad = λ z. absurd (subst T z tt);
  }

  -- when it is known to fit
  pub met_known : get_or marks i Unmet ≡ Fits → Met t i j marks marks true
  met_known h = record {
    seen = m.seen;
    grown = λ k l. l;
    marked = λ z. ap is_met h;
    again = λ z l. m.seen.fit i h;
    bad = λ z. absurd (subst T z tt);
  }

  -- it does not fit
  pub met_bad : pair_fits t i j ≡ false → Met t i j marks marks false
  met_bad e = record {
    seen = m.seen;
    grown = λ k l. l;
    marked = λ z. absurd (subst T (sym z) tt);
    again = λ z. absurd (subst T (sym z) tt);
    bad = λ z. e;
  }

  -- it fits
  pub met_fit : pair_fits t i j ≡ true → Met t i j marks (set marks i Fits) true
  met_fit e = record {
    seen = seen-set Fits refl (λ l. e);
    grown = grown-set Fits refl;
    marked = λ z. met-set Fits refl;
    again = λ z l. e;
    bad = λ z. absurd (subst T z tt);
  }

-- ---- walking a chain

-- the places of v above x, which is one of them or 0, are those of elements that are marked, and fit where they were marked before
pub record On (t : List ℕ) (j v : ℕ) (old new : List Mark) (x : ℕ) : Type 0 where
  pub less : 0 < x → x < element_width * j
  pub here : 0 < x → holds t v x ≡ true
  pub grown : Grown old new
  pub marked : (y : ℕ) → x < y → y < element_width * j → holds t v y ≡ true → met new (y / element_width) ≡ true
  pub again : (y : ℕ) → x < y → y < element_width * j → holds t v y ≡ true → met old (y / element_width) ≡ true → pair_fits t (y / element_width) j ≡ true

module _ (t : List ℕ) (j v : ℕ) (old : List Mark) where
  pub on_start : (x : ℕ) → x ≡ latest (holds t v) (element_width * j) → On t j v old old x
  on_start x e = rw e (record {
    less = λ h. latest_less (holds t v) (element_width * j) (let l = latest-high (holds t v) (element_width * j) in omega arith);
    here = latest-passes (holds t v) (element_width * j);
    grown = λ k l. l;
    marked = λ y h l p. absurd (let k = latest_above (holds t v) (element_width * j) y l p in omega arith);
    again = λ y h l p. absurd (let k = latest_above (holds t v) (element_width * j) y l p in omega arith);
  })

  module _ (x y : ℕ) {marks new : List Mark} (w : On t j v old marks x) (h : 0 < x) {r : Bool} (m : Met t (x / element_width) j marks new r) (q : r ≡ true)
      (e : y ≡ latest (holds t v) x)
    where
      -- a place above the next one is x, or above x
      above : {P : ℕ → Type 0} → P x → ((z : ℕ) → x < z → z < element_width * j → holds t v z ≡ true → P z)
          → (z : ℕ) → latest (holds t v) x < z → z < element_width * j → holds t v z ≡ true → P z
      above {P} this rest z l n p = go (ltb z x) (eqb z x) refl refl
        where
          go : (b d : Bool) → ltb z x ≡ b → eqb z x ≡ d → P z
          go true d a c = absurd (let k = latest_above (holds t v) x z (ltb-true z x a) p in omega arith)
          go false true a c = subst P (sym (eqb-true z x c)) this
          go false false a c = let b = ltb-false z x a in let f = eqb-false z x c in rest z (omega arith) n p

      pub on_next : On t j v old new y
      on_next = rw e (record {
        less = λ l. (let a = latest_less (holds t v) x h in let b = w.less h in omega arith);
        here = latest-passes (holds t v) x;
        grown = λ k l. m.grown k (w.grown k l);
        marked = above {P = λ z. met new (z / element_width) ≡ true} (m.marked q) (λ z l n p. m.grown (z / element_width) (w.marked z l n p));
        again = above {P = λ z. met old (z / element_width) ≡ true → pair_fits t (z / element_width) j ≡ true} (λ o. m.again q (w.grown (x / element_width) o)) w.again;
      })

-- ---- one misfit, or none

pub misfit-some : (t : List ℕ) (i j : ℕ) → i < j → pair_fits t i j ≡ false → 0 < misfit t j
unfolding misfit
misfit-some t i j h e = go (misfit t j) refl
  where
    go : (m : ℕ) → misfit t j ≡ m → 0 < m
    go zero z = absurd (subst T (sym (not-false (pair_fits t i j) (least_all (λ k. not (pair_fits t k j)) j z i h)) ∙ e) tt)
    go (suc m) z = omega arith

-- ---- elements with no vertex in common

-- an index below the length, where the test passes
abbrev Index : (ℕ → Bool) → List ℕ → ℕ → Type 0
Index p l a = (a < length l) × (p (get_or l a 0) ≡ true)

kept_one : (p : ℕ → Bool) (l : List ℕ) → 0 < length (keep p l) → (a : ℕ) × Index p l a
kept_one p [] h = absurd (omega arith)
kept_one p (v ∷ l) h = go (p v) refl h (kept_one p l)
  where
    go : (b : Bool) → p v ≡ b → 0 < length (cond b (v ∷ keep p l) (keep p l)) → (0 < length (keep p l) → (a : ℕ) × Index p l a) → (a : ℕ) × Index p (v ∷ l) a
    go true e k rest = (0, (omega arith, e))
    go false e k rest = let r = rest k in (suc r.0, ((let s = r.1.0 in omega arith), r.1.1))

kept_two : (p : ℕ → Bool) (l : List ℕ) → 1 < length (keep p l) → (a : ℕ) × (b : ℕ) × (a < b) × Index p l a × Index p l b
kept_two p [] h = absurd (omega arith)
kept_two p (v ∷ l) h = go (p v) refl h (kept_two p l)
  where
    go : (d : Bool) → p v ≡ d → 1 < length (cond d (v ∷ keep p l) (keep p l)) → (1 < length (keep p l) → (a : ℕ) × (b : ℕ) × (a < b) × Index p l a × Index p l b)
        → (a : ℕ) × (b : ℕ) × (a < b) × Index p (v ∷ l) a × Index p (v ∷ l) b
    go true e k rest =
        let r = kept_one p l (omega arith) in
        (0, suc r.0, omega arith, (omega arith, e), ((let s = r.1.0 in omega arith), r.1.1))
    go false e k rest =
        let r = rest k in
        let i = r.3 in
        let n = r.4 in
        (suc r.0, suc r.1, (let s = r.2 in omega arith), ((let s = i.0 in omega arith), i.1), ((let s = n.0 in omega arith), n.1))

among_index : (v : ℕ) (l : List ℕ) → among v l ≡ true → (b : ℕ) × (b < length l) × (v ≡ get_or l b 0)
among_index v [] e = absurd (subst T (sym e) tt)
among_index v (w ∷ l) e = go (eqb v w) refl e (among_index v l)
  where
    go : (d : Bool) → eqb v w ≡ d → (d || among v l) ≡ true → (among v l ≡ true → (b : ℕ) × (b < length l) × (v ≡ get_or l b 0))
        → (b : ℕ) × (b < length (w ∷ l)) × (v ≡ get_or (w ∷ l) b 0)
    go true q k rest = (0, omega arith, eqb-true v w q)
    go false q k rest = let r = rest k in (suc r.0, (let s = r.1 in omega arith), r.2)

-- different numbers stand at different indices
apart_get_d : (l : List ℕ) (a c : ℕ) → T (distinct l) → a < c → c < length l → get_or l a 0 ≡ get_or l c 0 → ⊥
apart_get_d [] a c d h m e = omega arith
apart_get_d (v ∷ l) zero zero d h m e = omega arith
apart_get_d (v ∷ l) zero (suc c) d h m e =
    not_in v l d (subst (λ (x : ℕ). T (among x l)) (sym e) (at-among l (suc c) (true-T (lt-ltb c (length l) (omega arith)))))
apart_get_d (v ∷ l) (suc a) zero d h m e = omega arith
apart_get_d (v ∷ l) (suc a) (suc c) d h m e = apart_get_d l a c (distinct_cons v l d).1 (omega arith) (omega arith) e

-- a corner of element i stands at a place of the table
used_place : (t : List ℕ) (i a : ℕ) → a < kind_of (record_at t i) → a < 8 → get_or (used_of (record_at t i)) a 0 ≡ get_or t (element_width * i + (a + 1)) 0
unfolding used_of numbers_of record_at
used_place t i a h l =
    get_or-take (kind_of (record_at t i)) (take 8 (drop 1 (take element_width (drop (element_width * i) t)))) a 0 h
    ∙ get_or-take 8 (drop 1 (take element_width (drop (element_width * i) t))) a 0 l
    ∙ get_or-drop 1 (take element_width (drop (element_width * i) t)) a 0
    ∙ get_or-take element_width (drop (element_width * i) t) (1 + a) 0 (omega arith)
    ∙ get_or-drop (element_width * i) t (1 + a) 0
    ∙ ap (λ (n : ℕ). get_or t (element_width * i + n) 0) (omega arith)

-- a corner of element j
abbrev pub corner_of : List ℕ → ℕ → ℕ → ℕ
corner_of t j a = get_or (used_of (record_at t j)) a 0

-- its number is low
pub corner-low : (t : List ℕ) (j a : ℕ) → Numbered t (j + 1) → a < length (used_of (record_at t j)) → corner_of t j a ≤ vertex_limit
corner-low t j a n h =
    let l = used_length (record_at t j) (n.table.whole j (omega arith)) in
    let k = kind-small (kind_of (record_at t j)) (n.table.whole j (omega arith)).kind in
    rw (used_place t j a (omega arith) (omega arith)) (n.low (element_width * j + (a + 1)) (omega arith) (omega arith))

-- two elements that do not fit have two vertices in common
module _ (t : List ℕ) (i j : ℕ) (e : pair_fits t i j ≡ false) where
  many-common : 1 < length (common (element_at t i) (element_at t j))
  unfolding pair_fits fits
  many-common = go (leb (length (common (element_at t i) (element_at t j))) 1) _ refl e
    where
      go : (b d : Bool) → leb (length (common (element_at t i) (element_at t j))) 1 ≡ b → (b || d) ≡ false → 1 < length (common (element_at t i) (element_at t j))
      go true d q z = absurd (subst T z tt)
      go false d q z = let l = leb-false (length (common (element_at t i) (element_at t j))) 1 q in omega arith

-- where element j fits each element that holds two of its vertices, it fits each element before it
module _ (t : List ℕ) (j : ℕ) (w : WholeTable t (j + 1))
    (all : (b d : ℕ) → b < d → d < length (used_of (record_at t j)) → (x y : ℕ) → x < element_width * j → y < element_width * j → x / element_width ≡ y / element_width
    → holds t (corner_of t j b) x ≡ true → holds t (corner_of t j d) y ≡ true → pair_fits t (y / element_width) j ≡ true)
  where
    -- a corner of element i that stands at a corner of element j
    record Common (i a b : ℕ) : Type 0 where
      mine : a < length (used_of (record_at t i))
      theirs : b < length (used_of (record_at t j))
      same : get_or (used_of (record_at t i)) a 0 ≡ get_or (used_of (record_at t j)) b 0

    -- its place in the table
    record Found (i a b : ℕ) : Type 0 where
      early : element_width * i + (a + 1) < element_width * j
      whose : (element_width * i + (a + 1)) / element_width ≡ i
      stands : holds t (corner_of t j b) (element_width * i + (a + 1)) ≡ true

    found : (i a b : ℕ) → i < j → Common i a b → Found i a b
    found i a b h m =
        let l : a < length (used_of (record_at t i)) = m.mine in
        let p = used_length (record_at t i) (w.whole i (omega arith)) in
        let k = kind-small (kind_of (record_at t i)) (w.whole i (omega arith)).kind in
        let here = used_place t i a (omega arith) (omega arith) in
        record {
          early = omega arith;
          whose = omega arith;
          stands = place-holds t (corner_of t j b) (element_width * i + (a + 1)) (omega arith) (sym here ∙ m.same);
        }

    -- two corners of element i that stand at corners of element j, the first at the lower place
    ordered : (i a b c d : ℕ) → i < j → Common i a b → Common i c d → b < d → pair_fits t i j ≡ true
    ordered i a b c d h m n l =
        let f = found i a b h m in
        let g = found i c d h n in
        rw g.whose at
        (all b d l n.theirs (element_width * i + (a + 1)) (element_width * i + (c + 1)) f.early g.early (f.whose ∙ sym g.whose) f.stands g.stands)

    either : (i a b c d : ℕ) → i < j → a < c → Common i a b → Common i c d → pair_fits t i j ≡ true
    either i a b c d h l m n = go (ltb b d) (ltb d b) refl refl
      where
        go : (e f : Bool) → ltb b d ≡ e → ltb d b ≡ f → pair_fits t i j ≡ true
        go true f p q = ordered i a b c d h m n (ltb-true b d p)
        go false true p q = ordered i c d a b h n m (ltb-true d b q)
        go false false p q =
            let x = ltb-false b d p in
            let y = ltb-false d b q in
            let z : b ≡ d = omega arith in
            let s : get_or (used_of (record_at t i)) a 0 ≡ get_or (used_of (record_at t i)) c 0 = m.same ∙ ap (λ (k : ℕ). get_or (used_of (record_at t j)) k 0) z ∙ sym n.same in
            absurd (apart_get_d (used_of (record_at t i)) a c (w.whole i (omega arith)).apart l n.mine s)

    fits_each : (i : ℕ) → i < j → pair_fits t i j ≡ true
    unfolding element_at element_of
    fits_each i h = go (pair_fits t i j) refl
      where
        go : (b : Bool) → pair_fits t i j ≡ b → pair_fits t i j ≡ true
        go true e = e
        go false e =
            let r = kept_two (λ v. among v (used_of (record_at t j))) (used_of (record_at t i)) (many-common t i j e) in
            let a = r.3 in
            let c = r.4 in
            let b = among_index (get_or (used_of (record_at t i)) r.0 0) (used_of (record_at t j)) a.1 in
            let d = among_index (get_or (used_of (record_at t i)) r.1 0) (used_of (record_at t j)) c.1 in
            either i r.0 b.0 r.1 d.0 h r.2
            (record { mine = a.0; theirs = b.1; same = b.2 }) (record { mine = c.0; theirs = d.1; same = d.2 })

    pub misfit-none : misfit t j ≡ 0
    unfolding misfit
    misfit-none = least-none (λ i. not (pair_fits t i j)) j (λ i h. ap not (fits_each i h))
