-- Tables with their records in another order: accepted exactly if they were, and cut into the same blocks in the new order.
-- Assumes nothing.
use mathlib.Core.Path.{◌≡◌, refl, sym, ap, subst, ◌∙◌}
use mathlib.Core.Bool.{Bool, true, false, ◌&&◌}
use mathlib.Core.List.{List, [], ◌∷◌}
use mathlib.Core.Logic.{◌⊎◌, inl, inr}
use Prim.Native.Nat.{ℕ, suc, ◌*◌, ◌≤◌, ◌<◌}
use native.Mathlib.Omega.{arith}
use lib.Dec.{T, eqb, ltb, eqb→eq, ltb→lt}
use lib.ListN.{length, get_or, drop, length-append, length-drop, length-map, get_or-map}
use borrow.Author.Tests.{eq-eqb}
use Rattle.limits.specs.Limits.{tetrahedron_width, element_width}
use Rattle.laws.specs.Words.{every, among, distinct, gather}
use Rattle.laws.specs.Lent.{laid}
use Rattle.laws.proofs.TestLaws.{and_left, and_right, true-T}
use Rattle.laws.proofs.EveryLaws.{every_index, every_implies}
use Rattle.faults.specs.declared.Fault.TheVariants.{Room}
use Rattle.std.specs.Prelude.{Ok}
use Rattle.faults.specs.Refusals.{accepted, refuse, refuse_if, and_then}
use Rattle.solids.specs.Solids.{Vertex, Tet, Element}
use Rattle.solids.specs.Cut.{cut_mesh}
use Rattle.solids.specs.Fit.{proper, fitting}
use Rattle.solids.specs.Listings.{is_order, picked}
use Rattle.solids.proofs.SetLaws.{among_cases}
use Rattle.solids.proofs.SideLaws.{bool_iff}
use Rattle.solids.proofs.Theorems.{order_names, reordered-fitting, reordered-many, reordered-cut}
use Rattle.records.specs.Record.{element_of, record_finding, record_at, element_at, first_elements}
use Rattle.records.proofs.Theorems.{record_length, first-length, first-at, first_are, gathered_length, gathered_at}
use Rattle.judging.specs.Judge.{judged}
use Rattle.judging.specs.Acceptance.{Acceptable}
use Rattle.mesh.specs.Cutting.{flat, cut_of}
use Rattle.signs.specs.Signs.{is_accepted}
use Rattle.judging.proofs.AcceptanceLaws.{clean-proper, acceptable_proper}
use Rattle.judging.proofs.Theorems.{accepted-elements, accepted_acceptable, acceptable_accepted}
use Rattle.promises.specs.Tables.{TableReordered, reordered, blocks_in_order}
use Rattle.promises.proofs.AnswerLaws.{is-accepted, DoneCut}

-- ---- an order

-- a number of a list stands at an index
named_at : (l : List ℕ) (v : ℕ) → T (among v l) → (i : ℕ) × (i < length l) × (get_or l i 0 ≡ v)
named_at [] v h = absurd h
named_at (w ∷ l) v h = go (among_cases v w l h) (named_at l v)
  where
    go : (v ≡ w) ⊎ T (among v l) → (T (among v l) → (i : ℕ) × (i < length l) × (get_or l i 0 ≡ v)) → (i : ℕ) × (i < suc (length l)) × (get_or (w ∷ l) i 0 ≡ v)
    go (inl e) rest = (0, omega arith, sym e)
    go (inr k) rest = let r = rest k in (suc r.0, (let b = r.1 in omega arith), r.2)

module _ (n : ℕ) (σ : List ℕ) (o : T (is_order n σ)) where
  order-long : length σ ≡ n
  order-long = eqb→eq (length σ) n (and_left (eqb (length σ) n) (every (λ i. ltb i n) σ && distinct σ) o)

  order_all : T (every (λ i. ltb i n) σ)
  order_all = and_left (every (λ i. ltb i n) σ) (distinct σ) (and_right (eqb (length σ) n) (every (λ i. ltb i n) σ && distinct σ) o)

  order-at : (k : ℕ) → k < n → get_or σ k 0 < n
  order-at k h = ltb→lt (get_or σ k 0) n (every_index (λ i. ltb i n) σ 0 k order_all (subst (λ (m : ℕ). k < m) (sym order-long) h))

  -- each number below n stands at an index below n
  order_from : (k : ℕ) → k < n → (i : ℕ) × (i < n) × (get_or σ i 0 ≡ k)
  order_from k h = let r = named_at σ k (order_names n σ o k h) in (r.0, subst (λ (m : ℕ). r.0 < m) order-long r.1, r.2)

-- ---- a reordered table

module _ (n : ℕ) (σ t t' : List ℕ) (w : TableReordered n σ t t') where
  abbrev d : Element
  d = element_at t 0

  element-reordered : (k : ℕ) → k < n → element_at t' k ≡ element_at t (get_or σ k 0)
  unfolding element_at
  element-reordered k h = ap element_of (w.each k h)

  -- its elements are the table's in the new order
  pub elements-reordered : first_elements t' n ≡ picked d σ (first_elements t n)
  elements-reordered =
      first_are t' n (get_or (first_elements t n) 0 d) (picked d σ (first_elements t n)) (length-map σ (λ i. get_or (first_elements t n) i d) ∙ order-long n σ w.order)
      (λ k h. element-reordered k h ∙ sym (first-at t n (get_or σ k 0) d (order-at n σ w.order k h)) ∙ sym (get_or-map (λ i. get_or (first_elements t n) i d) σ k 0))

  order-elements : T (is_order (length (first_elements t n)) σ)
  order-elements = subst (λ (m : ℕ). T (is_order m σ)) (sym (first-length t n)) w.order

  clean_there : (v : ℕ) → ((k : ℕ) → k < n → record_finding v (record_at t k) ≡ Ok tt) → (k : ℕ) → k < n → record_finding v (record_at t' k) ≡ Ok tt
  clean_there v c k h = ap (record_finding v) (w.each k h) ∙ c (get_or σ k 0) (order-at n σ w.order k h)

  clean_home : (v : ℕ) → ((k : ℕ) → k < n → record_finding v (record_at t' k) ≡ Ok tt) → (k : ℕ) → k < n → record_finding v (record_at t k) ≡ Ok tt
  clean_home v c k h =
      let r = order_from n σ w.order k h in
      ap (λ (i : ℕ). record_finding v (record_at t i)) (sym r.2) ∙ ap (record_finding v) (sym (w.each r.0 r.1)) ∙ c r.0 r.1

  fitting_alike : T (every proper (first_elements t n)) → fitting (first_elements t' n) ≡ fitting (first_elements t n)
  fitting_alike p = ap fitting elements-reordered ∙ reordered-fitting d (first_elements t n) σ order-elements p

  module _ (v : ℕ) where
    acceptable_there : Acceptable v n t → Acceptable v n t'
    acceptable_there a = record {
      vertices = a.vertices;
      elements = a.elements;
      long = subst (λ (m : ℕ). element_width * n ≤ m) (sym w.long) a.long;
      clean = clean_there v a.clean;
      fit = subst T (sym (fitting_alike (acceptable_proper v n t a))) a.fit;
    }

    acceptable_home : Acceptable v n t' → Acceptable v n t
    acceptable_home a =
        let long : element_width * n ≤ length t = subst (λ (m : ℕ). element_width * n ≤ m) w.long a.long in
        let clean = clean_home v a.clean in
        record {
          vertices = a.vertices;
          elements = a.elements;
          long = long;
          clean = clean;
          fit = subst T (fitting_alike (clean-proper v n t a.elements long clean)) a.fit;
        }

    pub reordered_there : (es : List Element) → judged v n t ≡ accepted es → judged v n t' ≡ accepted (first_elements t' n)
    reordered_there es e = acceptable_accepted v n t' (acceptable_there (accepted_acceptable v n t es e))

    pub reordered_home : (es : List Element) → judged v n t' ≡ accepted es → judged v n t ≡ accepted (first_elements t n)
    reordered_home es e = acceptable_accepted v n t (acceptable_home (accepted_acceptable v n t' es e))

    -- accepted exactly if it was
    pub reordered-accepted : is_accepted (judged v n t') ≡ is_accepted (judged v n t)
    reordered-accepted =
        bool_iff (is_accepted (judged v n t')) (is_accepted (judged v n t))
        (λ h. let r = is-accepted (judged v n t') h in true-T (ap is_accepted (reordered_home r.0 r.1)))
        (λ h. let r = is-accepted (judged v n t) h in true-T (ap is_accepted (reordered_there r.0 r.1)))

  -- the cut of its elements: the same blocks in the new order, as many tetrahedra
  pub cut-reordered : cut_mesh (first_elements t' n) ≡ blocks_in_order σ (first_elements t n)
  unfolding blocks_in_order
  cut-reordered = ap cut_mesh elements-reordered ∙ reordered-cut d (first_elements t n) σ order-elements

  pub many-reordered : length (cut_mesh (first_elements t' n)) ≡ length (cut_mesh (first_elements t n))
  many-reordered = ap (λ (l : List Element). length (cut_mesh l)) elements-reordered ∙ reordered-many d (first_elements t n) σ order-elements

  -- an accepted table: the cut is refused for its room, or is the same blocks in the new order
  pub reordered_blocks : (v : ℕ) (es : List Element) → judged v n t ≡ accepted es → (room : ℕ)
      → cut_of v n t' room ≡ (and_then (cut_of v n t room) λ ts. accepted (blocks_in_order σ es))
  unfolding cut_of
  reordered_blocks v es e room =
      rw (reordered_there v es e, e, many-reordered, cut-reordered, ← accepted-elements v n t es e) (go (ltb room (tetrahedron_width * length (cut_mesh es))))
    where
      go : (b : Bool) → refuse_if b (refuse Room 0) (accepted (blocks_in_order σ es))
          ≡ (and_then (refuse_if b (refuse Room 0) (accepted (cut_mesh es))) λ ts. accepted (blocks_in_order σ es))
      go true = refl
      go false = refl

  -- a cut of the one that is done is done of the other, with the same blocks in the new order
  module _ (v : ℕ) (old : List ℕ) (many : ℕ) (new : List ℕ) where
    pub done_there : DoneCut v n t old many new → DoneCut v n t' old many (laid (flat (blocks_in_order σ (first_elements t n))) old)
    done_there d =
        record {
          cuts = record {
            elements = reordered_there v (first_elements t n) d.cuts.elements;
            fits = subst (λ (k : ℕ). tetrahedron_width * k ≤ length old) (sym many-reordered) d.cuts.fits;
          };
          many = d.many ∙ sym many-reordered;
          output = ap (λ (ts : List (Tet Vertex)). laid (flat ts) old) (sym cut-reordered);
        }

    pub done_home : DoneCut v n t' old many new → DoneCut v n t old many (laid (flat (cut_mesh (first_elements t n))) old)
    done_home d =
        record {
          cuts = record {
            elements = reordered_home v (first_elements t' n) d.cuts.elements;
            fits = subst (λ (k : ℕ). tetrahedron_width * k ≤ length old) many-reordered d.cuts.fits;
          };
          many = d.many ∙ many-reordered;
          output = refl;
        }

-- ---- there is such a table, for every order of the records that a table holds

module _ (n : ℕ) (σ t : List ℕ) (o : T (is_order n σ)) (long : element_width * n ≤ length t) where
  all_wide : T (every (λ i. eqb (length (record_at t i)) element_width) σ)
  all_wide =
      every_implies (λ i. ltb i n) (λ i. eqb (length (record_at t i)) element_width)
      (λ i h. true-T (eq-eqb (length (record_at t i)) element_width (record_length t n i long (ltb→lt i n h)))) σ (order_all n σ o)

  pub reordered-table : TableReordered n σ t (reordered σ t)
  unfolding reordered laid
  reordered-table =
      record {
        order = o;
        long =
            let a = gathered_length (record_at t) σ all_wide in
            let b = order-long n σ o in
            simp (length-append, length-drop) (omega arith);
        each = λ k h.
            gathered_at (record_at t) 0 σ (drop (length (gather (record_at t) σ)) t) k all_wide (subst (λ (m : ℕ). k < m) (sym (order-long n σ o)) h);
      }
