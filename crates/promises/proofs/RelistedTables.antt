-- Tables in which any records are relisted by rotations: they are judged and cut alike, refusals included.
-- Assumes nothing.
use mathlib.Core.Path.{◌≡◌, refl, sym, ap, ap₂, subst, ◌∙◌}
use mathlib.Core.Bool.{Bool, true, false, cond, not, ◌&&◌, ◌||◌}
use mathlib.Core.List.{List, [], ◌∷◌, ◌++◌, map, append-nil}
use mathlib.Core.Logic.{◌⊎◌, inl, inr}
use Prim.Native.Nat.{ℕ, zero, suc, ◌+◌, ◌*◌, pred, ◌<◌}
use native.Mathlib.Omega.{arith}
use lib.Dec.{T, eqb, ltb, eqb→eq}
use lib.IntN.{ℤ}
use lib.ListN.{length, length-map}
use Rattle.mesh.specs.declared.CutCounts.{CutCounts}
use Rattle.signs.specs.declared.SignCounts.{SignCounts}
use Rattle.std.specs.Prelude.{Result}
use borrow.Author.Tests.{eq-eqb, ltb-true, ltb-false}
use Rattle.limits.specs.Limits.{element_limit, tetrahedron_width, vertex_limit, element_width}
use Rattle.laws.specs.Words.{count, every, some, among, distinct}
use Rattle.laws.specs.Lent.{laid}
use Rattle.laws.proofs.TestLaws.{and_left, and_right, and_both, or_cases, or_left, or_right}
use Rattle.laws.proofs.SearchLaws.{least_cong, least-most}
use Rattle.faults.specs.declared.Fault.TheVariants.{Many, Room}
use Rattle.std.specs.Prelude.{Result}
use Rattle.faults.specs.declared.Fault.{Fault}
use Rattle.faults.specs.declared.Refusal.{Refusal}
use Rattle.faults.specs.Refusals.{Verdict, accepted, refused, refuse, refuse_pair, refuse_if, and_then, records_of, answer_of}
use Rattle.solids.specs.declared.Solid.{Solid}
use Rattle.solids.specs.Solids.{Vertex, Tet, Element, element, corners, at, corners_of}
use Rattle.solids.specs.Rotations.{is_reordering, keeps_faces, is_rotation}
use Rattle.solids.specs.Cut.{cut, cut_mesh}
use Rattle.solids.specs.Fit.{proper, fits, fitting}
use Rattle.solids.specs.Listings.{Relists, as_it_was, by_rotation, Relisting, none, next}
use Rattle.solids.proofs.SetLaws.{Sub, among_first, among_later, among_cases}
use Rattle.solids.proofs.SideLaws.{bool_iff}
use Rattle.solids.proofs.RelistingLaws.{alike_there, alike_home}
use Rattle.solids.proofs.Theorems.{proper-relisted, relisting_fitting, relisting_cut}
use Rattle.records.specs.Record.{used_of, element_of, record_finding, record_at, element_at, first_elements}
use Rattle.tables.specs.JudgedRecords.{is_fault, fault_in, bad_record}
use Rattle.judging.specs.Judge.{pair_fits, misfit, bad_element, judged, JudgeDone}
use Rattle.mesh.specs.Cutting.{flat, cut_of, CutDone}
use Rattle.vertices.specs.Vertices.{vertices_judged}
use Rattle.signs.specs.Signs.{sound, sign_counts, signs_of, SignDone, is_accepted}
use Rattle.tables.proofs.CleanRecordLaws.{record_clean}
use Rattle.judging.proofs.TableVerdictLaws.{judged_by_tests}
use Rattle.judging.proofs.AcceptanceLaws.{clean-proper}
use Rattle.records.proofs.Theorems.{first-each}
use Rattle.promises.specs.Tables.{RecordRelisted, TableRelisted}
use Rattle.promises.proofs.AnswerLaws.{never_both}

-- ---- the corners of a relisted element: the same numbers, as different as they were

some-among : (P : ℕ → Bool) (v : ℕ) → T (P v) → (m : List ℕ) → T (among v m) → T (some P m)
some-among P v p [] h = absurd h
some-among P v p (w ∷ m) h = go (among_cases v w m h) (some-among P v p m)
  where
    go : (v ≡ w) ⊎ T (among v m) → (T (among v m) → T (some P m)) → T (P w || some P m)
    go (inl e) rest = or_left (P w) (some P m) (subst (λ (x : ℕ). T (P x)) e p)
    go (inr k) rest = or_right (P w) (some P m) (rest k)

some_sub : (P : ℕ → Bool) (l m : List ℕ) → Sub l m → T (some P l) → T (some P m)
some_sub P [] m s h = absurd h
some_sub P (v ∷ l) m s h = go (or_cases (P v) (some P l) h) (some_sub P l m (λ w k. s w (among_later w v l k)))
  where
    go : T (P v) ⊎ T (some P l) → (T (some P l) → T (some P m)) → T (some P m)
    go (inl p) rest = some-among P v p m (s v (among_first v l))
    go (inr k) rest = rest k

relists_some : (P : ℕ → Bool) {e x : Element} → Relists e x → some P (corners_of x) ≡ some P (corners_of e)
relists_some P (as_it_was p) = ap (λ (y : Element). some P (corners_of y)) p
relists_some P {e = element s vs} (by_rotation ρ r m p) =
    ap (λ (y : Element). some P (corners_of y)) p
    ∙ bool_iff (some P (map (at vs) ρ)) (some P vs)
    (some_sub P (map (at vs) ρ) vs (alike_home s vs m ρ r).there)
    (some_sub P vs (map (at vs) ρ) (alike_there s vs m ρ r).there)

pub rotation_long : (s : Solid) (ρ : List ℕ) → T (is_rotation s ρ) → length ρ ≡ corners s
rotation_long s ρ r =
    eqb→eq (length ρ) (corners s)
    (and_left (eqb (length ρ) (corners s)) _ (and_left (is_reordering s ρ) (keeps_faces s ρ) r))

after-true : {a b c d : Bool} → a ≡ true → b ≡ true → (a && c) ≡ (b && d) → c ≡ d
after-true {c} {d} p q e = ap (λ (x : Bool). x && c) (sym p) ∙ e ∙ ap (λ (x : Bool). x && d) q

relists_distinct : {e x : Element} → Relists e x → distinct (corners_of x) ≡ distinct (corners_of e)
relists_distinct (as_it_was p) = ap (λ (y : Element). distinct (corners_of y)) p
relists_distinct {e = element s vs} (by_rotation ρ r m p) =
    ap (λ (y : Element). distinct (corners_of y)) p
    ∙ after-true
    (eq-eqb (length (map (at vs) ρ)) (corners s) (length-map ρ (at vs) ∙ rotation_long s ρ r))
    (eq-eqb (length vs) (corners s) m) (proper-relisted s vs m ρ r)

-- ---- a relisted record has the same first fault

module _ (r r' : List ℕ) (w : RecordRelisted r r') where
  used_some : (P : ℕ → Bool) → some P (used_of r') ≡ some P (used_of r)
  unfolding element_of
  used_some P = relists_some P w.corners

  used_distinct : distinct (used_of r') ≡ distinct (used_of r)
  unfolding element_of
  used_distinct = relists_distinct w.corners

  pub finding_relisted : (limit : ℕ) → record_finding limit r' ≡ record_finding limit r
  unfolding record_finding
  finding_relisted limit = rw (w.long, w.kind, w.unused, used_some, used_distinct)

-- ---- a relisted table

-- two that fit, as a mesh of two
pair_fitting : (e x : Element) → fitting (e ∷ (x ∷ [])) ≡ fits e x
unfolding fitting
pair_fitting e x = go (fits e x)
  where
    go : (b : Bool) → ((b && true) && true) ≡ b
    go true = refl
    go false = refl

-- one element more
relisting_more : {es xs : List Element} {e x : Element} → Relisting es xs → Relists e x → Relisting (es ++ (e ∷ [])) (xs ++ (x ∷ []))
relisting_more none a = next a none
relisting_more (next b l) a = next b (relisting_more l a)

-- its elements are the table's, each as it was or relisted
module _ (n : ℕ) (t t' : List ℕ) (w : TableRelisted n t t') where
  element-relisted : (k : ℕ) → k < n → Relists (element_at t k) (element_at t' k)
  unfolding element_at
  element-relisted k h = (w.each k h).corners

relisting_first : (t t' : List ℕ) (n : ℕ) → ((k : ℕ) → k < n → Relists (element_at t k) (element_at t' k)) → Relisting (first_elements t n) (first_elements t' n)
unfolding first_elements
relisting_first t t' zero h = none
relisting_first t t' (suc n) h = relisting_more (relisting_first t t' n (λ k b. h k (omega arith))) (h n (omega arith))

-- a relisted element has the identical cut, so it is as sound as it was
pub relists_cut : {e x : Element} → Relists e x → T (proper e) → cut x ≡ cut e
unfolding cut_mesh
relists_cut {e} {x} a p =
    sym (append-nil (cut x)) ∙ relisting_cut (next a none) (and_both (proper e) true p tt) ∙ append-nil (cut e)

-- as many unsound elements, and the same four counts
unsound-relisted : (table : List ℤ) {es xs : List Element} → Relisting es xs → T (every proper es)
    → count (λ e. not (sound table (cut e))) xs ≡ count (λ e. not (sound table (cut e))) es
unsound-relisted table none p = refl
unsound-relisted table {es = e ∷ es} (next a l) p =
    ap₂ {C = ℕ} (λ (ts : List (Tet Vertex)) (k : ℕ). cond (not (sound table ts)) 1 0 + k) (relists_cut a (and_left (proper e) (every proper es) p))
    (unsound-relisted table l (and_right (proper e) (every proper es) p))

counts_relisted : (table : List ℤ) {es xs : List Element} → Relisting es xs → T (every proper es) → sign_counts table xs ≡ sign_counts table es
unfolding sign_counts
counts_relisted table l p = rw (relisting_cut l p, unsound-relisted table l p)

-- after one verdict, two ways that go on alike
then_alike : {A B : Type 0} (x : Verdict A) (f g : A → Verdict B) → ((a : A) → f a ≡ g a) → and_then x f ≡ and_then x g
then_alike (accepted a) f g h = h a
then_alike (refused r) f g h = refl

-- two tests of a table that are passed or refused alike, before what comes next
alike : {A B : Type 0} (f : A → Verdict B) (b b' : Bool) (r r' : Refusal) (x x' : Verdict A) → b' ≡ b → (b ≡ true → r' ≡ r)
    → (b ≡ false → and_then x' f ≡ and_then x f) → and_then (refuse_if b' r' x') f ≡ and_then (refuse_if b r x) f
alike {B} f b b' r r' x x' e p q = ap (λ (c : Bool). and_then (refuse_if c r' x') f) e ∙ go b p q
  where
    go : (b : Bool) → (b ≡ true → r' ≡ r) → (b ≡ false → and_then x' f ≡ and_then x f) → and_then (refuse_if b r' x') f ≡ and_then (refuse_if b r x) f
    go true p q = ap {B = Verdict B} (λ y. refused y) (p refl)
    go false p q = q refl

-- a verdict without its values
plainly : {A : Type 0} (x : Verdict A) → is_accepted (and_then {B = List ℕ} x (λ y. accepted [])) ≡ is_accepted x
plainly (accepted y) = refl
plainly (refused r) = refl

refused_plainly : {A : Type 0} (x : Verdict A) (r : Refusal) → and_then {B = List ℕ} x (λ y. accepted []) ≡ refused r → x ≡ refused r
refused_plainly (accepted y) r e = absurd (never_both e)
refused_plainly (refused q) r e = let z : q ≡ r = cc in ap refused z

module _ (v n : ℕ) where
  -- the verdict from each of its tests on
  abbrev pairs_of : List ℕ → Verdict (List Element)
  pairs_of t = refuse_if (ltb 0 (bad_element t n)) (refuse_pair (bad_element t n) (misfit t (pred (bad_element t n)))) (accepted (first_elements t n))

  abbrev faults_of : List ℕ → Verdict (List Element)
  faults_of t = refuse_if (ltb 0 (bad_record v t n)) (refuse (fault_in (record_finding v (record_at t (pred (bad_record v t n))))) (bad_record v t n)) (pairs_of t)

  abbrev length_of : List ℕ → Verdict (List Element)
  length_of t = refuse_if (ltb (length t) (element_width * n)) (refuse Room 0) (faults_of t)

  abbrev many_of : List ℕ → Verdict (List Element)
  many_of t = refuse_if (ltb element_limit n) (refuse Many 0) (length_of t)

  whole-verdict : (t : List ℕ) → judged v n t ≡ refuse_if (ltb vertex_limit v) (refuse Many 0) (many_of t)
  whole-verdict t = judged_by_tests v n t

  module _ (t t' : List ℕ) (w : TableRelisted n t t') where
    -- the first record at fault is the same, with the same fault
    finding_alike : (k : ℕ) → k < n → record_finding v (record_at t' k) ≡ record_finding v (record_at t k)
    finding_alike k h = finding_relisted (record_at t k) (record_at t' k) (w.each k h) v

    bad_record_alike : bad_record v t' n ≡ bad_record v t n
    unfolding bad_record
    bad_record_alike =
        least_cong (λ k. is_fault (record_finding v (record_at t' k))) (λ k. is_fault (record_finding v (record_at t k))) n (λ k h. ap is_fault (finding_alike k h))

    bad_record_below : 0 < bad_record v t n → pred (bad_record v t n) < n
    unfolding bad_record
    bad_record_below h = let m = least-most (λ k. is_fault (record_finding v (record_at t k))) n in omega arith

    record_refusal : 0 < bad_record v t n
        → refuse (fault_in (record_finding v (record_at t' (pred (bad_record v t' n))))) (bad_record v t' n)
        ≡ refuse (fault_in (record_finding v (record_at t (pred (bad_record v t n))))) (bad_record v t n)
    record_refusal h =
        ap (λ (k : ℕ). refuse (fault_in (record_finding v (record_at t' (pred k)))) k) bad_record_alike
        ∙ ap (λ (f : Result (Unit {0}) Fault). refuse (fault_in f) (bad_record v t n)) (finding_alike (pred (bad_record v t n)) (bad_record_below h))

    -- where no record is at fault, the first pair that does not fit is the same
    module _ (all : T (every proper (first_elements t n))) where
      proper-at : (k : ℕ) → k < n → T (proper (element_at t k))
      proper-at = first-each t proper n all

      pair_alike : (i j : ℕ) → i < n → j < n → pair_fits t' i j ≡ pair_fits t i j
      unfolding pair_fits
      pair_alike i j a b =
          sym (pair_fitting (element_at t' i) (element_at t' j))
          ∙ relisting_fitting (next (element-relisted n t t' w i a) (next (element-relisted n t t' w j b) none))
          (and_both (proper (element_at t i)) (proper (element_at t j) && true) (proper-at i a) (and_both (proper (element_at t j)) true (proper-at j b) tt))
          ∙ pair_fitting (element_at t i) (element_at t j)

      misfit_alike : (j : ℕ) → j < n → misfit t' j ≡ misfit t j
      unfolding misfit
      misfit_alike j h =
          least_cong (λ i. not (pair_fits t' i j)) (λ i. not (pair_fits t i j)) j (λ i k. ap not (pair_alike i j (omega arith) h))

      bad_element_alike : bad_element t' n ≡ bad_element t n
      unfolding bad_element
      bad_element_alike = least_cong (λ j. ltb 0 (misfit t' j)) (λ j. ltb 0 (misfit t j)) n (λ j h. ap (ltb 0) (misfit_alike j h))

      bad_element_below : 0 < bad_element t n → pred (bad_element t n) < n
      unfolding bad_element
      bad_element_below h = let m = least-most (λ j. ltb 0 (misfit t j)) n in omega arith

      pair_refusal : 0 < bad_element t n
          → refuse_pair (bad_element t' n) (misfit t' (pred (bad_element t' n))) ≡ refuse_pair (bad_element t n) (misfit t (pred (bad_element t n)))
      pair_refusal h =
          ap (λ (j : ℕ). refuse_pair j (misfit t' (pred j))) bad_element_alike
          ∙ ap (refuse_pair (bad_element t n)) (misfit_alike (pred (bad_element t n)) (bad_element_below h))

    -- judged alike, whatever is made of the elements, if it is made of both alike
    pub relisted_then : {B : Type 0} (f : List Element → Verdict B)
        → (T (every proper (first_elements t n)) → Relisting (first_elements t n) (first_elements t' n) → f (first_elements t' n) ≡ f (first_elements t n))
        → and_then (judged v n t') f ≡ and_then (judged v n t) f
    relisted_then {B} f same =
        ap (λ (x : Verdict (List Element)). and_then x f) (whole-verdict t')
        ∙ alike f (ltb vertex_limit v) (ltb vertex_limit v) (refuse Many 0) (refuse Many 0) (many_of t) (many_of t') refl (λ b. refl) (λ a.
        alike f (ltb element_limit n) (ltb element_limit n) (refuse Many 0) (refuse Many 0) (length_of t) (length_of t') refl (λ b. refl) (λ b.
        alike f (ltb (length t) (element_width * n)) (ltb (length t') (element_width * n)) (refuse Room 0) (refuse Room 0) (faults_of t) (faults_of t')
        (ap (λ (m : ℕ). ltb m (element_width * n)) w.long) (λ b. refl) (λ c.
        alike f (ltb 0 (bad_record v t n)) (ltb 0 (bad_record v t' n))
        (refuse (fault_in (record_finding v (record_at t (pred (bad_record v t n))))) (bad_record v t n))
        (refuse (fault_in (record_finding v (record_at t' (pred (bad_record v t' n))))) (bad_record v t' n)) (pairs_of t) (pairs_of t')
        (ap (ltb 0) bad_record_alike) (λ d. record_refusal (ltb-true 0 (bad_record v t n) d)) (λ d. pairs (all b c d)))))
        ∙ ap (λ (x : Verdict (List Element)). and_then x f) (sym (whole-verdict t))
      where
        all : ltb element_limit n ≡ false → ltb (length t) (element_width * n) ≡ false → ltb 0 (bad_record v t n) ≡ false → T (every proper (first_elements t n))
        all b c d =
            let k = ltb-false 0 (bad_record v t n) d in
            let z : bad_record v t n ≡ 0 = omega arith in
            clean-proper v n t (ltb-false element_limit n b) (ltb-false (length t) (element_width * n) c) (record_clean v t n z)

        pairs : T (every proper (first_elements t n)) → and_then (pairs_of t') f ≡ and_then (pairs_of t) f
        pairs p =
            alike f (ltb 0 (bad_element t n)) (ltb 0 (bad_element t' n)) (refuse_pair (bad_element t n) (misfit t (pred (bad_element t n))))
            (refuse_pair (bad_element t' n) (misfit t' (pred (bad_element t' n)))) (accepted (first_elements t n)) (accepted (first_elements t' n))
            (ap (ltb 0) (bad_element_alike p)) (λ d. pair_refusal p (ltb-true 0 (bad_element t n) d))
            (λ d. same p (relisting_first t t' n (element-relisted n t t' w)))

    -- cut alike
    pub relisted-cut : (room : ℕ) → cut_of v n t' room ≡ cut_of v n t room
    unfolding cut_of
    relisted-cut room =
        relisted_then (λ es. refuse_if (ltb room (tetrahedron_width * length (cut_mesh es))) (refuse Room 0) (accepted (cut_mesh es)))
        (λ p l. ap (λ (ts : List _). refuse_if (ltb room (tetrahedron_width * length ts)) (refuse Room 0) (accepted ts)) (relisting_cut l p))

    -- the same signs
    pub relisted_signs : (table : List ℤ) → signs_of v n t' table ≡ signs_of v n t table
    unfolding signs_of
    relisted_signs table =
        relisted_then
        (λ es. and_then (vertices_judged table v) λ points. accepted (sign_counts points es))
        (λ p l. then_alike (vertices_judged table v) (λ points. accepted (sign_counts points (first_elements t' n))) (λ points. accepted (sign_counts points (first_elements t n)))
        (λ points. ap accepted (counts_relisted points l p)))

    -- accepted or refused alike
    pub relisted-verdict : and_then {B = List ℕ} (judged v n t') (λ es. accepted []) ≡ and_then (judged v n t) (λ es. accepted [])
    relisted-verdict = relisted_then (λ es. accepted []) (λ p l. refl)

    pub relisted-accepted : is_accepted (judged v n t') ≡ is_accepted (judged v n t)
    relisted-accepted = sym (plainly (judged v n t')) ∙ ap is_accepted relisted-verdict ∙ plainly (judged v n t)

    pub relisted-refused : (x : Refusal) → judged v n t ≡ refused x → judged v n t' ≡ refused x
    relisted-refused x e = refused_plainly (judged v n t') x (relisted-verdict ∙ ap (λ (y : Verdict (List Element)). and_then y (λ es. accepted [])) e)

    -- what a contract allows for the one table, it allows for the other
    pub relisted_judge_done : (r : Result (Unit {0}) Refusal) → JudgeDone v n t r → JudgeDone v n t' r
    relisted_judge_done r d = record { answer = d.answer ∙ ap (answer_of []) (sym relisted-verdict) }

    pub relisted_cut_done : (old : List ℕ) (r : Result CutCounts Refusal) (new : List ℕ) → CutDone v n t old r new → CutDone v n t' old r new
    relisted_cut_done old r new d =
        let e : cut_of v n t (length old) ≡ cut_of v n t' (length old) = sym (relisted-cut (length old)) in
        record {
          answer = d.answer ∙ ap (λ (x : Verdict (List (Tet Vertex))). answer_of (0 ∷ []) (and_then x λ ts. accepted (length ts ∷ []))) e;
          output = d.output ∙ ap (λ (x : Verdict (List (Tet Vertex))). laid (records_of flat x) old) e;
        }

    pub relisted_sign_done : (table : List ℤ) (r : Result SignCounts Refusal) → SignDone v n t table r → SignDone v n t' table r
    relisted_sign_done table r d = record { answer = d.answer ∙ ap (answer_of (0 ∷ 0 ∷ 0 ∷ 0 ∷ [])) (sym (relisted_signs table)) }
