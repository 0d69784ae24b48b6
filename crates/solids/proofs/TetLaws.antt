-- What the tetrahedra of a cut are, by their sides: each has four different vertices, all of them the element's, and none occurs twice.
-- Assumes nothing.
use mathlib.Core.Path.{refl, subst}
use mathlib.Core.Bool.{Bool, true, false, cond, ◌&&◌}
use mathlib.Core.List.{List, [], ◌∷◌, ◌++◌}
use Prim.Native.Nat.{ℕ, ◌+◌, ◌≤◌, zero-le}
use native.Mathlib.Nat.{le_trans}
use native.Mathlib.Omega.{arith}
use lib.Dec.{T}
use borrow.Author.Tests.{ne_eqb}
use Rattle.laws.specs.Words.{count, every, gather, among, distinct}
use Rattle.solids.specs.Solids.{Tri, tri, Tet, tet, Element, of_tri, of_tet, corners_of}
use Rattle.solids.specs.Cut.{cut}
use Rattle.solids.specs.Fit.{proper}
use Rattle.solids.specs.Surface.{sides, same_tri, times, owners, eq_tet, Plain, by_rule, Closed}
use Rattle.laws.proofs.TestLaws.{and_both, and_left, T_true}
use Rattle.laws.proofs.EveryLaws.{count_append}
use Rattle.solids.proofs.SideLaws.{s0, same_test}
use Rattle.solids.proofs.RowLaws.{eq_tet→eq}
use Rattle.solids.proofs.FaceFacts.{distinct_apart₃}
use Rattle.solids.proofs.RuleLaws.{rule_closed}

-- a triangle among others is counted
counted : (t : Tri ℕ) (l m : List (Tri ℕ)) → 1 ≤ times t (l ++ (t ∷ m))
counted t l m =
    rw (count_append (same_tri t) l (t ∷ m), T_true (same_tri t t) (same_test t t (s0 refl))) (omega arith)

-- the four sides of the first tetrahedron have an owner, and a later one counts no less
module _ (a b c d : ℕ) (ts : List (Tet ℕ)) where
  first_side : 1 ≤ owners (tri b c d) (tet a b c d ∷ ts)
  first_side = counted (tri b c d) [] (tri a d c ∷ tri a b d ∷ tri a c b ∷ gather sides ts)

  second_side : 1 ≤ owners (tri a d c) (tet a b c d ∷ ts)
  second_side = counted (tri a d c) (tri b c d ∷ []) (tri a b d ∷ tri a c b ∷ gather sides ts)

  third_side : 1 ≤ owners (tri a b d) (tet a b c d ∷ ts)
  third_side = counted (tri a b d) (tri b c d ∷ tri a d c ∷ []) (tri a c b ∷ gather sides ts)

later : (x : Tri ℕ) (t : Tet ℕ) (ts : List (Tet ℕ)) → owners x ts ≤ owners x (t ∷ ts)
later x t ts = rw (count_append (same_tri x) (sides t) (gather sides ts)) (omega arith)

-- what holds of each tetrahedron whose sides have owners
module _ (Q : Tri ℕ → Type 0) (P : Tet ℕ → Bool) (from : (a b c d : ℕ) → Q (tri b c d) → Q (tri a d c) → Q (tri a b d) → T (P (tet a b c d))) where
  all_tets : (ts : List (Tet ℕ)) → ((x : Tri ℕ) → 1 ≤ owners x ts → Q x) → T (every P ts)
  all_tets [] h = tt
  all_tets (tet a b c d ∷ ts) h =
      and_both (P (tet a b c d)) (every P ts)
      (from a b c d (h (tri b c d) (first_side a b c d ts)) (h (tri a d c) (second_side a b c d ts)) (h (tri a b d) (third_side a b c d ts)))
      (all_tets ts (λ x l. h x (le_trans l (later x (tet a b c d) ts))))

different_from : (a b c d : ℕ) → T (distinct (of_tri (tri b c d))) → T (distinct (of_tri (tri a d c))) → T (distinct (of_tri (tri a b d)))
    → T (distinct (of_tet (tet a b c d)))
different_from a b c d p q r =
    let x = distinct_apart₃ b c d p in
    let y = distinct_apart₃ a d c q in
    let z = distinct_apart₃ a b d r in
    simp (ne_eqb a b z.ab, ne_eqb a c y.ac, ne_eqb a d y.ab, ne_eqb b c x.ab, ne_eqb b d x.ac, ne_eqb c d x.bc) tt

-- no tetrahedron stands more often than its first side has owners
as_often : (t : Tet ℕ) (ts : List (Tet ℕ)) → (x : Tri ℕ) → ((u : Tet ℕ) → T (eq_tet t u) → 1 ≤ times x (sides u)) → count (eq_tet t) ts ≤ owners x ts
as_often t [] x h = zero-le
as_often t (u ∷ ts) x h =
    rw (count_append (same_tri x) (sides u) (gather sides ts)) (go (eq_tet t u) (h u) (as_often t ts x h))
  where
    go : (b : Bool) → (T b → 1 ≤ times x (sides u)) → count (eq_tet t) ts ≤ owners x ts → cond b 1 0 + count (eq_tet t) ts ≤ times x (sides u) + owners x ts
    go true k i = let l = k tt in omega arith
    go false k i = omega arith

module _ (e : Element) (h : T (proper e)) where
  shut : Closed (by_rule e)
  shut = rule_closed e h

  own_from : (a b c d : ℕ) → T (every (λ v. among v (corners_of e)) (of_tri (tri b c d))) → T (every (λ v. among v (corners_of e)) (of_tri (tri a d c)))
      → T (every (λ v. among v (corners_of e)) (of_tri (tri a b d))) → T (every (λ v. among v (corners_of e)) (of_tet (tet a b c d)))
  own_from a b c d x y z = go (among a (corners_of e)) (and_left (among a (corners_of e)) (among d (corners_of e) && (among c (corners_of e) && true)) y)
    where
      go : (k : Bool) → T k → T (k && every (λ v. among v (corners_of e)) (b ∷ c ∷ d ∷ []))
      go true p = x
      go false p = absurd p

  once : (t : Tet ℕ) → count (eq_tet t) (cut e) ≤ 1
  once (tet a b c d) =
      le_trans
      (as_often (tet a b c d) (cut e) (tri b c d) λ u k.
      subst (λ (w : Tet ℕ). 1 ≤ times (tri b c d) (sides w)) (eq_tet→eq (tet a b c d) u k) (counted (tri b c d) [] (tri a d c ∷ tri a b d ∷ tri a c b ∷ [])))
      (shut.once (tri b c d))

  pub plain : Plain e
  plain = record {
    different = all_tets (λ x. T (distinct (of_tri x))) (λ t. distinct (of_tet t)) different_from (cut e) (λ x l. (shut.own x l).0);
    own = all_tets (λ x. T (every (λ v. among v (corners_of e)) (of_tri x))) (λ t. every (λ v. among v (corners_of e)) (of_tet t)) own_from (cut e) (λ x l. (shut.own x l).1);
    once-each = once;
  }
