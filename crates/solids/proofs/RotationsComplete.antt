-- The list of rotations is complete: whatever maps faces to faces and keeps their direction is in it. A search that antt computes,
-- place by place, left off as soon as the places given so far take a face to none.
-- Assumes nothing.
use mathlib.Core.Path.{◌≡◌, refl, sym, subst}
use mathlib.Core.Bool.{Bool, true, false, not, ◌&&◌, ◌||◌}
use mathlib.Core.List.Memᴰ
use mathlib.Core.List.{List, [], ◌∷◌, ◌++◌, append-nil, append_assoc, Memᴰ}
use mathlib.Core.Logic.{◌⊎◌, inl, inr}
use Prim.Native.Nat.{ℕ, zero, suc}
use native.Mathlib.Omega.{arith}
use lib.Dec.{eqb, leb, T, eqb→eq, leb→le, ltb→lt}
use lib.ListN.{length, get_or-append}
use Rattle.laws.specs.Words.{every, some, distinct}
use Rattle.solids.specs.Solids.{Solid, tetrahedron, pyramid, prism, hexahedron, Face, three, four, corners, faces, at, on_face}
use Rattle.solids.specs.Rotations.{eq_face, same_face, is_reordering, keeps_faces, is_rotation, rotations}
use Rattle.laws.proofs.TestLaws.{and_left, and_right, and_both, or_cases, or_left, or_right, below, at_below}
use Rattle.laws.proofs.EveryLaws.{some_at, every_implies}
use Rattle.solids.proofs.NumberingLaws.{inside}

-- a place that is given goes to q; one that is not may go anywhere (an `elim`, so that the rest is computed only where it is given)
abbrev goes_to : List ℕ → ℕ → ℕ → Bool
goes_to u p q = elim (inside (length u) p) [ true ↦ eqb (at u p) q | false ↦ true ]

-- each given place of a face goes to its corner of the other
abbrev alike_on : List ℕ → Face ℕ → Face ℕ → Bool
alike_on u (three a b c) (three p q r) = goes_to u a p && (goes_to u b q && goes_to u c r)
alike_on u (three a b c) (four p q r s) = false
alike_on u (four a b c d) (three p q r) = false
alike_on u (four a b c d) (four p q r s) = goes_to u a p && (goes_to u b q && (goes_to u c r && goes_to u d s))

-- the same, the cycle read from any of its corners
abbrev goes_on : List ℕ → Face ℕ → Face ℕ → Bool
goes_on u (three a b c) F = alike_on u (three a b c) F || (alike_on u (three b c a) F || alike_on u (three c a b) F)
goes_on u (four a b c d) F =
    alike_on u (four a b c d) F || (alike_on u (four b c d a) F || (alike_on u (four c d a b) F || alike_on u (four d a b c) F))

abbrev keep_on : Solid → List ℕ → Bool
keep_on s u = every (λ F. some (goes_on u F) (faces s)) (faces s)

abbrev eq_list : List ℕ → List ℕ → Bool
eq_list [] [] = true
eq_list [] (y ∷ ys) = false
eq_list (x ∷ xs) [] = false
eq_list (x ∷ xs) (y ∷ ys) = eqb x y && eq_list xs ys

eq_list→eq : (xs ys : List ℕ) → T (eq_list xs ys) → ys ≡ xs
eq_list→eq [] [] h = refl
eq_list→eq [] (y ∷ ys) h = absurd h
eq_list→eq (x ∷ xs) [] h = absurd h
eq_list→eq (x ∷ xs) (y ∷ ys) h = let p = eqb→eq x y (and_left (eqb x y) (eq_list xs ys) h) in let q = eq_list→eq xs ys (and_right (eqb x y) (eq_list xs ys) h) in cc

-- no two of the lists are alike
abbrev pub all_differ : List (List ℕ) → Bool
all_differ [] = true
all_differ (u ∷ us) = not (some (eq_list u) us) && all_differ us

pub all_differ_lem : (s : Solid) → T (all_differ (rotations s))
all_differ_lem tetrahedron = tt
all_differ_lem pyramid = tt
all_differ_lem prism = tt
all_differ_lem hexahedron = tt

abbrev search_all : Solid → ℕ → List ℕ → Bool
search_all s zero u = elim (keep_on s u) [ true ↦ some (eq_list u) (rotations s) | false ↦ true ]
search_all s (suc m) u = elim (keep_on s u) [ true ↦ below (corners s) (λ i. search_all s m (u ++ (suc i ∷ []))) | false ↦ true ]

all_found : (s : Solid) → T (search_all s (corners s) [])
all_found tetrahedron = tt
all_found pyramid = tt
all_found prism = tt
all_found hexahedron = tt

-- what the test of a whole list says of its beginning
at_append : (u v : List ℕ) (p : ℕ) → T (inside (length u) p) → at (u ++ v) p ≡ at u p
at_append u v zero h = absurd h
at_append u v (suc i) h = get_or-append u v 0 i (ltb→lt i (length u) h)

-- from two tests to two others
and_through : (a b c d : Bool) → (T a → T c) → (T b → T d) → T (a && b) → T (c && d)
and_through a b c d f g h = and_both c d (f (and_left a b h)) (g (and_right a b h))

or_through : (a b c d : Bool) → (T a → T c) → (T b → T d) → T (a || b) → T (c || d)
or_through a b c d f g h = go (or_cases a b h)
  where
    go : T a ⊎ T b → T (c || d)
    go (inl x) = or_left c d (f x)
    go (inr y) = or_right c d (g y)

some-through : (P Q : Face ℕ → Bool) → ((F : Face ℕ) → T (P F) → T (Q F)) → (fs : List (Face ℕ)) → T (some P fs) → T (some Q fs)
some-through P Q f [] h = absurd h
some-through P Q f (F ∷ fs) h = or_through (P F) (some P fs) (Q F) (some Q fs) (f F) (some-through P Q f fs) h

module _ (u v : List ℕ) where
  goes : (p q : ℕ) → T (eqb (at (u ++ v) p) q) → T (goes_to u p q)
  goes p q h = go (inside (length u) p) refl
    where
      go : (b : Bool) → inside (length u) p ≡ b → T (elim b [ true ↦ eqb (at u p) q | false ↦ true ])
      go true e = subst (λ (x : ℕ). T (eqb x q)) (at_append u v p (subst T (sym e) tt)) h
      go false e = tt

  -- the test of a place's image, and of that of a place that is given
  abbrev is : ℕ → ℕ → Bool
  is p q = eqb (at (u ++ v) p) q

  abbrev to : ℕ → ℕ → Bool
  to p q = goes_to u p q

  alike : (F G : Face ℕ) → T (eq_face (on_face (at (u ++ v)) F) G) → T (alike_on u F G)
  alike (three a b c) (three p q r) h =
      and_through (is a p) (is b q && is c r) (to a p) (to b q && to c r) (goes a p) (and_through (is b q) (is c r) (to b q) (to c r) (goes b q) (goes c r)) h
  alike (three a b c) (four p q r s) h = h
  alike (four a b c d) (three p q r) h = h
  alike (four a b c d) (four p q r s) h =
      and_through (is a p) (is b q && (is c r && is d s)) (to a p) (to b q && (to c r && to d s)) (goes a p)
      (and_through (is b q) (is c r && is d s) (to b q) (to c r && to d s) (goes b q) (and_through (is c r) (is d s) (to c r) (to d s) (goes c r) (goes d s))) h

  abbrev same : Face ℕ → Face ℕ → Bool
  same F G = eq_face (on_face (at (u ++ v)) F) G

  abbrev near : Face ℕ → Face ℕ → Bool
  near F G = alike_on u F G

  goes_on_lem : (F G : Face ℕ) → T (same_face (on_face (at (u ++ v)) F) G) → T (goes_on u F G)
  goes_on_lem (three a b c) G h =
      or_through (same x G) (same y G || same z G) (near x G) (near y G || near z G) (alike x G)
      (or_through (same y G) (same z G) (near y G) (near z G) (alike y G) (alike z G)) h
    where
      x : Face ℕ
      x = three a b c

      y : Face ℕ
      y = three b c a

      z : Face ℕ
      z = three c a b
  goes_on_lem (four a b c d) G h =
      or_through (same w G) (same x G || (same y G || same z G)) (near w G) (near x G || (near y G || near z G)) (alike w G)
      (or_through (same x G) (same y G || same z G) (near x G) (near y G || near z G) (alike x G)
      (or_through (same y G) (same z G) (near y G) (near z G) (alike y G) (alike z G))) h
    where
      w : Face ℕ
      w = four a b c d

      x : Face ℕ
      x = four b c d a

      y : Face ℕ
      y = four c d a b

      z : Face ℕ
      z = four d a b c

kept : (s : Solid) (u v : List ℕ) → T (every (λ F. some (same_face (on_face (at (u ++ v)) F)) (faces s)) (faces s)) → T (keep_on s u)
kept s u v h =
    every_implies (λ F. some (same_face (on_face (at (u ++ v)) F)) (faces s)) (λ F. some (goes_on u F) (faces s))
    (λ F t. some-through (same_face (on_face (at (u ++ v)) F)) (goes_on u F) (goes_on_lem u v F) (faces s) t) (faces s) h

abbrev in_range : ℕ → ℕ → Bool
in_range n p = leb 1 p && leb p n

opened : (b x : Bool) → T b → T (elim b [ true ↦ x | false ↦ true ]) → T x
opened true x h t = t
opened false x h t = absurd h

through : (s : Solid) (m : ℕ) (u w : List ℕ) → length w ≡ m → T (every (in_range (corners s)) w)
    → T (every (λ F. some (same_face (on_face (at (u ++ w)) F)) (faces s)) (faces s)) → T (search_all s m u) → T (some (eq_list (u ++ w)) (rotations s))
through s zero u [] e r h t =
    subst (λ (l : List ℕ). T (some (eq_list l) (rotations s))) (sym (append-nil u))
    (opened (keep_on s u) (some (eq_list u) (rotations s)) (kept s u [] h) t)
through s zero u (y ∷ w) e r h t = absurd (omega arith)
through s (suc m) u [] e r h t = absurd (omega arith)
through s (suc m) u (zero ∷ w) e r h t = absurd (and_left (in_range (corners s) zero) (every (in_range (corners s)) w) r)
through s (suc m) u (suc i ∷ w) e r h t =
    subst (λ (l : List ℕ). T (some (eq_list l) (rotations s))) (append_assoc u (suc i ∷ []) w)
    (through s m (u ++ (suc i ∷ [])) w (omega arith) (and_right (in_range (corners s) (suc i)) (every (in_range (corners s)) w) r)
    (subst (λ (l : List ℕ). T (every (λ F. some (same_face (on_face (at l) F)) (faces s)) (faces s))) (sym (append_assoc u (suc i ∷ []) w)) h)
    (at_below (corners s) (λ j. search_all s m (u ++ (suc j ∷ []))) (opened (keep_on s u) (below (corners s) (λ j. search_all s m (u ++ (suc j ∷ [])))) (kept s u (suc i ∷ w) h) t) i
    (let k = leb→le (suc i) (corners s) (and_right (leb 1 (suc i)) (leb (suc i) (corners s)) (and_left (in_range (corners s) (suc i)) (every (in_range (corners s)) w) r)) in omega arith)))

-- THE LIST IS COMPLETE
pub complete : (s : Solid) (ρ : List ℕ) → T (is_rotation s ρ) → Memᴰ ρ (rotations s)
complete s ρ h =
    let A = eqb (length ρ) (corners s) in
    let B = every (in_range (corners s)) ρ in
    let reordering : T (is_reordering s ρ) = and_left (is_reordering s ρ) (keeps_faces s ρ) h in
    let x = some_at (eq_list ρ) (rotations s)
    (through s (corners s) [] ρ (eqb→eq (length ρ) (corners s) (and_left A (B && distinct ρ) reordering))
    (and_left B (distinct ρ) (and_right A (B && distinct ρ) reordering)) (and_right (is_reordering s ρ) (keeps_faces s ρ) h) (all_found s)) in
    Memᴰ.cast (sym (eq_list→eq ρ x.0 x.2)) x.1
