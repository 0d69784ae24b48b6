-- Two vertices are the ends of an edge of an element exactly if they stand at the two places of an edge of its solid, in one order or the other.
-- Assumes nothing.
use mathlib.Core.Path.{◌≡◌, refl, sym, ap, ap₂, ◌∙◌}
use mathlib.Core.Bool.{Bool, true, false, ◌&&◌, ◌||◌}
use mathlib.Core.List.{List, [], ◌∷◌, map}
use mathlib.Core.Logic.{◌⊎◌, inl, inr}
use Prim.Native.Nat.{ℕ}
use lib.Dec.{T, eqb, eqb→eq}
use borrow.Author.Tests.{eq-eqb}
use Rattle.std.specs.Cmp.{both_ways}
use Rattle.std.specs.Prelude.{get_or}
use Rattle.std.proofs.lemmas.List.{map-append}
use Rattle.laws.specs.Words.{keep, some, every, gather, among}
use Rattle.laws.proofs.TestLaws.{T_true, true-T, and_left, and_right, and_both, or_cases, or_left, or_right}
use Rattle.laws.proofs.PassLaws.{some-gather}
use Rattle.solids.specs.declared.Solid.{Solid}
use Rattle.solids.specs.declared.Solid.TheVariants.{Tetrahedron, Pyramid, Prism, Hexahedron}
use Rattle.solids.specs.Solids.{Face, three, four, Edge, edge, element, faces, at, on_face, ends, edges_of}
use Rattle.solids.specs.Fit.{same_set, has_edge}
use Rattle.solids.proofs.SetLaws.{among_first, among_later, same_set_lem, set_there, set_back}
use Rattle.edges.specs.EdgePlaces.{rises, edge_places, joins, alike, turned, is_edge, pairs, names_edges, reaches}

-- ---- two vertices as ends

-- a number of two is the one or the other
pub either : (w a b : ℕ) → T (among w (a ∷ b ∷ [])) → (w ≡ a) ⊎ (w ≡ b)
either w a b h = go (or_cases (eqb w a) (among w (b ∷ [])) h)
  where
    last : T (eqb w b) ⊎ ⊥ → (w ≡ a) ⊎ (w ≡ b)
    last (inl k) = inr (eqb→eq w b k)
    last (inr z) = absurd z

    go : T (eqb w a) ⊎ T (among w (b ∷ [])) → (w ≡ a) ⊎ (w ≡ b)
    go (inl k) = inl (eqb→eq w a k)
    go (inr k) = last (or_cases (eqb w b) false k)

-- two pairs with the same members are the same pair, or one of them turned round
pair_of : (u v x y : ℕ) → T (same_set (u ∷ v ∷ []) (x ∷ y ∷ [])) → ((u ≡ x) × (v ≡ y)) ⊎ ((u ≡ y) × (v ≡ x))
pair_of u v x y h =
    let there = set_there (u ∷ v ∷ []) (x ∷ y ∷ []) h in
    let back = set_back (u ∷ v ∷ []) (x ∷ y ∷ []) h in
    go (either u x y (there u (among_first u (v ∷ [])))) (either v x y (there v (among_later v u (v ∷ []) (among_first v []))))
    (either x u v (back x (among_first x (y ∷ [])))) (either y u v (back y (among_later y x (y ∷ []) (among_first y []))))
  where
    go : (u ≡ x) ⊎ (u ≡ y) → (v ≡ x) ⊎ (v ≡ y) → (x ≡ u) ⊎ (x ≡ v) → (y ≡ u) ⊎ (y ≡ v) → ((u ≡ x) × (v ≡ y)) ⊎ ((u ≡ y) × (v ≡ x))
    go (inl a) (inr b) c d = inl (a, b)
    go (inr a) (inl b) c d = inr (a, b)
    go (inl a) (inl b) c (inl d) = inl (a, b ∙ sym a ∙ sym d)
    go (inl a) (inl b) c (inr d) = inl (a, sym d)
    go (inr a) (inr b) (inl c) d = inl (sym c, b)
    go (inr a) (inr b) (inr c) d = inr (a, sym c)

-- a pair has its own members, also turned round
pair_self : (x y : ℕ) → T (same_set (x ∷ y ∷ []) (x ∷ y ∷ []))
pair_self x y = same_set_lem (x ∷ y ∷ []) (x ∷ y ∷ []) (λ v h. h) (λ v h. h)

pair_turned : (x y : ℕ) → T (same_set (y ∷ x ∷ []) (x ∷ y ∷ []))
pair_turned x y = same_set_lem (y ∷ x ∷ []) (x ∷ y ∷ []) (swap y x) (swap x y)
  where
    swap : (a b v : ℕ) → T (among v (a ∷ b ∷ [])) → T (among v (b ∷ a ∷ []))
    swap a b v h = by (either v a b h)
      where
        by : (v ≡ a) ⊎ (v ≡ b) → T (among v (b ∷ a ∷ []))
        by (inl e) = rw e (among_later a b (a ∷ []) (among_first a []))
        by (inr e) = rw e (among_first b (a ∷ []))

-- ---- edges in places and in vertices

abbrev on_edge : (ℕ → ℕ) → Edge ℕ → Edge ℕ
on_edge f (edge p q) = edge (f p) (f q)

abbrev is_ends : ℕ → ℕ → Edge ℕ → Bool
is_ends u v E = same_set (u ∷ v ∷ []) (ends E)

module _ (f : ℕ → ℕ) where
  edges_on : (F : Face ℕ) → edges_of (on_face f F) ≡ map (on_edge f) (edges_of F)
  edges_on (three p q r) = refl
  edges_on (four p q r s) = refl

  all_edges_on : (fs : List (Face ℕ)) → gather edges_of (map (on_face f) fs) ≡ map (on_edge f) (gather edges_of fs)
  all_edges_on [] = refl
  all_edges_on (F ∷ fs) = rw (edges_on F, all_edges_on fs) (sym (map-append (on_edge f) (edges_of F) (gather edges_of fs)))

-- ---- two vertices that stand at the ends of one of the edges

abbrev one_way : ℕ → ℕ → ℕ → ℕ → Bool
one_way u v a b = eqb a u && eqb b v

other_way : (u v a b : ℕ) → T (one_way u v a b) → T (one_way v u b a)
other_way u v a b h = and_both (eqb b v) (eqb a u) (and_right (eqb a u) (eqb b v) h) (and_left (eqb a u) (eqb b v) h)

module _ (u v : ℕ) where
  pair_test : (a b : ℕ) → (one_way u v a b || one_way v u a b) ≡ is_ends u v (edge a b)
  pair_test a b = both_ways _ _ (λ e. T_true _ (there (or_cases (one_way u v a b) (one_way v u a b) (true-T e)))) (λ e. T_true _ (back (pair_of u v a b (true-T e))))
    where
      equal : (x y : ℕ) → T (one_way x y a b) → (a ≡ x) × (b ≡ y)
      equal x y h = (eqb→eq a x (and_left (eqb a x) (eqb b y) h), eqb→eq b y (and_right (eqb a x) (eqb b y) h))

      passes : (x y : ℕ) → a ≡ x → b ≡ y → T (one_way x y a b)
      passes x y e f = and_both (eqb a x) (eqb b y) (true-T (eq-eqb a x e)) (true-T (eq-eqb b y f))

      there : T (one_way u v a b) ⊎ T (one_way v u a b) → T (is_ends u v (edge a b))
      there (inl h) = let e = equal u v h in rw (e.0, e.1) (pair_self u v)
      there (inr h) = let e = equal v u h in rw (e.0, e.1) (pair_turned v u)

      back : ((u ≡ a) × (v ≡ b)) ⊎ ((u ≡ b) × (v ≡ a)) → T (one_way u v a b || one_way v u a b)
      back (inl e) = or_left (one_way u v a b) (one_way v u a b) (passes u v (sym e.0) (sym e.1))
      back (inr e) = or_right (one_way u v a b) (one_way v u a b) (passes v u (sym e.1) (sym e.0))

  module _ (vs : List ℕ) where
    -- the two vertices stand at the ends of the edge
    abbrev stand : Edge ℕ → Bool
    stand E = joins u v vs (ends E)

    stand_ends : (E : Edge ℕ) → stand E ≡ is_ends u v (on_edge (at vs) E)
    unfolding joins
    stand_ends (edge p q) = pair_test (at vs p) (at vs q)

    places_stand : (l : List (Edge ℕ)) → some (joins u v vs) (map ends l) ≡ some stand l
    places_stand [] = refl
    places_stand (E ∷ l) = ap (λ b. stand E || b) (places_stand l)

    ends_stand : (l : List (Edge ℕ)) → some stand l ≡ some (is_ends u v) (map (on_edge (at vs)) l)
    ends_stand [] = refl
    ends_stand (E ∷ l) = ap₂ {C = Bool} (λ a b. a || b) (stand_ends E) (ends_stand l)

    alike_stand : (E F : Edge ℕ) → T (alike E F) → T (stand E) → T (stand F)
    unfolding joins
    alike_stand (edge a b) (edge p q) h k = go (pair_of a b p q h)
      where
        turned : T (one_way u v (at vs a) (at vs b)) ⊎ T (one_way v u (at vs a) (at vs b)) → T (stand (edge b a))
        turned (inl h) = or_right (one_way u v (at vs b) (at vs a)) (one_way v u (at vs b) (at vs a)) (other_way u v (at vs a) (at vs b) h)
        turned (inr h) = or_left (one_way u v (at vs b) (at vs a)) (one_way v u (at vs b) (at vs a)) (other_way v u (at vs a) (at vs b) h)

        go : ((a ≡ p) × (b ≡ q)) ⊎ ((a ≡ q) × (b ≡ p)) → T (stand (edge p q))
        go (inl e) = rw (← e.0, ← e.1) k
        go (inr e) = rw (← e.0, ← e.1) (turned (or_cases (one_way u v (at vs a) (at vs b)) (one_way v u (at vs a) (at vs b)) k))

    one_stands : (E : Edge ℕ) (m : List (Edge ℕ)) → T (some (alike E) m) → T (stand E) → T (some stand m)
    one_stands E [] h k = absurd h
    one_stands E (F ∷ m) h k = go (or_cases (alike E F) (some (alike E) m) h) (one_stands E m)
      where
        go : T (alike E F) ⊎ T (some (alike E) m) → (T (some (alike E) m) → T (stand E) → T (some stand m)) → T (some stand (F ∷ m))
        go (inl a) ih = or_left (stand F) (some stand m) (alike_stand E F a k)
        go (inr a) ih = or_right (stand F) (some stand m) (ih a k)

    -- each edge of the one list stands in the other, in one order or the other
    some_stand : (l m : List (Edge ℕ)) → T (every (λ E. some (alike E) m) l) → T (some stand l) → T (some stand m)
    some_stand [] m h k = absurd k
    some_stand (E ∷ l) m h k = go (or_cases (stand E) (some stand l) k) (some_stand l m (and_right (some (alike E) m) (every (λ F. some (alike F) m) l) h))
      where
        go : T (stand E) ⊎ T (some stand l) → (T (some stand l) → T (some stand m)) → T (some stand m)
        go (inl a) ih = one_stands E m (and_left (some (alike E) m) (every (λ F. some (alike F) m) l) h) a
        go (inr a) ih = ih a

-- ---- the edges of a solid, each once

abbrev sides : Solid → List (Edge ℕ)
sides s = gather edges_of (faces s)

all_rise : (s : Solid) → T (every (λ E. some (alike E) (keep rises (sides s))) (sides s))
all_rise Tetrahedron = tt
all_rise Pyramid = tt
all_rise Prism = tt
all_rise Hexahedron = tt

risen_sides : (s : Solid) → T (every (λ E. some (alike E) (sides s)) (keep rises (sides s)))
risen_sides Tetrahedron = tt
risen_sides Pyramid = tt
risen_sides Prism = tt
risen_sides Hexahedron = tt

pub edge_found : (s : Solid) (vs : List ℕ) (u v : ℕ) → some (joins u v vs) (edge_places s) ≡ has_edge (u ∷ v ∷ []) (element s vs)
unfolding edge_places
edge_found s vs u v =
    let risen = keep rises (sides s) in
    places_stand u v vs risen
    ∙ both_ways _ _ (λ e. T_true _ (some_stand u v vs risen (sides s) (risen_sides s) (true-T e))) (λ e. T_true _ (some_stand u v vs (sides s) risen (all_rise s) (true-T e)))
    ∙ ends_stand u v vs (sides s)
    ∙ ap (some (is_ends u v)) (sym (all_edges_on (at vs) (faces s)))

-- ---- the same edges from both of their ends, in rows

-- one test and any of three others, one by one
spread : (x a b c : Bool) → (x && (a || (b || c))) ≡ ((x && a) || ((x && b) || ((x && c) || false)))
spread false a b c = refl
spread true true b c = refl
spread true false true c = refl
spread true false false true = refl
spread true false false false = refl

module _ (u v : ℕ) (vs : List ℕ) where
  -- u stands at the first place of the edge, v at the other
  abbrev goes : Edge ℕ → Bool
  goes (edge p q) = one_way u v (at vs p) (at vs q)

  row_goes : (row : List ℕ) → reaches u v vs row ≡ some goes (pairs row)
  unfolding reaches
  row_goes row =
      spread (eqb (at vs (get_or row 0 0)) u) (eqb (at vs (get_or row 1 0)) v) (eqb (at vs (get_or row 2 0)) v) (eqb (at vs (get_or row 3 0)) v)

  rows_go : (rows : List (List ℕ)) → some (reaches u v vs) rows ≡ some (λ row. some goes (pairs row)) rows
  rows_go [] = refl
  rows_go (row ∷ rows) = ap₂ {C = Bool} (λ a b. a || b) (row_goes row) (rows_go rows)

  goes_stands : (E : Edge ℕ) → T (goes E) → T (stand u v vs E)
  unfolding joins
  goes_stands (edge p q) h = or_left (one_way u v (at vs p) (at vs q)) (one_way v u (at vs p) (at vs q)) h

  some_goes_stands : (l : List (Edge ℕ)) → T (some goes l) → T (some (stand u v vs) l)
  some_goes_stands [] h = absurd h
  some_goes_stands (E ∷ l) h = by (or_cases (goes E) (some goes l) h) (some_goes_stands l)
    where
      by : T (goes E) ⊎ T (some goes l) → (T (some goes l) → T (some (stand u v vs) l)) → T (some (stand u v vs) (E ∷ l))
      by (inl a) ih = or_left (stand u v vs E) (some (stand u v vs) l) (goes_stands E a)
      by (inr a) ih = or_right (stand u v vs E) (some (stand u v vs) l) (ih a)

  -- an edge that is in the list, and goes from u to v
  goes_there : (E : Edge ℕ) (m : List (Edge ℕ)) → T (some (is_edge E) m) → T (goes E) → T (some goes m)
  goes_there E [] h k = absurd h
  goes_there (edge a b) (edge p q ∷ m) h k = by (or_cases (is_edge (edge a b) (edge p q)) (some (is_edge (edge a b)) m) h) (goes_there (edge a b) m)
    where
      by : T (is_edge (edge a b) (edge p q)) ⊎ T (some (is_edge (edge a b)) m) → (T (some (is_edge (edge a b)) m) → T (goes (edge a b)) → T (some goes m)) → T (some goes (edge p q ∷ m))
      by (inl e) ih =
          or_left (goes (edge p q)) (some goes m)
          (rw (← eqb→eq a p (and_left (eqb a p) (eqb b q) e), ← eqb→eq b q (and_right (eqb a p) (eqb b q) e)) k)
      by (inr e) ih = or_right (goes (edge p q)) (some goes m) (ih e k)

  -- where each edge of the one list is in the other from both of its ends, one of these goes from u to v if u and v stand at its ends
  stands_go : (l m : List (Edge ℕ)) → T (every (λ E. some (is_edge E) m && some (is_edge (turned E)) m) l) → T (some (stand u v vs) l) → T (some goes m)
  unfolding joins
  stands_go [] m h k = absurd k
  stands_go (edge p q ∷ l) m h k = by (or_cases (stand u v vs (edge p q)) (some (stand u v vs) l) k) (stands_go l m later)
    where
      here : T (some (is_edge (edge p q)) m && some (is_edge (edge q p)) m)
      here = and_left (some (is_edge (edge p q)) m && some (is_edge (edge q p)) m) (every (λ E. some (is_edge E) m && some (is_edge (turned E)) m) l) h

      later : T (every (λ E. some (is_edge E) m && some (is_edge (turned E)) m) l)
      later = and_right (some (is_edge (edge p q)) m && some (is_edge (edge q p)) m) (every (λ E. some (is_edge E) m && some (is_edge (turned E)) m) l) h

      one : T (one_way u v (at vs p) (at vs q)) ⊎ T (one_way v u (at vs p) (at vs q)) → T (some goes m)
      one (inl a) = goes_there (edge p q) m (and_left (some (is_edge (edge p q)) m) (some (is_edge (edge q p)) m) here) a
      one (inr a) = goes_there (edge q p) m (and_right (some (is_edge (edge p q)) m) (some (is_edge (edge q p)) m) here) (other_way v u (at vs p) (at vs q) a)

      by : T (stand u v vs (edge p q)) ⊎ T (some (stand u v vs) l) → (T (some (stand u v vs) l) → T (some goes m)) → T (some goes m)
      by (inl a) ih = one (or_cases (one_way u v (at vs p) (at vs q)) (one_way v u (at vs p) (at vs q)) a)
      by (inr a) ih = ih a

-- an edge of one of the rows goes from u to v exactly if they are the ends of an edge of the element
pub rows_found : (s : Solid) (rows : List (List ℕ)) → T (names_edges s rows) → (vs : List ℕ) (u v : ℕ) → some (reaches u v vs) rows ≡ has_edge (u ∷ v ∷ []) (element s vs)
unfolding edge_places names_edges
rows_found s rows named vs u v =
    let risen = keep rises (sides s) in
    let named_here = every (λ E. some (alike E) risen) (gather pairs rows) in
    let named_both = every (λ E. some (is_edge E) (gather pairs rows) && some (is_edge (turned E)) (gather pairs rows)) risen in
    rows_go u v vs rows
    ∙ sym (some-gather (goes u v vs) pairs rows)
    ∙ both_ways _ _
    (λ e. T_true _ (some_stand u v vs (gather pairs rows) risen (and_left named_here named_both named) (some_goes_stands u v vs (gather pairs rows) (true-T e))))
    (λ e. T_true _ (stands_go u v vs risen (gather pairs rows) (and_right named_here named_both named) (true-T e)))
    ∙ sym (places_stand u v vs risen)
    ∙ edge_found s vs u v
