-- Any vertices are the ends of an edge only if they are, as a set, the first of them and one other, or the first alone.
-- Assumes nothing.
use mathlib.Core.Path.{◌≡◌, refl, sym, ap, ap₂, ◌∙◌, subst}
use mathlib.Core.Bool.{Bool, true, false, cond, not, ◌&&◌, ◌||◌}
use mathlib.Core.List.{List, [], ◌∷◌}
use mathlib.Core.Logic.{◌⊎◌, inl, inr}
use Prim.Native.Nat.{ℕ, ◌<◌}
use Rattle.std.specs.Prelude.{Option, Some, None}
use Rattle.std.specs.List.{find}
use Rattle.std.specs.Option.{option_map, unwrap_or}
use native.Mathlib.Omega.{arith}
use native.Mathlib.Nat.{not-suc-le-zero}
use lib.Dec.{T, eqb}
use lib.ListN.{length, get_or}
use borrow.Author.Tests.{eqb-true, eqb-false, eq-eqb}
use Rattle.laws.specs.Words.{some, every, among}
use Rattle.laws.proofs.TestLaws.{T_true, true-T, and_left, and_right}
use Rattle.laws.proofs.EveryLaws.{some_at}
use Rattle.solids.specs.declared.Vertex.{Vertex}
use Rattle.solids.specs.Solids.{Edge, edge, Element, ends, element_edges}
use Rattle.solids.specs.Fit.{same_set, has_edge}
use Rattle.solids.proofs.SetLaws.{Sub, among_first, among_later, among_cases, sub_every, every_sub, same_set_lem, set_there, set_back}
use Rattle.fit.specs.SetLoops.{other_than}
use Rattle.edges.proofs.EdgeLaws.{either}

-- the first vertex that is found to be another than u
other_found : (u v : ℕ) (vs : List ℕ) → Some v ≡ find (λ w. not (eqb u w)) vs → v ≡ other_than u vs
other_found u v [] e = cc
other_found u v (w ∷ vs) e = go (eqb u w) e (other_found u v vs)
  where
    go : (b : Bool) → Some v ≡ cond (not b) (Some w) (find (λ x. not (eqb u x)) vs) → (Some v ≡ find (λ x. not (eqb u x)) vs → v ≡ other_than u vs) → v ≡ cond b (other_than u vs) w
    go true f rest = rest f
    go false f rest = cc

other-missing : (u : ℕ) (vs : List ℕ) → None ≡ find (λ w. not (eqb u w)) vs → u ≡ other_than u vs
other-missing u [] e = refl
other-missing u (w ∷ vs) e = go (eqb u w) e (other-missing u vs)
  where
    go : (b : Bool) → None ≡ cond (not b) (Some w) (find (λ x. not (eqb u x)) vs) → (None ≡ find (λ x. not (eqb u x)) vs → u ≡ other_than u vs) → u ≡ cond b (other_than u vs) w
    go true f rest = rest f
    go false f rest = cc

-- the vertex that is found, and u where none is
pub other_or : (u : Vertex) (vs : List ℕ) (r : Option Vertex) → option_map (λ w. w.0) r ≡ find (λ w. not (eqb u.0 w)) vs → {v : Vertex} → v ≡ unwrap_or r u → v.0 ≡ other_than u.0 vs
other_or u vs None e f = ap (λ (w : Vertex). w.0) f ∙ other-missing u.0 vs e
other_or u vs (Some w) e f = ap (λ (x : Vertex). x.0) f ∙ other_found u.0 w.0 vs e

-- the other vertex is among the vertices, or is u
other_in : (u : ℕ) (c : List ℕ) → T (among (other_than u c) (u ∷ c))
other_in u [] = among_first u []
other_in u (v ∷ c) = go (eqb u v) (other_in u c)
  where
    go : (b : Bool) → T (among (other_than u c) (u ∷ c)) → T (among (cond b (other_than u c) v) (u ∷ (v ∷ c)))
    go true h = by (among_cases (other_than u c) u c h)
      where
        by : (other_than u c ≡ u) ⊎ T (among (other_than u c) c) → T (among (other_than u c) (u ∷ (v ∷ c)))
        by (inl e) = subst (λ (w : ℕ). T (among w (u ∷ (v ∷ c)))) (sym e) (among_first u (v ∷ c))
        by (inr m) = among_later (other_than u c) u (v ∷ c) (among_later (other_than u c) v c m)
    go false h = among_later v u (v ∷ c) (among_first v c)

-- where there is no other vertex, each is u
other_none : (u : ℕ) (c : List ℕ) → other_than u c ≡ u → (w : ℕ) → T (among w c) → w ≡ u
other_none u [] e w m = absurd m
other_none u (v ∷ c) e w m = go (eqb u v) refl e (among_cases w v c m) (other_none u c)
  where
    go : (b : Bool) → eqb u v ≡ b → cond b (other_than u c) v ≡ u → (w ≡ v) ⊎ T (among w c) → (other_than u c ≡ u → (x : ℕ) → T (among x c) → x ≡ u) → w ≡ u
    go true q e (inl a) ih = a ∙ sym (eqb-true u v q)
    go true q e (inr k) ih = ih e w k
    go false q e n ih = absurd (eqb-false u v q (sym e))

-- of two numbers, two that differ are both
in_two : (p q u v w : ℕ) → (u ≡ v → ⊥) → T (among u (p ∷ q ∷ [])) → T (among v (p ∷ q ∷ [])) → T (among w (p ∷ q ∷ [])) → T (among w (u ∷ v ∷ []))
in_two p q u v w n a b c = go (either u p q a) (either v p q b) (either w p q c)
  where
    one : w ≡ u → T (among w (u ∷ v ∷ []))
    one e = subst (λ (x : ℕ). T (among x (u ∷ v ∷ []))) (sym e) (among_first u (v ∷ []))

    two : w ≡ v → T (among w (u ∷ v ∷ []))
    two e = subst (λ (x : ℕ). T (among x (u ∷ v ∷ []))) (sym e) (among_later v u (v ∷ []) (among_first v []))

    go : (u ≡ p) ⊎ (u ≡ q) → (v ≡ p) ⊎ (v ≡ q) → (w ≡ p) ⊎ (w ≡ q) → T (among w (u ∷ v ∷ []))
    go (inl x) (inl y) z = absurd (n (x ∙ sym y))
    go (inr x) (inr y) z = absurd (n (x ∙ sym y))
    go (inl x) (inr y) (inl z) = one (z ∙ sym x)
    go (inl x) (inr y) (inr z) = two (z ∙ sym y)
    go (inr x) (inl y) (inl z) = two (z ∙ sym y)
    go (inr x) (inl y) (inr z) = one (z ∙ sym x)

bool_same : (a b : Bool) → (T a → T b) → (T b → T a) → a ≡ b
bool_same true b f g = sym (T_true b (f tt))
bool_same false true f g = absurd (g tt)
bool_same false false f g = refl

some_same : (P Q : Edge ℕ → Bool) → ((E : Edge ℕ) → P E ≡ Q E) → (Es : List (Edge ℕ)) → some P Es ≡ some Q Es
some_same P Q h [] = refl
some_same P Q h (E ∷ Es) = ap₂ {C = Bool} (λ a b. a || b) (h E) (some_same P Q h Es)

-- vertices with u first, their other vertex, and whether these two are all
module _ (u : ℕ) (c : List ℕ) where
  abbrev all : List ℕ
  all = u ∷ c

  abbrev two : List ℕ
  two = u ∷ other_than u all ∷ []

  two_inside : Sub two all
  two_inside w m = by (either w u (other_than u all) m)
    where
      by : (w ≡ u) ⊎ (w ≡ other_than u all) → T (among w all)
      by (inl e) = subst (λ (x : ℕ). T (among x all)) (sym e) (among_first u c)
      by (inr e) = subst (λ (x : ℕ). T (among x all)) (sym e) (again (among_cases (other_than u all) u all (other_in u all)))
        where
          again : (other_than u all ≡ u) ⊎ T (among (other_than u all) all) → T (among (other_than u all) all)
          again (inl k) = subst (λ (x : ℕ). T (among x all)) (sym k) (among_first u c)
          again (inr k) = k

  -- all vertices are ends of an edge: they are those two
  ends_two : (p q : ℕ) → T (same_set all (p ∷ q ∷ [])) → Sub all two
  ends_two p q h w m = go (eqb (other_than u all) u) refl
    where
      go : (b : Bool) → eqb (other_than u all) u ≡ b → T (among w two)
      go true e = subst (λ (x : ℕ). T (among x two)) (sym (other_none u all (eqb-true (other_than u all) u e) w m)) (among_first u (other_than u all ∷ []))
      go false e =
          let s = set_there all (p ∷ q ∷ []) h in
          in_two p q u (other_than u all) w (λ k. eqb-false (other_than u all) u e (sym k)) (s u (among_first u c))
          (s (other_than u all) (two_inside (other_than u all) (among_later (other_than u all) u (other_than u all ∷ []) (among_first (other_than u all) [])))) (s w m)

  abbrev alone : Bool
  alone = every (λ w. among w two) all

  ends_same : T alone → (E : Edge ℕ) → same_set all (ends E) ≡ same_set two (ends E)
  ends_same h E =
      let s = every_sub all two h in
      bool_same (same_set all (ends E)) (same_set two (ends E))
      (λ k. same_set_lem two (ends E) (λ w m. set_there all (ends E) k w (two_inside w m)) (λ w m. s w (set_back all (ends E) k w m)))
      (λ k. same_set_lem all (ends E) (λ w m. set_there two (ends E) k w (s w m)) (λ w m. two_inside w (set_back two (ends E) k w m)))

  edge_of_two : alone ≡ true → (e : Element) → has_edge all e ≡ has_edge two e
  edge_of_two h e = some_same (λ E. same_set all (ends E)) (λ E. same_set two (ends E)) (ends_same (true-T h)) (element_edges e)

  no_edge : alone ≡ false → (e : Element) → has_edge all e ≡ false
  no_edge h e = go (has_edge all e) refl
    where
      clash : (E : Edge ℕ) → T (same_set all (ends E)) → ⊥
      clash (edge p q) k = subst T h (sub_every all two (ends_two p q k))

      go : (b : Bool) → has_edge all e ≡ b → has_edge all e ≡ false
      go false q = q
      go true q = let r = some_at (λ E. same_set all (ends E)) (element_edges e) (true-T q) in absurd (clash r.0 r.2)

-- the same for any vertices that are not none
two_edge : (c : List ℕ) → 0 < length c → every (λ w. among w (get_or c 0 0 ∷ other_than (get_or c 0 0) c ∷ [])) c ≡ true
    → (e : Element) → has_edge c e ≡ has_edge (get_or c 0 0 ∷ other_than (get_or c 0 0) c ∷ []) e
two_edge [] l h e = absurd (not-suc-le-zero l)
two_edge (u ∷ c) l h e = edge_of_two u c h e

more_no_edge : (c : List ℕ) → 0 < length c → every (λ w. among w (get_or c 0 0 ∷ other_than (get_or c 0 0) c ∷ [])) c ≡ false → (e : Element) → has_edge c e ≡ false
more_no_edge [] l h e = absurd (not-suc-le-zero l)
more_no_edge (u ∷ c) l h e = no_edge u c h e

-- the vertices as the ends of an edge of two elements: v is the other vertex, b whether the first and v are all of them
module _ (c : List ℕ) (some : 0 < length c) (e x : Element) {v : ℕ} {b : Bool} (other : v ≡ other_than (get_or c 0 0) c)
    (all_two : b ≡ every (λ w. among w (get_or c 0 0 ∷ v ∷ [])) c) where
  told : every (λ w. among w (get_or c 0 0 ∷ other_than (get_or c 0 0) c ∷ [])) c ≡ b
  told = sym (all_two ∙ ap (λ (y : ℕ). every (λ w. among w (get_or c 0 0 ∷ y ∷ [])) c) other)

  pub no_ends : b ≡ false → false ≡ (has_edge c e && has_edge c x)
  no_ends t = rw (more_no_edge c some (told ∙ t) e)

  of_two : b ≡ true → (y : Element) → has_edge (get_or c 0 0 ∷ v ∷ []) y ≡ has_edge c y
  of_two t y = ap (λ (w : ℕ). has_edge (get_or c 0 0 ∷ w ∷ []) y) other ∙ sym (two_edge c some (told ∙ t) y)

  pub ends_of_both : b ≡ true → {r : Bool} → r ≡ (has_edge (get_or c 0 0 ∷ v ∷ []) e && has_edge (get_or c 0 0 ∷ v ∷ []) x) → r ≡ (has_edge c e && has_edge c x)
  ends_of_both t f = f ∙ ap₂ {C = Bool} (λ p q. p && q) (of_two t e) (of_two t x)

-- ---- two vertices, and three different ones

two_of : (c : List ℕ) → length c ≡ 2 → c ≡ get_or c 0 0 ∷ get_or c 1 0 ∷ []
two_of [] h = absurd (omega arith)
two_of (u ∷ []) h = absurd (omega arith)
two_of (u ∷ v ∷ []) h = refl
two_of (u ∷ v ∷ w ∷ c) h = absurd (omega arith)

pub pair_of_both : (c : List ℕ) → length c ≡ 2 → (e x : Element) {r : Bool} → r ≡ (has_edge (get_or c 0 0 ∷ get_or c 1 0 ∷ []) e && has_edge (get_or c 0 0 ∷ get_or c 1 0 ∷ []) x)
    → r ≡ (has_edge c e && has_edge c x)
pair_of_both c h e x f = f ∙ ap (λ (d : List ℕ). has_edge d e && has_edge d x) (sym (two_of c h))

three_no_edge : (u v w : ℕ) (c : List ℕ) → (u ≡ v → ⊥) → (u ≡ w → ⊥) → (v ≡ w → ⊥) → (e : Element) → has_edge (u ∷ v ∷ w ∷ c) e ≡ false
three_no_edge u v w c a b d e = go (has_edge (u ∷ v ∷ w ∷ c) e) refl
  where
    neither : (w ≡ u) ⊎ (w ≡ v) → ⊥
    neither (inl k) = b (sym k)
    neither (inr k) = d (sym k)

    clash : (E : Edge ℕ) → T (same_set (u ∷ v ∷ w ∷ c) (ends E)) → ⊥
    clash (edge p q) k =
        let s = set_there (u ∷ v ∷ w ∷ c) (p ∷ q ∷ []) k in
        neither (either w u v (in_two p q u v w a (s u (among_first u (v ∷ w ∷ c))) (s v (among_later v u (v ∷ w ∷ c) (among_first v (w ∷ c))))
        (s w (among_later w u (v ∷ w ∷ c) (among_later w v (w ∷ c) (among_first w c))))))

    go : (r : Bool) → has_edge (u ∷ v ∷ w ∷ c) e ≡ r → has_edge (u ∷ v ∷ w ∷ c) e ≡ false
    go false q = q
    go true q = let r = some_at (λ E. same_set (u ∷ v ∷ w ∷ c) (ends E)) (element_edges e) (true-T q) in absurd (clash r.0 r.2)

differ : (x y : ℕ) → T (not (eqb x y)) → x ≡ y → ⊥
differ x y h e = subst T (ap not (eq-eqb x y e)) h

-- b: the first three vertices differ
pub apart_no_edge : (c : List ℕ) → 2 < length c → (e x : Element) {b : Bool}
    → b ≡ (not (eqb (get_or c 0 0) (get_or c 1 0)) && (not (eqb (get_or c 0 0) (get_or c 2 0)) && not (eqb (get_or c 1 0) (get_or c 2 0)))) → b ≡ true
    → false ≡ (has_edge c e && has_edge c x)
apart_no_edge [] h e x told t = absurd (omega arith)
apart_no_edge (u ∷ []) h e x told t = absurd (omega arith)
apart_no_edge (u ∷ v ∷ []) h e x told t = absurd (omega arith)
apart_no_edge (u ∷ v ∷ w ∷ c) h e x told t =
    let k = true-T (sym told ∙ t) in
    let l = and_right (not (eqb u v)) (not (eqb u w) && not (eqb v w)) k in
    rw (three_no_edge u v w c (differ u v (and_left (not (eqb u v)) (not (eqb u w) && not (eqb v w)) k)) (differ u w (and_left (not (eqb u w)) (not (eqb v w)) l))
    (differ v w (and_right (not (eqb u w)) (not (eqb v w)) l)) e)
