-- A row of cuts, tetrahedron by tetrahedron.
-- Assumes nothing.
use Rattle.std.proofs.Common.{◌≡◌, refl, sym, ap, ◌∙◌, Bool, true, false, cond, List, [], ◌∷◌, ◌++◌, map, ℕ, suc, ◌+◌, ◌-◌, ◌*◌, ◌≤◌, ◌<◌, length, get_or, drop, arith, eqb, length-append, length-drop, eq-eqb, ne_eqb}
use Prim.Native.Nat.{zero-le}
use native.Mathlib.Nat.{le_refl}
use lib.Seq.{drop-cons}
use Rattle.solids.specs.Solids.{Tet, on_tet, at}
use Rattle.solids.specs.Cut.{in_order}
use Rattle.solids.specs.Rows.{row_places, row_place, row_tets}
use Rattle.solids.proofs.RowPlaces.{row_length}
use Rattle.solids.proofs.CountLaws.{length-in_order}
use Rattle.blocks.specs.BlockLoops.{joined, row_tet, row_tets_at}
use Rattle.blocks.proofs.BlockLaws.{joined-in_order}

-- four places more
four_places : (l : List ℕ) (j : ℕ) → j + 4 ≤ length l → drop j l ≡ get_or l j 0 ∷ get_or l (j + 1) 0 ∷ get_or l (j + 2) 0 ∷ get_or l (j + 3) 0 ∷ drop (j + 4) l
four_places l j h =
    let a : suc j ≡ j + 1 = omega arith in
    let b : suc (j + 1) ≡ j + 2 = omega arith in
    let c : suc (j + 2) ≡ j + 3 = omega arith in
    let d : suc (j + 3) ≡ j + 4 = omega arith in
    let x = drop-cons l j 0 (omega arith) in
    let y = drop-cons l (j + 1) 0 (omega arith) in
    let z = drop-cons l (j + 2) 0 (omega arith) in
    let w = drop-cons l (j + 3) 0 (omega arith) in
    cc

-- one at most
pub one_at_most : (vs : List ℕ) (r k : ℕ) → length (row_tets_at vs r k) ≤ 1
unfolding row_tets_at
one_at_most vs r k = go (eqb (row_place r (4 * k)) 0)
  where
    go : (b : Bool) → length (cond b [] (on_tet (at vs) (row_tet r k) ∷ [])) ≤ 1
    go true = zero-le
    go false = le_refl 1

-- a tetrahedron of a row by its two cases
pub row_none : (vs : List ℕ) (r k : ℕ) → row_place r (4 * k) ≡ 0 → row_tets_at vs r k ≡ []
unfolding row_tets_at
row_none vs r k e = rw (eq-eqb (row_place r (4 * k)) 0 e)

pub row_one : (vs : List ℕ) (r k : ℕ) → (row_place r (4 * k) ≡ 0 → ⊥) → row_tets_at vs r k ≡ on_tet (at vs) (row_tet r k) ∷ []
unfolding row_tets_at
row_one vs r k e = rw (ne_eqb (row_place r (4 * k)) 0 e)

-- the tetrahedra of a row from k on, in vertex numbers
abbrev pub row_tets_from : List ℕ → ℕ → ℕ → List (Tet ℕ)
row_tets_from vs r k = map (on_tet (at vs)) (row_tets (drop (4 * k) (row_places r)))

module _ (vs : List ℕ) (r : ℕ) (below : r < 64) where
  abbrev pub row_from : ℕ → List (Tet ℕ)
  row_from = row_tets_from vs r

  row-next : (k : ℕ) → k < 6 → row_from k ≡ row_tets_at vs r k ++ row_from (suc k)
  unfolding row_tets_at row_place
  row-next k l =
      let e : 4 * k + 4 ≡ 4 * suc k = omega arith in
      ap (λ (x : List ℕ). map (on_tet (at vs)) (row_tets x)) (four_places (row_places r) (4 * k) (omega (arith, row_length r below)))
      ∙ go (eqb (row_place r (4 * k)) 0)
      ∙ ap (λ (n : ℕ). row_tets_at vs r k ++ map (on_tet (at vs)) (row_tets (drop n (row_places r)))) e
    where
      rest : List (Tet ℕ)
      rest = row_tets (drop (4 * k + 4) (row_places r))

      go : (b : Bool) → map (on_tet (at vs)) (cond b rest (row_tet r k ∷ rest)) ≡ cond b [] (on_tet (at vs) (row_tet r k) ∷ []) ++ map (on_tet (at vs)) rest
      go true = refl
      go false = refl

  -- none behind the last
  pub row-end : row_from 6 ≡ []
  row-end = ap (λ (x : List ℕ). map (on_tet (at vs)) (row_tets x)) (none (drop 24 (row_places r)) (length-drop 24 (row_places r) ∙ omega (arith, row_length r below)))
    where
      none : (x : List ℕ) → length x ≡ 0 → x ≡ []
      none [] e = refl
      none (y ∷ x) e = absurd (omega arith)

  -- a block of the tetrahedra from k on, and that of the one before it
  module _ (k : ℕ) (h : 0 < k) (up : k ≤ 6) {ts : List (Tet ℕ)} (b : ts ≡ in_order (row_from k)) where
    pub row-step : joined (row_tets_at vs r (k - 1)) ts ≡ in_order (row_from (k - 1))
    row-step =
        let e : suc (k - 1) ≡ k = omega arith in
        ap (joined (row_tets_at vs r (k - 1))) b
        ∙ joined-in_order (row_tets_at vs r (k - 1)) (row_from k)
        ∙ ap in_order (ap (λ (j : ℕ). row_tets_at vs r (k - 1) ++ row_from j) (sym e) ∙ sym (row-next (k - 1) (omega arith)))

    pub row-room : length ts + k ≤ 6 → {us : List (Tet ℕ)} → us ≡ in_order (row_from (k - 1)) → length us + (k - 1) ≤ 6
    row-room room {us} e =
        let s : suc (k - 1) ≡ k = omega arith in
        omega (
          arith,
          one_at_most vs r (k - 1),
          ap length b ∙ length-in_order (row_from k),
          ap length e ∙ length-in_order (row_from (k - 1)),
          ap length (row-next (k - 1) (omega arith) ∙ ap (λ (j : ℕ). row_tets_at vs r (k - 1) ++ row_from j) s)
              ∙ length-append (row_tets_at vs r (k - 1)) (row_from k),
        )
