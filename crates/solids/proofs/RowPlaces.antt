-- The rows of the hexahedron's cuts as places: 64 rows of 24 places, none above 8; the table of all places is the rows one after the other, and
-- outside there is none.
-- Assumes nothing.
use mathlib.Core.Path.{◌≡◌, refl, sym, ap, ◌∙◌}
use mathlib.Core.Bool.{Bool, ◌&&◌}
use mathlib.Core.List.{List, [], ◌∷◌, ◌++◌}
use mathlib.Core.Logic.{◌⊎◌, inl, inr}
use Prim.Native.Nat.{ℕ, zero, suc, ◌+◌, ◌*◌, ◌≤◌, ◌<◌, zero-le}
use native.Mathlib.Nat.{zero-add}
use native.Mathlib.Omega.{arith}
use lib.Dec.{T, eqb, leb, eqb→eq, leb→le}
use lib.ListN.{length, get_or, get_or-append, get_or-eq_default}
use lib.Seq.{get_or-append-add}
use Rattle.laws.specs.Words.{every, gather}
use Rattle.solids.specs.Rows.{hex_rows, cut_places, row_places, row_place}
use Rattle.laws.proofs.TestLaws.{and_left, and_right, below, at_below}

-- 64 rows of 24 places, none above 8
abbrev row_fits : List ℕ → Bool
row_fits l = eqb (length l) 24 && every (λ p. leb p 8) l

rows_fit : T (every row_fits hex_rows)
unfolding hex_rows
rows_fit = tt

-- rows of 24 places, one after the other: place k of row r stands at r * 24 + k
joined_rows : (rows : List (List ℕ)) → T (every row_fits rows) → (r k : ℕ) → k < 24 → get_or (get_or rows r []) k 0 ≡ get_or (gather (λ row. row) rows) (r * 24 + k) 0
joined_rows [] h r k j = refl
joined_rows (row ∷ rows) h r k j = go (λ q. joined_rows rows (and_right (row_fits row) (every row_fits rows) h) q k j) r
  where
    long : length row ≡ 24
    long = eqb→eq (length row) 24 (and_left (eqb (length row) 24) (every (λ p. leb p 8) row) (and_left (row_fits row) (every row_fits rows) h))

    later : (q : ℕ) → get_or (row ++ gather (λ row. row) rows) (suc q * 24 + k) 0 ≡ get_or (gather (λ row. row) rows) (q * 24 + k) 0
    later q =
        let e : suc q * 24 + k ≡ length row + (q * 24 + k) = omega (arith, long) in
        ap (λ (i : ℕ). get_or (row ++ gather (λ row. row) rows) i 0) e ∙ get_or-append-add row (gather (λ row. row) rows) (q * 24 + k) 0

    go : ((q : ℕ) → get_or (get_or rows q []) k 0 ≡ get_or (gather (λ row. row) rows) (q * 24 + k) 0) → (q : ℕ) → get_or (get_or (row ∷ rows) q []) k 0 ≡ get_or (row ++ gather (λ row. row) rows) (q * 24 + k) 0
    go rest zero = sym (ap (λ (i : ℕ). get_or (row ++ gather (λ row. row) rows) i 0) (zero-add k) ∙ get_or-append row (gather (λ row. row) rows) 0 k (rw long j))
    go rest (suc q) = rest q ∙ sym (later q)

pub row_entry : (r k : ℕ) → r < 64 → k < 24 → row_place r k ≡ get_or cut_places (r * 24 + k) 0
unfolding row_place row_places cut_places
row_entry r k h j = joined_rows hex_rows rows_fit r k j

abbrev long_row : ℕ → Bool
long_row r = eqb (length (row_places r)) 24

rows_long : T (below 64 long_row)
unfolding row_places hex_rows
rows_long = tt

pub row_length : (r : ℕ) → r < 64 → length (row_places r) ≡ 24
row_length r h = eqb→eq (length (row_places r)) 24 (at_below 64 long_row rows_long r h)

rows_length : length hex_rows ≡ 64
unfolding hex_rows
rows_length = refl

pub row_beyond : (r k : ℕ) → 64 ≤ r → row_place r k ≡ 0
unfolding row_place row_places
row_beyond r k h = ap (λ (l : List ℕ). get_or l k 0) (get_or-eq_default hex_rows [] {n = r} (rw rows_length h))

-- a test that passes at each row passes at the row of any number, or there is none
at_row : (l : List (List ℕ)) (P : List ℕ → Bool) → T (every P l) → (r : ℕ) → (T (P (get_or l r []))) ⊎ (get_or l r [] ≡ [])
at_row [] P h r = inr refl
at_row (x ∷ l) P h zero = inl (and_left (P x) (every P l) h)
at_row (x ∷ l) P h (suc r) = at_row l P (and_right (P x) (every P l) h) r

pub entry_beyond : (r k : ℕ) → 24 ≤ k → row_place r k ≡ 0
unfolding row_place row_places
entry_beyond r k h = go (at_row hex_rows row_fits rows_fit r)
  where
    go : (T (row_fits (get_or hex_rows r []))) ⊎ (get_or hex_rows r [] ≡ []) → get_or (get_or hex_rows r []) k 0 ≡ 0
    go (inl t) = get_or-eq_default (get_or hex_rows r []) 0 {n = k} (rw (eqb→eq (length (get_or hex_rows r [])) 24 (and_left (eqb (length (get_or hex_rows r [])) 24) (every (λ p. leb p 8) (get_or hex_rows r [])) t)) h)
    go (inr e) = ap (λ (l : List ℕ). get_or l k 0) e

-- ---- every place is at most 8

pub at_any : (l : List ℕ) → T (every (λ p. leb p 8) l) → (k : ℕ) → get_or l k 0 ≤ 8
at_any [] h k = zero-le
at_any (x ∷ l) h zero = leb→le x 8 (and_left (leb x 8) (every (λ p. leb p 8) l) h)
at_any (x ∷ l) h (suc k) = at_any l (and_right (leb x 8) (every (λ p. leb p 8) l) h) k

pub row_place_small : (r k : ℕ) → row_place r k ≤ 8
unfolding row_place row_places
row_place_small r k = go (at_row hex_rows row_fits rows_fit r)
  where
    go : (T (row_fits (get_or hex_rows r []))) ⊎ (get_or hex_rows r [] ≡ []) → get_or (get_or hex_rows r []) k 0 ≤ 8
    go (inl t) = at_any (get_or hex_rows r []) (and_right (eqb (length (get_or hex_rows r [])) 24) (every (λ p. leb p 8) (get_or hex_rows r [])) t) k
    go (inr e) = rw (ap (λ (l : List ℕ). get_or l k 0) e) zero-le
