-- The keys and the sizes of a table, element by element.
-- Assumes nothing.
use Rattle.std.proofs.Common.{◌≡◌, refl, sym, ap, ◌∙◌, List, [], ◌∷◌, ◌++◌, map, ℕ, ◌+◌, ◌≤◌, length, take, drop, set, arith, add-one, length-append}
use mathlib.Core.List.{append-nil, map-append}
use native.Mathlib.Nat.{zero-add}
use borrow.Rule.Slice.PartMut.{put_mid}
use lib.ListN.{length-map}
use lib.Seq.{drop-drop}
use Rattle.laws.specs.Lent.{placed}
use Rattle.laws.proofs.LentLaws.{placed-placed, placed-sets, length-placed}
use Rattle.laws.proofs.ListLaws.{gather_append}
use Rattle.solids.specs.Solids.{Tet}
use Rattle.solids.specs.Cut.{cut, cut_mesh}
use Rattle.records.specs.Record.{element_of, record_at, element_at, first_elements}
use Rattle.records.proofs.Theorems.{first-length}
use Rattle.tets.specs.Tets.{key_of}
use Rattle.blocks.specs.Blocks.{keys_of, sizes_of}

-- a part of a list that is written anew
pub put-placed : (l : List ℕ) (at : ℕ) (b : List ℕ) {k : ℕ} → k ≡ length b → put_mid at k l b ≡ placed l at b
unfolding placed
put-placed l at b {k} e = ap (λ (x : List ℕ). take at l ++ (b ++ x)) (drop-drop k at l ∙ ap (λ (j : ℕ). drop (at + j) l) e)

module _ (t : List ℕ) where
  -- the cut of the first k elements, and that of the element k
  abbrev pub cut_to : ℕ → List (Tet ℕ)
  cut_to k = cut_mesh (first_elements t k)

  abbrev pub cut_at : ℕ → List (Tet ℕ)
  cut_at k = cut (element_of (record_at t k))

  -- their keys and sizes
  abbrev pub keys_to : ℕ → List ℕ
  keys_to k = keys_of (first_elements t k)

  abbrev pub sizes_to : ℕ → List ℕ
  sizes_to k = sizes_of (first_elements t k)

  -- none of none
  pub count_none : 0 ≡ length (cut_to 0)
  unfolding cut_mesh first_elements
  count_none = refl

  pub keys_none : keys_to 0 ≡ []
  unfolding keys_of cut_mesh first_elements
  keys_none = refl

  pub sizes_none : sizes_to 0 ≡ []
  unfolding sizes_of first_elements
  sizes_none = refl

  -- one element more
  cut-next : (k : ℕ) → cut_to (k + 1) ≡ cut_to k ++ cut_at k
  unfolding cut_mesh first_elements element_at
  cut-next k =
      ap cut_to (add-one k)
      ∙ gather_append cut (first_elements t k) (element_at t k ∷ [])
      ∙ ap (λ l. cut_to k ++ l) (append-nil (cut_at k))

  pub count_next : (k : ℕ) → length (cut_to (k + 1)) ≡ length (cut_to k) + length (cut_at k)
  count_next k = ap length (cut-next k) ∙ length-append (cut_to k) (cut_at k)

  keys_next : (k : ℕ) → keys_to (k + 1) ≡ keys_to k ++ map key_of (cut_at k)
  unfolding keys_of
  keys_next k = ap (map key_of) (cut-next k) ∙ map-append key_of (cut_to k) (cut_at k)

  sizes_next : (k : ℕ) → sizes_to (k + 1) ≡ sizes_to k ++ (length (cut_at k) ∷ [])
  unfolding sizes_of first_elements element_at
  sizes_next k = ap sizes_to (add-one k) ∙ map-append (λ e. length (cut e)) (first_elements t k) (element_at t k ∷ [])

  keys_length : (k : ℕ) → length (keys_to k) ≡ length (cut_to k)
  unfolding keys_of
  keys_length k = length-map (cut_to k) key_of

  sizes_length : (k : ℕ) → length (sizes_to k) ≡ k
  unfolding sizes_of
  sizes_length k = length-map (first_elements t k) (λ e. length (cut e)) ∙ first-length t k

  -- the next element's keys, placed behind those before it
  pub keys_placed : (l : List ℕ) (k : ℕ) {m : ℕ} → m ≡ length (cut_to k) → m ≤ length l
      → placed (placed l 0 (keys_to k)) m (map key_of (cut_at k)) ≡ placed l 0 (keys_to (k + 1))
  keys_placed l k e h =
      ap (λ (i : ℕ). placed (placed l 0 (keys_to k)) i (map key_of (cut_at k))) (e ∙ sym (keys_length k) ∙ sym (zero-add (length (keys_to k))))
      ∙ placed-placed l 0 (keys_to k) (omega (arith, keys_length k)) (map key_of (cut_at k))
      ∙ ap (placed l 0) (sym (keys_next k))

  -- its size, stored behind those before it
  pub size_stored : (l : List ℕ) (k : ℕ) → k + 1 ≤ length l → {m : ℕ} → m ≡ length (cut_at k)
      → set (placed l 0 (sizes_to k)) k m ≡ placed l 0 (sizes_to (k + 1))
  size_stored l k h {m} e =
      let n = sizes_length k in
      let wide = length-placed l 0 (sizes_to k) (omega arith) in
      placed-sets (placed l 0 (sizes_to k)) k (m ∷ []) (omega arith)
      ∙ ap (λ (i : ℕ). placed (placed l 0 (sizes_to k)) i (m ∷ [])) (sym n ∙ sym (zero-add (length (sizes_to k))))
      ∙ placed-placed l 0 (sizes_to k) (omega arith) (m ∷ [])
      ∙ ap (placed l 0) (ap (λ (x : ℕ). sizes_to k ++ (x ∷ [])) e ∙ sym (sizes_next k))
