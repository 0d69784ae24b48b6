-- Keys parted into blocks: one block more, the blocks of an accepted table, and that their vertices are within the limits.
-- Assumes nothing.
use mathlib.Core.Path.{◌≡◌, refl, sym, ap, ◌∙◌, subst}
use mathlib.Core.List.{List, [], ◌∷◌, ◌++◌, map, append-nil, append_assoc}
use Prim.Native.Nat.{ℕ, zero, suc, ◌+◌, ◌-◌, ◌≤◌, ◌<◌}
use native.Mathlib.Nat.{le_refl, add-zero, add-suc, add-sub_of_le}
use native.Mathlib.Numerals.{add-one}
use native.Mathlib.Omega.{arith}
use lib.Dec.{T, ltb, leb, ltb→lt, leb→le}
use lib.IntN.{ℤ}
use lib.ListN.{length, take, drop, get_or, length-append, length-map, get_or-map}
use lib.Seq.{take_at, drop_at, take-suc, take-length, drop-drop}
use Rattle.laws.proofs.ListLaws.{map-drop}
use Rattle.limits.specs.Limits.{element_limit, tetrahedron_limit}
use Rattle.laws.specs.Words.{every}
use Rattle.laws.proofs.TestLaws.{and_left, and_right, true-T}
use Rattle.laws.proofs.EveryLaws.{every_implies, every_index}
use Rattle.solids.specs.Solids.{Tet, Element, of_tet}
use Rattle.solids.specs.Cut.{cut, cut_mesh}
use Rattle.solids.specs.Fit.{proper}
use Rattle.solids.proofs.CountLaws.{proper_six}
use Rattle.volume.specs.Volume.{point_in_range, point_at}
use Rattle.records.specs.WholeRecords.{is_number}
use Rattle.records.proofs.Theorems.{first-length}
use Rattle.judging.proofs.Theorems.{accepted-elements, accepted-few, accepted-proper}
use Rattle.tets.specs.Tets.{keyed}
use Rattle.vertices.specs.Vertices.{Ranged}
use Rattle.blocks.specs.Blocks.{sizes_of, numbered, BlocksCut}
use Rattle.blocks.proofs.Theorems.{keys_few, keys_kept, sizes_kept, keys_first, sizes_first, accepted-numbered, keys_tell}
use Rattle.signs.specs.SignLoops.{parted, total, ranged_tet, RangedBlocks}

-- ---- sizes

total_append : (l m : List ℕ) → total (l ++ m) ≡ total l + total m
total_append [] m = omega arith
total_append (x ∷ l) m = omega (arith, total_append l m)

-- one size more
pub total-next : (l : List ℕ) (k : ℕ) → k < length l → total (take (k + 1) l) ≡ total (take k l) + get_or l k 0
total-next l k h =
    ap (λ (i : ℕ). total (take i l)) (add-one k) ∙ ap total (take-suc l k 0 h) ∙ total_append (take k l) (get_or l k 0 ∷ []) ∙ omega arith

total_grows : (l : List ℕ) (d k : ℕ) → k + d ≤ length l → total (take k l) ≤ total (take (k + d) l)
total_grows l zero k h = rw (add-zero k) (le_refl (total (take k l)))
total_grows l (suc d) k h =
    rw (add-suc k d, ← add-one (k + d)) (omega (arith, total-next l (k + d) (omega arith), total_grows l d k (omega arith)))

pub total-most : (l : List ℕ) (k : ℕ) → k ≤ length l → total (take k l) ≤ total l
total-most l k h =
    rw (take-length l) at (rw (add-sub_of_le h) at (total_grows l (length l - k) k (omega arith)))

-- ---- parts

-- one part more
parted_last : (ts : List (Tet ℕ)) (ss : List ℕ) (s : ℕ) → parted ts (ss ++ (s ∷ [])) ≡ parted ts ss ++ (take s (drop (total ss) ts) ∷ [])
unfolding parted
parted_last ts [] s = refl
parted_last ts (x ∷ ss) s =
    ap (λ bs. take x ts ∷ bs)
    (parted_last (drop x ts) ss s ∙ ap (λ u. parted (drop x ts) ss ++ (take s u ∷ [])) (drop-drop (total ss) x ts))

pub parted-next : (ts : List (Tet ℕ)) (sizes : List ℕ) (k : ℕ) → k < length sizes
    → parted ts (take (k + 1) sizes) ≡ parted ts (take k sizes) ++ (take (get_or sizes k 0) (drop (total (take k sizes)) ts) ∷ [])
parted-next ts sizes k h =
    ap (λ (i : ℕ). parted ts (take i sizes)) (add-one k) ∙ ap (parted ts) (take-suc sizes k 0 h) ∙ parted_last ts (take k sizes) (get_or sizes k 0)

pub parted-none : (ts : List (Tet ℕ)) (sizes : List ℕ) → parted ts (take 0 sizes) ≡ []
unfolding parted
parted-none ts sizes = refl

-- a part of the keys is that block
take-map : {A B : Type 0} (f : A → B) (i : ℕ) (l : List A) → take i (map f l) ≡ map f (take i l)
take-map f zero l = refl
take-map f (suc i) [] = refl
take-map f (suc i) (x ∷ l) = ap (λ m. f x ∷ m) (take-map f i l)

pub part-is : (keys : List ℕ) (at size : ℕ) → take size (drop at (map keyed keys)) ≡ map keyed (take size (drop at keys))
part-is keys at size = ap (take size) (map-drop keyed at keys) ∙ take-map keyed size (drop at keys)

-- the cut of elements, whatever stands behind it, parted by their sizes
pub parted-cut : (es : List Element) (rest : List (Tet ℕ)) → parted (cut_mesh es ++ rest) (sizes_of es) ≡ map cut es
unfolding parted sizes_of cut_mesh
parted-cut [] rest = refl
parted-cut (e ∷ es) rest =
    let behind = cut_mesh es ++ rest in
    let q : cut_mesh (e ∷ es) ++ rest ≡ cut e ++ behind = append_assoc (cut e) (cut_mesh es) rest in
    ap (λ ts. parted ts (sizes_of (e ∷ es))) q
    ∙ (λ i. take_at (cut e) behind (length (cut e)) refl i ∷ parted (drop_at (cut e) behind (length (cut e)) refl i) (sizes_of es))
    ∙ ap (λ bs. cut e ∷ bs) (parted-cut es rest)

total-cut : (es : List Element) → total (sizes_of es) ≡ length (cut_mesh es)
unfolding sizes_of cut_mesh
total-cut [] = refl
total-cut (e ∷ es) = ap (λ (n : ℕ). length (cut e) + n) (total-cut es) ∙ sym (length-append (cut e) (cut_mesh es))

sizes_many : (es : List Element) → length (sizes_of es) ≡ length es
unfolding sizes_of
sizes_many es = length-map es (λ e. length (cut e))

small_cut : (es : List Element) → T (every proper es) → (k : ℕ) → k < length es → get_or (sizes_of es) k 0 ≤ 6
unfolding sizes_of
small_cut [] h k l = absurd (omega arith)
small_cut (e ∷ es) h zero l = proper_six e (and_left (proper e) (every proper es) h)
small_cut (e ∷ es) h (suc k) l = small_cut es (and_right (proper e) (every proper es) h) k (omega arith)

-- ---- within the limits

module _ (table : List ℤ) (v : ℕ) (r : Ranged table v) where
  number-ranged : (w : ℕ) → T (is_number v w) → T (point_in_range (point_at table w))
  number-ranged w h =
      let low = ltb→lt 0 w (and_left (ltb 0 w) (leb w v) h) in
      let high = leb→le w v (and_right (ltb 0 w) (leb w v) h) in
      let e : w - 1 + 1 ≡ w = omega arith in
      true-T (rw e at (r.each (w - 1) (omega arith)))

  tet-ranged : (u : Tet ℕ) → T (numbered v u) → T (ranged_tet table u)
  unfolding numbered ranged_tet
  tet-ranged u h = every_implies (is_number v) (λ w. point_in_range (point_at table w)) number-ranged (of_tet u) h

-- ---- the blocks of an accepted table

module _ {v n : ℕ} {t keys sizes : List ℕ} {count : ℕ} {keys' sizes' : List ℕ} (b : BlocksCut v n t keys sizes count keys' sizes') where
  elements-many : length b.elements ≡ n
  elements-many = ap length (accepted-elements v n t b.elements b.accepts) ∙ first-length t n

  -- the keys tell the cut
  told : map keyed (take count keys') ≡ cut_mesh b.elements
  told = ap (map keyed) (keys_first b) ∙ keys_tell v n t b.elements b.accepts

  -- parted by the sizes they are the cuts of the elements
  pub blocks_are : parted (map keyed (take count keys')) (take n sizes') ≡ map cut b.elements
  blocks_are =
      (λ i. parted (told i) (sizes_first b i)) ∙ ap (λ ts. parted ts (sizes_of b.elements)) (sym (append-nil (cut_mesh b.elements)))
      ∙ parted-cut b.elements []

  -- all keys and all sizes are there
  pub keys_enough : tetrahedron_limit ≤ length keys → count ≤ length keys'
  keys_enough l = omega (arith, keys_few b, keys_kept b l)

  pub sizes_enough : element_limit ≤ length sizes → n ≤ length sizes'
  sizes_enough l = omega (arith, sizes_kept b l, elements-many, accepted-few v n t b.elements b.accepts)

  module _ (table : List ℤ) (r : Ranged table v) where
    abbrev es : List Element
    es = b.elements

    abbrev key : ℕ → ℕ
    key j = get_or (take count keys') j 0

    key_ranged : (j : ℕ) → j < length (cut_mesh es) → T (ranged_tet table (keyed (key j)))
    key_ranged j h =
        let all = every_implies (numbered v) (ranged_tet table) (tet-ranged table v r) (cut_mesh es) (accepted-numbered v n t es b.accepts) in
        let e = ap (λ ts. get_or ts j (keyed 0)) (sym told) ∙ get_or-map keyed (take count keys') j 0 in
        subst (λ u. T (ranged_tet table u)) e (every_index (ranged_tet table) (cut_mesh es) (keyed 0) j all h)

    total-is : total (sizes_of es) ≡ length (take count keys')
    total-is = total-cut es ∙ ap length (sym told) ∙ length-map (take count keys') keyed

    pub blocks_ranged : RangedBlocks table (take count keys') (take n sizes')
    blocks_ranged = rw (sizes_first b) (record {
      few = omega (arith, sizes_many es, accepted-few v n t es b.accepts);
      small = λ k h. small_cut es (accepted-proper v n t es b.accepts) k (omega (arith, sizes_many es));
      room = omega (arith, total-is);
      ranged = λ j h. key_ranged j (omega (arith, total-cut es));
    })
