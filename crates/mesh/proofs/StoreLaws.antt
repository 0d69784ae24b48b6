-- Tetrahedra as numbers, one after the other, and stored one after the other from the front on.
-- Assumes nothing.
use mathlib.Core.Path.{◌≡◌, refl, sym, ap, ◌∙◌}
use mathlib.Core.List.{List, [], ◌∷◌, ◌++◌, map, map-append}
use Prim.Native.Nat.{ℕ, ◌+◌, ◌*◌, ◌≤◌, ◌<◌}
use native.Mathlib.Numerals.{add-one}
use native.Mathlib.Omega.{arith}
use lib.ListN.{length, take, drop, get_or, length-map}
use lib.Seq.{take-suc, length-take-le, drop-drop}
use borrow.Rule.Slice.PartMut.{put_mid}
use Rattle.limits.specs.Limits.{tetrahedron_width}
use Rattle.laws.specs.Lent.{placed}
use Rattle.laws.proofs.LentLaws.{placed-placed}
use Rattle.laws.proofs.ListLaws.{gather_append}
use Rattle.solids.specs.Solids.{Tet, tet, of_tet}
use Rattle.tets.specs.Tets.{keyed}
use Rattle.mesh.specs.Cutting.{flat}

flat_append : (x y : List (Tet ℕ)) → flat (x ++ y) ≡ flat x ++ flat y
unfolding flat
flat_append x y = gather_append of_tet x y

pub length-flat : (x : List (Tet ℕ)) → length (flat x) ≡ tetrahedron_width * length x
unfolding flat
length-flat [] = refl
length-flat (tet a b c d ∷ x) = omega (arith, length-flat x)

-- numbers copied over a part as long as they are
pub put_mid-placed : (l : List ℕ) (at : ℕ) {k : ℕ} (b : List ℕ) {ys : List ℕ} → ys ≡ b → k ≡ length b → put_mid at k l ys ≡ placed l at b
unfolding placed
put_mid-placed l at b e f =
    (λ i. take at l ++ (e i ++ drop (f i) (drop at l))) ∙ ap (λ (x : List ℕ). take at l ++ (b ++ x)) (drop-drop (length b) at l)

-- tetrahedra placed right after others
placed-after : (l : List ℕ) (x y : List (Tet ℕ)) {m : ℕ} → m ≡ tetrahedron_width * length x → tetrahedron_width * length x ≤ length l
    → placed (placed l 0 (flat x)) m (flat y) ≡ placed l 0 (flat (x ++ y))
placed-after l x y {m} e h =
    let f = length-flat x in
    let g : m ≡ 0 + length (flat x) = omega arith in
    ap (λ (n : ℕ). placed (placed l 0 (flat x)) n (flat y)) g
    ∙ placed-placed l 0 (flat x) (omega arith) (flat y)
    ∙ ap (placed l 0) (sym (flat_append x y))

-- one tetrahedron more of an array of keys
pub placed-next : (l b : List ℕ) (k : ℕ) → k < length b → tetrahedron_width * k ≤ length l
    → placed (placed l 0 (flat (map keyed (take k b)))) (tetrahedron_width * k) (flat (keyed (get_or b k 0) ∷ [])) ≡ placed l 0 (flat (map keyed (take (k + 1) b)))
placed-next l b k h room =
    let m : length (map keyed (take k b)) ≡ k = length-map (take k b) keyed ∙ length-take-le k b (omega arith) in
    placed-after l (map keyed (take k b)) (keyed (get_or b k 0) ∷ []) (omega arith) (omega arith)
    ∙ ap (λ ts. placed l 0 (flat ts)) (sym (ap (λ (i : ℕ). map keyed (take i b)) (add-one k) ∙ ap (map keyed) (take-suc b k 0 h) ∙ map-append keyed (take k b) (get_or b k 0 ∷ [])))
