-- Shapes that only the private functions of the room want; proofs/FanLaws.antt, ChoiceLaws.antt, RowTetLaws.antt, BlockLaws.antt and
-- FillLaws.antt say that they are what the page's definitions give.
use Rattle.std.specs.Prelude.{◌≡◌, cond, not, List, [], ◌∷◌, map, ℕ, ◌+◌, ◌*◌, ◌≤◌, eqb, length}
use Rattle.laws.specs.Words.{keep}
use Rattle.laws.specs.Lent.{laid, placed}
use Rattle.solids.specs.Solids.{Place, Vertex, Face, Tet, tet, Element, at, on_tet, holds}
use Rattle.solids.specs.Cut.{lowest_first, cut_face, follow, on_diagonal, written, insert, cut_mesh}
use Rattle.solids.specs.Rows.{binary, row_place}
use Rattle.tets.specs.Tets.{key_of}
use Rattle.blocks.specs.Blocks.{keys_of, sizes_of}

-- as many corners as a solid can have
pub record Cornered (vs : List Vertex) : Type 0 where
  pub some : 1 ≤ length vs
  pub most : length vs ≤ 8

-- ---- a block

-- numbers in ascending order, none below a bound
abbrev pub AscendingFrom : ℕ → List ℕ → Type 0
AscendingFrom low [] = Unit {0}
AscendingFrom low (x ∷ xs) = (low ≤ x) × AscendingFrom x xs

-- tetrahedra, in their written form, put into a list that is in order, the last of them first
abbrev pub joined : List (Tet Vertex) → List (Tet Vertex) → List (Tet Vertex)
joined [] us = us
joined (t ∷ ts) us = insert (written t) (joined ts us)

-- a vertex followed by each triangle of a cut face, where the face does not hold it
unfoldable pub face_tets : Vertex → Face Vertex → List (Tet Vertex)
face_tets v f = cond (holds v f) [] (map (follow v) (cut_face f))

-- ---- the row of a hexahedron

-- of the faces that do not hold the lowest corner: the choice of their diagonals, those through the opposite corner, as a number
unfoldable pub choice : (low high : Vertex) → List (Face Vertex) → ℕ
choice low high fs = binary (map (λ f. on_diagonal high (lowest_first f)) (keep (λ f. not (holds low f)) fs))

-- the choice with one face more in front
unfoldable pub with_bit : (low high : Vertex) → Face Vertex → ℕ → ℕ
with_bit low high f n = cond (holds low f) n (cond (on_diagonal high (lowest_first f)) 1 0 + 2 * n)

-- the tetrahedron k of a row, from 0, in places
abbrev pub row_tet : ℕ → ℕ → Tet Place
row_tet r k = tet (row_place r (4 * k)) (row_place r (4 * k + 1)) (row_place r (4 * k + 2)) (row_place r (4 * k + 3))

-- the same in vertex numbers; none where it is four zeros
unfoldable pub row_tets_at : List Vertex → ℕ → ℕ → List (Tet Vertex)
row_tets_at vs r k = cond (eqb (row_place r (4 * k)) 0) [] (on_tet (at vs) (row_tet r k) ∷ [])

-- ---- a table

-- the keys of tetrahedra stored from an index on, and their count
pub record Stored (ts : List (Tet Vertex)) (at : ℕ) (old : List ℕ) (r : ℕ) (new : List ℕ) : Type 0 where
  pub count : r ≡ length ts
  pub output : new ≡ placed old at (map key_of ts)

-- the keys and the sizes of elements, laid; and the count of their tetrahedra
pub record Filled (es : List Element) (keys sizes : List ℕ) (r : ℕ) (keys' sizes' : List ℕ) : Type 0 where
  pub count : r ≡ length (cut_mesh es)
  pub keys_laid : keys' ≡ laid (keys_of es) keys
  pub sizes_laid : sizes' ≡ laid (sizes_of es) sizes
