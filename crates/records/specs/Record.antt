-- The element record: nine numbers, its kind (4, 5, 6 or 8, its corner count), then eight vertex numbers, unused ones zero.
-- Judging and cutting take a record apart by these names.
use Rattle.std.specs.Prelude.{Bool, cond, not, ◌&&◌, ◌||◌, List, [], ◌∷◌, ◌++◌, ℕ, zero, suc, ◌*◌, ◌/◌, eqb, ltb, length, get_or, take, drop, Result, Ok, Err}
use Rattle.limits.specs.Limits.{element_width, corner_width}
use Rattle.laws.specs.Words.{some, distinct}
use Rattle.faults.specs.declared.Fault.{Fault}
use Rattle.faults.specs.declared.Fault.TheVariants as fault
use Rattle.solids.specs.declared.Solid.{Solid}
use Rattle.solids.specs.declared.Solid.TheVariants.{Tetrahedron, Pyramid, Prism, Hexahedron}
use Rattle.solids.specs.Solids.{Place, Vertex, Tet, of_tet, Element, element, at}

-- the kind, which is the corner count
unfoldable pub kind_of : List ℕ → ℕ
kind_of r = get_or r 0 0

-- the eight vertex numbers
unfoldable pub numbers_of : List ℕ → List ℕ
numbers_of r = take corner_width (drop 1 r)

-- the vertex numbers of the corners
unfoldable pub used_of : List ℕ → List ℕ
used_of r = take (kind_of r) (numbers_of r)

-- the unused vertex numbers
unfoldable pub spare_of : List ℕ → List ℕ
spare_of r = drop (kind_of r) (numbers_of r)

-- the record of a kind, the vertex numbers of its corners and the unused ones
abbrev pub record_of : ℕ → List ℕ → List ℕ → List ℕ
record_of k used spare = k ∷ (used ++ spare)

-- a tetrahedron as a record: kind 4, its four vertex numbers, unused ones zero
abbrev pub as_record : Tet Vertex → List ℕ
as_record t = record_of 4 (of_tet t) (0 ∷ 0 ∷ 0 ∷ 0 ∷ [])

-- the vertex number at a place, 0 where there is none
unfoldable pub corner_at : List ℕ → Place → ℕ
corner_at r p = at (numbers_of r) p

-- a kind is 4, 5, 6 or 8
unfoldable pub is_kind : ℕ → Bool
is_kind k = eqb k 4 || (eqb k 5 || (eqb k 6 || eqb k 8))

-- the solid of a kind; any other number is refused before its solid is asked for
unfoldable pub solid_of : ℕ → Solid
solid_of k = cond (eqb k 4) Tetrahedron (cond (eqb k 5) Pyramid (cond (eqb k 6) Prism Hexahedron))

-- the element that a record holds
unfoldable pub element_of : List ℕ → Element
element_of r = element (solid_of (kind_of r)) (used_of r)

-- VERTEX: a vertex number 0 or above the limit
abbrev pub stray_vertex : ℕ → ℕ → Bool
stray_vertex limit v = eqb v 0 || ltb limit v

-- SPARE: an unused vertex number not zero
abbrev pub not_zero : ℕ → Bool
not_zero v = not (eqb v 0)

-- KIND, VERTEX, SPARE, REPEAT, in this order: the first fault of a record whose vertex numbers may go up to a limit;
-- what is not nine numbers is KIND
unfoldable pub record_finding : ℕ → List ℕ → Result (Unit {0}) Fault
record_finding limit r =
    cond (not (eqb (length r) element_width && is_kind (kind_of r))) (Err fault.Kind)
    (cond (some (stray_vertex limit) (used_of r)) (Err fault.Vertex)
    (cond (some not_zero (spare_of r)) (Err fault.Spare)
    (cond (not (distinct (used_of r))) (Err fault.Repeat)
    (Ok tt))))

-- how many whole records a table holds
unfoldable pub record_count : List ℕ → ℕ
record_count t = length t / element_width

-- the record k of a table, from 0
unfoldable pub record_at : List ℕ → ℕ → List ℕ
record_at t k = take element_width (drop (element_width * k) t)

-- the element k of a table, from 0
unfoldable pub element_at : List ℕ → ℕ → Element
element_at t k = element_of (record_at t k)

-- the first n elements of a table, in their order
unfoldable pub first_elements : List ℕ → ℕ → List Element
first_elements t zero = []
first_elements t (suc n) = first_elements t n ++ (element_at t n ∷ [])
