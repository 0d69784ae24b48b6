-- One mesh, listed in other ways: elements relisted by rotations, elements in another order, and the tetrahedra of its cut given as elements.
use Rattle.std.specs.Prelude.{Bool, ◌&&◌, ◌≡◌, List, [], ◌∷◌, map, ℕ, eqb, ltb, T, length, get_or}
use Rattle.laws.specs.Words.{every, distinct}
use Rattle.solids.specs.Solids.{Place, Vertex, tetrahedron, Tet, Element, element, corners, of_tet, corners_of}
use Rattle.solids.specs.Rotations.{is_rotation, relisted}
use Rattle.solids.specs.Reference.{solid_in}

-- x is e as it was, or e, an element with as many corners as its solid has, relisted by a rotation of its solid
pub data Relists (e x : Element) : Type 0 where
  as_it_was : x ≡ e → Relists e x
  by_rotation : (ρ : List Place) → T (is_rotation (solid_in e) ρ) → length (corners_of e) ≡ corners (solid_in e) → x ≡ relisted ρ e → Relists e x

-- each of the elements as it was, or relisted
pub data Relisting : List Element → List Element → Type 0 where
  none : Relisting [] []
  next : {e x : Element} {es xs : List Element} → Relists e x → Relisting es xs → Relisting (e ∷ es) (x ∷ xs)

-- a reordering of n things: the numbers below n, each once, in another order
abbrev pub is_order : ℕ → List ℕ → Bool
is_order n σ = eqb (length σ) n && (every (λ i. ltb i n) σ && distinct σ)

module _ {A : Type 0} where
  -- the things in the order σ, counted from 0: first the one that σ names first (d stands where σ names none)
  abbrev pub picked : A → List ℕ → List A → List A
  picked d σ l = map (λ i. get_or l i d) σ

-- a tetrahedron of the cut, given as an element
abbrev pub as_element : Tet Vertex → Element
as_element t = element tetrahedron (of_tet t)
