-- The corners of a proper element: how many they are, the place of the lowest, and a hexahedron's row.
-- Assumes nothing.
use mathlib.Core.Path.{◌≡◌}
use mathlib.Core.List.{List}
use Prim.Native.Nat.{ℕ, suc, ◌-◌, ◌≤◌, ◌<◌}
use native.Mathlib.Omega.{arith}
use lib.Dec.{T}
use lib.ListN.{length}
use Rattle.laws.specs.Words.{lowest}
use Rattle.solids.specs.declared.Solid.{Solid}
use Rattle.solids.specs.declared.Solid.TheVariants.{Tetrahedron, Pyramid, Prism, Hexahedron}
use Rattle.solids.specs.Solids.{element, corners, at, opposite, faces_of}
use Rattle.solids.specs.Cut.{first, bits_of}
use Rattle.solids.specs.Rows.{binary, row_of}
use Rattle.solids.specs.Fit.{proper}
use Rattle.solids.proofs.NumberingLaws.{lowest-place}
use Rattle.solids.proofs.ShapeLaws.{from_proper}
use Rattle.blocks.specs.BlockLoops.{Cornered, choice}
use Rattle.blocks.proofs.RowBounds.{row_small}

-- a solid has from four to eight corners
some-corners : (s : Solid) → (1 ≤ corners s) × (corners s ≤ 8)
some-corners Tetrahedron = (omega arith, omega arith)
some-corners Pyramid = (omega arith, omega arith)
some-corners Prism = (omega arith, omega arith)
some-corners Hexahedron = (omega arith, omega arith)

pub proper_cornered : (s : Solid) (vs : List ℕ) → T (proper (element s vs)) → Cornered vs
proper_cornered s vs h =
    let e = (from_proper s vs h).many in
    let b = some-corners s in
    record { some = omega (arith, b.0); most = omega (arith, b.1) }

-- the lowest number stands at its place
module _ (vs : List ℕ) (c : Cornered vs) where
  counted : length vs ≡ suc (length vs - 1)
  counted = omega (arith, c.some)

  pub lowest_corner : at vs (first vs) ≡ lowest vs
  lowest_corner = (lowest-place (length vs - 1) vs counted).0

-- a hexahedron's row is one of 64
module _ (vs : List ℕ) (h : T (proper (element Hexahedron vs))) where
  pub row_below : row_of vs < 64
  row_below = row_small vs (from_proper Hexahedron vs h)

-- the choice of far diagonals is that of the faces that do not hold the lowest corner
pub choice-is : (vs : List ℕ) {low high : ℕ} → low ≡ lowest vs → high ≡ at vs (opposite (first vs)) → choice low high (faces_of (element Hexahedron vs)) ≡ binary (bits_of vs)
unfolding choice
choice-is vs p q = rw (p, q)
