-- Computed over all shapes of a hexahedron: its row is one of 64.
-- Assumes nothing.
use mathlib.Core.Bool.{Bool}
use mathlib.Core.List.{List}
use Prim.Native.Nat.{ℕ, ◌<◌}
use lib.Dec.{T, ltb, ltb→lt}
use Rattle.solids.specs.declared.Solid.TheVariants.{Hexahedron}
use Rattle.solids.specs.Solids.{opposite}
use Rattle.solids.specs.Cut.{first}
use Rattle.solids.specs.Rows.{row_number, row_of}
use Rattle.solids.proofs.RenamingLaws.{bits_at}
use Rattle.solids.proofs.ShapeLaws.{Proper, far, turns_of, all_shapes, at_shape, bits_f}

abbrev bits_of_shape : ℕ → List ℕ → List Bool
bits_of_shape a ks = bits_at (opposite a) (far Hexahedron a) ks

small : ℕ → List ℕ → Bool
small a ks = ltb (row_number a (bits_of_shape a ks)) 64

all_small : T (all_shapes Hexahedron small)
unfolding small
all_small = tt

-- 64 rows
pub row_small : (vs : List ℕ) → Proper Hexahedron vs → row_of vs < 64
unfolding small
row_small vs h =
    let bits = bits_of_shape (first vs) (turns_of Hexahedron vs) in
    rw (bits_f vs h) (ltb→lt (row_number (first vs) bits) 64 (at_shape Hexahedron small all_small vs h))
