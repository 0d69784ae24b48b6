-- What is promised of the fit of two elements, in the words of specs/ alone: two answers that the contract allows are equal.
-- Assumes nothing.
use mathlib.Core.Path.{◌≡◌, sym, ◌∙◌}
use mathlib.Core.Bool.{Bool}
use mathlib.Core.List.{List}
use Prim.Native.Nat.{ℕ}
use Rattle.solids.specs.Fit.{fits}
use Rattle.records.specs.Record.{element_of}

-- `pair_fits`
pub pair_fits_unique : (a b : List ℕ) (r q : Bool) → r ≡ fits (element_of a) (element_of b) → q ≡ fits (element_of a) (element_of b) → r ≡ q
pair_fits_unique a b r q e f = e ∙ sym f
