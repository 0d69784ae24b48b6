-- What is promised of the edges of an element, in the words of specs/ alone: two answers that the contract allows are equal.
-- Assumes nothing.
use mathlib.Core.Path.{◌≡◌, sym, ◌∙◌}
use mathlib.Core.Bool.{Bool}
use mathlib.Core.List.{List, [], ◌∷◌}
use Prim.Native.Nat.{ℕ}
use Rattle.solids.specs.declared.Solid.{Solid}
use Rattle.solids.specs.Solids.{element}
use Rattle.solids.specs.Fit.{has_edge}

-- `has_edge`
pub has_edge_unique : (u v : ℕ) (s : Solid) (vs : List ℕ) (r q : Bool) → r ≡ has_edge (u ∷ v ∷ []) (element s vs) → q ≡ has_edge (u ∷ v ∷ []) (element s vs) → r ≡ q
has_edge_unique u v s vs r q e f = e ∙ sym f
