-- Blocks that grow: tetrahedra put into a block that is in order, one after the other, leave the block of all of them in order.
-- Assumes nothing.
use mathlib.Core.Path.{◌≡◌, refl, ap}
use mathlib.Core.Bool.{Bool, true, false, cond}
use mathlib.Core.List.{List, [], ◌∷◌, ◌++◌}
use Prim.Native.Nat.{ℕ, suc}
use lib.ListN.{length}
use Rattle.solids.specs.Solids.{Tet, of_tet}
use Rattle.solids.specs.Cut.{up_to, written, insert, in_order}
use Rattle.blocks.specs.BlockLoops.{joined}

pub joined-in_order : (ts us : List (Tet ℕ)) → joined ts (in_order us) ≡ in_order (ts ++ us)
joined-in_order [] us = refl
joined-in_order (t ∷ ts) us = ap (insert (written t)) (joined-in_order ts us)

-- one more
pub length_insert : (t : Tet ℕ) (us : List (Tet ℕ)) → length (insert t us) ≡ suc (length us)
length_insert t [] = refl
length_insert t (u ∷ us) = go (up_to (of_tet t) (of_tet u)) (length_insert t us)
  where
    go : (b : Bool) → length (insert t us) ≡ suc (length us) → length (cond b (t ∷ (u ∷ us)) (u ∷ insert t us)) ≡ suc (suc (length us))
    go true h = refl
    go false h = ap suc h
