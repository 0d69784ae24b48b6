-- The cut of a whole record's element: by its row if it is a hexahedron, by the fan if it is not; at most six tetrahedra.
-- Assumes nothing.
use Rattle.std.proofs.Common.{◌≡◌, refl, sym, ap, ◌∙◌, subst, ℕ, ◌≤◌, List, length, arith}
use lib.Dec.{T}
use Rattle.solids.specs.declared.Solid.{Solid}
use Rattle.solids.specs.declared.Solid.TheVariants.{Tetrahedron, Pyramid, Prism, Hexahedron}
use Rattle.solids.specs.Solids.{Element, element}
use Rattle.solids.specs.Cut.{fan, tets_of, in_order, cut}
use Rattle.solids.specs.Rows.{cut_by_row}
use Rattle.solids.specs.Fit.{proper}
use Rattle.solids.proofs.ShapeLaws.{from_proper}
use Rattle.solids.proofs.RowLaws.{rows_agree}
use Rattle.solids.proofs.CountLaws.{length-in_order, proper_six}
use Rattle.records.specs.Record.{element_of}
use Rattle.records.specs.WholeRecords.{Whole}
use Rattle.records.proofs.RecordLaws.{whole-proper}
use Rattle.blocks.specs.BlockLoops.{Cornered}
use Rattle.blocks.proofs.CornerLaws.{proper_cornered}

-- at most six tetrahedra
pub cut-few : (r : List ℕ) → Whole r → length (cut (element_of r)) ≤ 6
cut-few r w = proper_six (element_of r) (whole-proper r w)

-- a record's element that the code has read as a solid with corners
module _ (r : List ℕ) (w : Whole r) {s : Solid} {vs : List ℕ} (e : element s vs ≡ element_of r) where
  is_proper : T (proper (element s vs))
  is_proper = subst (λ (x : Element). T (proper x)) (sym e) (whole-proper r w)

  pub is_cornered : Cornered vs
  is_cornered = proper_cornered s vs is_proper

  module _ (h : s ≡ Hexahedron) where
    pub hexahedron_proper : T (proper (element Hexahedron vs))
    hexahedron_proper = subst (λ (x : Solid). T (proper (element x vs))) h is_proper

    pub by_row : cut_by_row vs ≡ cut (element_of r)
    by_row = rows_agree vs (from_proper Hexahedron vs hexahedron_proper) ∙ ap (λ (x : Solid). cut (element x vs)) (sym h) ∙ ap cut e

  module _ (h : s ≡ Hexahedron → ⊥) where
    pub by_fan : in_order (fan (element s vs)) ≡ cut (element_of r)
    unfolding cut
    by_fan = ap in_order (go s h) ∙ ap cut e
      where
        go : (x : Solid) → (x ≡ Hexahedron → ⊥) → fan (element x vs) ≡ tets_of (element x vs)
        go Tetrahedron n = refl
        go Pyramid n = refl
        go Prism n = refl
        go Hexahedron n = absurd (n refl)

    pub fan_few : length (fan (element s vs)) ≤ 6
    fan_few = omega (arith, cut-few r w, ap length by_fan, length-in_order (fan (element s vs)))
