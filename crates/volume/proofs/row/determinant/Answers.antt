-- `volume::row::determinant` meets its contract: a minor is within 2 * 10^12, a number of a row times it within 2 * 10^18, the whole within 6 * 10^18.
-- Assumes nothing.
use mathlib.Core.Path.{◌≡◌, ◌∙◌}
use lib.IntN.{ℤ}
use Rattle.laws.specs.Sizes.{Within}
use Rattle.laws.proofs.SizeLaws.{Is, is, is_by, kept, fits_sub, fits_add, fits_mul, is_sub, is_mul, is_add}
use Rattle.volume.specs.Volume.{minor, determinant}
use Rattle.volume.specs.RowLoops.{reach}
use Rattle.volume.proofs.BoundLaws.{minor_reach, minor-within}
use Rattle.volume.proofs.row.determinant.Goals as goal

-- a minor of four fields, as a call gives it
is_minor : {a b c d r : ℤ} → Within reach a → Within reach b → Within reach c → Within reach d
    → r ≡ minor (kept a) (kept b) (kept c) (kept d) → Is minor_reach (kept r) (minor a b c d)
is_minor ha hb hc hd e =
    is_by
    (e ∙ (λ i. minor ((is ha tt).same i) ((is hb tt).same i) ((is hc tt).same i) ((is hd tt).same i)))
    (minor-within ha hb hc hd)
    tt

pub returns : goal.returns
unfolding determinant
returns c =
    let u = c.u.invariant in
    let v = c.v.invariant in
    let w = c.w.invariant in
    (is_add
    (is_sub
    (is_mul (is u.on_x tt) (is_minor v.on_y v.on_z w.on_y w.on_z c.minor-x.ensures) tt)
    (is_mul (is u.on_y tt) (is_minor v.on_x v.on_z w.on_x w.on_z c.minor-y.ensures) tt)
    tt)
    (is_mul (is u.on_z tt) (is_minor v.on_x v.on_y w.on_x w.on_y c.minor-z.ensures) tt)
    tt).same
    ∙ (λ i. determinant (c.u.view_is i) (c.v.view_is i) (c.w.view_is i))

pub overflow_mul-result : goal.overflow_mul-result
overflow_mul-result c =
    let v = c.v.invariant in
    let w = c.w.invariant in
    fits_mul (is c.u.invariant.on_x tt) (is_minor v.on_y v.on_z w.on_y w.on_z c.minor-x.ensures) tt

pub overflow_mul-result-2 : goal.overflow_mul-result-2
overflow_mul-result-2 c =
    let v = c.v.invariant in
    let w = c.w.invariant in
    fits_mul (is c.u.invariant.on_y tt) (is_minor v.on_x v.on_z w.on_x w.on_z c.minor-y.ensures) tt

pub overflow_sub-result : goal.overflow_sub-result
overflow_sub-result c =
    let u = c.u.invariant in
    let v = c.v.invariant in
    let w = c.w.invariant in
    fits_sub
    (is_mul (is u.on_x tt) (is_minor v.on_y v.on_z w.on_y w.on_z c.minor-x.ensures) tt)
    (is_mul (is u.on_y tt) (is_minor v.on_x v.on_z w.on_x w.on_z c.minor-y.ensures) tt)
    tt

pub overflow_mul-result-3 : goal.overflow_mul-result-3
overflow_mul-result-3 c =
    let v = c.v.invariant in
    let w = c.w.invariant in
    fits_mul (is c.u.invariant.on_z tt) (is_minor v.on_x v.on_y w.on_x w.on_y c.minor-z.ensures) tt

pub overflow_add-result : goal.overflow_add-result
overflow_add-result c =
    let u = c.u.invariant in
    let v = c.v.invariant in
    let w = c.w.invariant in
    fits_add
    (is_sub
    (is_mul (is u.on_x tt) (is_minor v.on_y v.on_z w.on_y w.on_z c.minor-x.ensures) tt)
    (is_mul (is u.on_y tt) (is_minor v.on_x v.on_z w.on_x w.on_z c.minor-y.ensures) tt)
    tt)
    (is_mul (is u.on_z tt) (is_minor v.on_x v.on_y w.on_x w.on_y c.minor-z.ensures) tt)
    tt
