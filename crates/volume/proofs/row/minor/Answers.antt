-- `volume::row::minor` meets its contract: both products and their difference fit an i64. Assumes nothing.
use Rattle.laws.proofs.SizeLaws.{is, fits_sub, is_sub, is_mul}
use Rattle.volume.specs.Volume.{minor}
use Rattle.volume.proofs.row.minor.Goals as goal

pub returns : goal.returns
unfolding minor
returns c =
    let r = c.requires in
    (is_sub (is_mul (is r.within tt) (is r.within_4 tt) tt) (is_mul (is r.within_2 tt) (is r.within_3 tt) tt) tt).same

pub overflow_sub-result : goal.overflow_sub-result
overflow_sub-result c =
    let r = c.requires in
    fits_sub (is_mul (is r.within tt) (is r.within_4 tt) tt) (is_mul (is r.within_2 tt) (is r.within_3 tt) tt) tt
