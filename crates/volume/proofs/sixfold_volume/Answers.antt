-- `volume::sixfold_volume` meets its contract: each answer follows from the tests that led to it. Assumes nothing.
use mathlib.Core.Path.{◌≡◌, ◌∙◌}
use lib.IntN.{ℤ}
use mir.Syntax.{w64}
use mir.Val.{SFits, to_z, of_z}
use mir.Facts.{to_z-of_z}
use Rattle.std.proofs.lemmas.Result.{err_from_is_err_and}
use Rattle.volume.specs.declared.Point.{Point}
use Rattle.volume.specs.Volume.{Row}
use Rattle.volume.specs.Volume.{minus, determinant, sixfold}
use Rattle.volume.proofs.VerdictLaws.{first_beyond, second_beyond, third_beyond, fourth_beyond, none_beyond}
use Rattle.volume.proofs.sixfold_volume.Goals as goal

-- the volume, as a call on three rows gives it
volume_of : (a b c d : Point) {u v w : Row} {z : ℤ} → SFits w64 z → z ≡ determinant u v w → u ≡ minus b a → v ≡ minus c a → w ≡ minus d a
    → to_z w64 (of_z w64 z) ≡ sixfold a b c d
unfolding sixfold
volume_of a b c d f e p q r = to_z-of_z f ∙ e ∙ (λ i. determinant (p i) (q i) (r i))

pub returns-in_err-ranged : goal.returns-in_err-ranged
returns-in_err-ranged c =
    let p = err_from_is_err_and c.from_residual.result c.from_residual.ensures.1 in
    rw (p.1, p.2) (first_beyond c.in_err-ranged.ensures.err)

pub returns-in_err-ranged-2 : goal.returns-in_err-ranged-2
returns-in_err-ranged-2 c =
    let p = err_from_is_err_and c.from_residual-in_err-ranged-2.result c.from_residual-in_err-ranged-2.ensures.1 in
    rw (p.1, p.2) (second_beyond c.in_ok-ranged.ensures.ok c.in_err-ranged-2.ensures.err)

pub returns-in_err-ranged-3 : goal.returns-in_err-ranged-3
returns-in_err-ranged-3 c =
    let p = err_from_is_err_and c.from_residual-in_err-ranged-3.result c.from_residual-in_err-ranged-3.ensures.1 in
    rw (p.1, p.2) (third_beyond c.in_ok-ranged.ensures.ok c.in_ok-ranged-2.ensures.ok c.in_err-ranged-3.ensures.err)

pub returns-in_err-ranged-4 : goal.returns-in_err-ranged-4
returns-in_err-ranged-4 c =
    let p = err_from_is_err_and c.from_residual-in_err-ranged-4.result c.from_residual-in_err-ranged-4.ensures.1 in
    rw (p.1, p.2) (fourth_beyond c.in_ok-ranged.ensures.ok c.in_ok-ranged-2.ensures.ok c.in_ok-ranged-3.ensures.ok c.in_err-ranged-4.ensures.err)

pub returns : goal.returns
returns c =
    none_beyond
    (volume_of c.args.a c.args.b c.args.c c.args.d (record { sfits = c.determinant.type_inv }) c.determinant.ensures
    c.minus-u.ensures c.minus-v.ensures c.minus-w.ensures)
    c.in_ok-ranged.ensures.ok
    c.in_ok-ranged-2.ensures.ok
    c.in_ok-ranged-3.ensures.ok
    c.in_ok-ranged-4.ensures.ok
