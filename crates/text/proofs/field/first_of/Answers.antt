-- `text::field::first_of` says what the first fields say. Assumes nothing.
use native.Mathlib.Omega.{arith}
use mathlib.Core.Path.{refl}
use lib.ListN.{length-set, length-replicate}
use Rattle.std.proofs.lemmas.Fn.{says_at}
use Rattle.text.proofs.FirstLaws.{said_none, said_more, said_all}
use Rattle.text.proofs.field.first_of.Goals as goal

pub loop-place-init : goal.loop-place-init
loop-place-init g c = (length-replicate _ _, λ f s. said_none f _ _ _ (length-replicate _ _))

pub loop-place-preserved : goal.loop-place-preserved
loop-place-preserved g c =
    let l = c.loop-place in (
      simp length-set l.invariant.0,
      λ f s. said_more f _ _ _ _ _ (l.invariant.1 f s) (omega (arith, l.invariant.0)) c.first_field.ensures (s _ _ (says_at _ c.value.ensures refl)),
    )

pub returns : goal.returns
returns g c = λ f s. said_all f _ _ (c.loop-place.invariant.1 f s) (omega (arith, c.loop-place.invariant.0))
