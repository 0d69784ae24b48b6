-- `signs::counting::element_counts` meets its contract: the tetrahedra of the block by sign, and whether the element is sound. Assumes nothing.
use Rattle.std.proofs.Common.{◌≡◌, ◌∙◌, refl, ap, Bool, true, false, cond, not, ◌+◌}
use mir.Val.{bool_byte}
use Rattle.signs.proofs.SignCountLaws.{sound_by_tally, counts_of_one}
use Rattle.signs.proofs.counting.element_counts.Goals as goal

one_if : (b : Bool) → bool_byte b ≡ cond b 1 0 + 0
one_if true = refl
one_if false = refl

pub returns : goal.returns
returns c =
    let table = c.args.vertices.now in
    let t = c.tally_block-tally.ensures in
    counts_of_one table t (c.from.ensures ∙ ap (λ b. bool_byte (not b)) (c.is_sound.ensures ∙ sound_by_tally table t) ∙ one_if _)
