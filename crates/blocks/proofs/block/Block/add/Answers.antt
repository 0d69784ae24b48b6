-- At each place the lower key stays and the greater goes on, so the key of the written form ends at its place.
-- Assumes nothing.
use Rattle.std.proofs.Common.{◌≡◌, refl, sym, ap, ◌∙◌, ◌<◌, length, take, drop, arith, length-append, length-drop}
use Rattle.std.proofs.lemmas.List.{length-map, length-take-le}
use Rattle.solids.specs.Cut.{insert}
use Rattle.tets.specs.Tets.{keyed}
use Rattle.blocks.proofs.InsertLaws.{swept-more, Through, all-inserted, all-ascending}
use Rattle.blocks.proofs.block.Block.add.Goals as goal

pub loop-other-init : goal.loop-other-init
loop-other-init c = refl

pub loop-other-preserved : goal.loop-other-preserved
loop-other-preserved c =
    let l = c.loop-other in
    l.invariant ∙ swept-more l.key l.other-items l.other-index (omega arith) c.min-lower.ensures c.max-key.ensures

room : (c : goal.After-self-1) → c.self.inside.len < 6
room c =
    let l = take c.self.inside.len c.self.inside.keys in
    omega (arith, c.requires, length-take-le c.self.inside.len c.self.inside.keys (omega arith), sym (length-map l keyed) ∙ ap length c.self.view_is)

through : (c : goal.After-self-1) → Through c.self.inside.keys c.self.inside.len c.from-key.result c.loop-other.other-items c.loop-other.key c.loop-other.other-index
through c =
    let l = c.self.inside.keys in
    let n = c.self.inside.len in
    let xs = c.loop-other.other-items in
    let whole : length (take n l) ≡ n = length-take-le n l (omega arith) in
    record {
      ascending = c.self.invariant.1;
      same = c.loop-other.invariant;
      many = omega arith;
      end = omega arith;
      long = omega (arith, room c, length-append xs (drop n l), length-drop n l);
    }

pub invariant_of-self : goal.invariant_of-self
invariant_of-self c = (omega (arith, room c), all-ascending (through c))

pub returns : goal.returns
returns c = all-inserted (through c) ∙ (λ i. insert ((c.from-key.ensures ∙ c.written_form.ensures) i) (c.self.view_is i))
