-- `fit::pair_fits` meets its contract: the three ways to fit are tried in the definition's order.
-- Assumes nothing.
use Rattle.std.proofs.Common.{◌≡◌, ◌∙◌, ℕ, ◌≤◌, ◌<◌, Bool, true, false, ◌&&◌, List, length, take, arith}
use Rattle.std.proofs.Math.ListN.{length-take}
use borrow.Author.Tests.{le-leb, lt-leb}
use Rattle.solids.specs.declared.Solid.{Solid}
use Rattle.solids.specs.Solids.{Element, element}
use Rattle.solids.specs.Fit.{common, has_edge, share_face, fits}
use Rattle.records.specs.Record.{kind_of, numbers_of, used_of, element_of}
use Rattle.fit.proofs.pair_fits.Goals as goal

-- at most eight corners
used_few : (r : List ℕ) {s : Solid} {vs : List ℕ} → element s vs ≡ element_of r → length vs ≤ 8
unfolding element_of used_of numbers_of
used_few r {s} {vs} e =
    let u : vs ≡ take (kind_of r) (numbers_of r) = cc in
    rw (u, length-take (kind_of r) (numbers_of r), length-take 8) (omega arith)

-- the three ways to fit, c being the common vertices
module _ {e x e' x' : Element} {c : List ℕ} (p : e ≡ e') (q : x ≡ x') (these : c ≡ common e x) where
  few : length c ≤ 1 → true ≡ fits e' x'
  unfolding fits
  few h = rw (← p, ← q, ← these, le-leb (length c) 1 h)

  module _ (h : 1 < length c) {k : Bool} (tested : k ≡ (has_edge c e && has_edge c x)) where
    edge : k ≡ true → true ≡ fits e' x'
    unfolding fits
    edge t = rw (← p, ← q, ← these, lt-leb (length c) 1 h, ← tested, t)

    face : k ≡ false → {l : Bool} → l ≡ share_face c e x → l ≡ fits e' x'
    unfolding fits
    face t s = rw (← p, ← q, ← these, lt-leb (length c) 1 h, ← tested, t) s

pub fill-requires-clause-few : goal.fill-requires-clause-few
fill-requires-clause-few c = used_few c.args.a.now c.of.ensures

pub returns-then-vertices-le1 : goal.returns-then-vertices-le1
returns-then-vertices-le1 c = few c.of.ensures c.of-2.ensures (c.as_slice-vertices.ensures ∙ c.fill.ensures) c.if-vertices-le1.true

pub returns-then-share_edge : goal.returns-then-share_edge
returns-then-share_edge c =
    c.if-share_edge.true
    ∙ edge c.of.ensures c.of-2.ensures (c.as_slice-vertices.ensures ∙ c.fill.ensures) c.if-vertices-le1.false c.share_edge.ensures c.if-share_edge.true

pub returns-else-share_edge : goal.returns-else-share_edge
returns-else-share_edge c =
    face c.of.ensures c.of-2.ensures (c.as_slice-vertices.ensures ∙ c.fill.ensures) c.if-vertices-le1.false c.share_edge.ensures c.if-share_edge.false c.share_face.ensures
