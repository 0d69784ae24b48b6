-- The next place of the chain is the vertex's next; an element that does not fit is a misfit of the next one; at the chain's end each element is met.
-- Assumes nothing.
use Rattle.std.proofs.Common.{◌≡◌, ◌∙◌, ap, subst, sym, ℕ, ◌*◌, ◌/◌, ◌<◌, ◌≤◌, Bool, true, false, List, get_or, arith}
use lib.Dec.{T}
use Rattle.limits.specs.Limits.{element_width}
use Rattle.judging.specs.declared.chains.Mark.{Mark}
use Rattle.judging.specs.Chained.{holds, latest, Filed}
use Rattle.judging.specs.Marks.{Seen, Met, Walked}
use Rattle.judging.proofs.ChainLaws.{On, on_start, on_next, holds-place, holds-vertex, latest_less, misfit-some}
use Rattle.judging.proofs.chains.Chains.chain_fits.Goals as goal

-- the element of place x is before j, and the place before x of the same vertex is the next of the chain
module _ {t : List ℕ} {j v x : ℕ} {old new : List Mark} (w : On t j v old new x) (h : 0 < x) where
  early : x / element_width < j
  early = let l = w.less h in omega arith

  next_place : {heads links : List ℕ} {y : ℕ} → Filed t (element_width * j) heads links → y ≡ get_or links x 0 → y ≡ latest (holds t v) x
  next_place f e = e ∙ f.next x (w.less h) (holds-place t v x (w.here h)) ∙ ap (λ u. latest (holds t u) x) (holds-vertex t v x (w.here h))

  -- an element of the chain does not fit
  missed : {r : Bool} {marks : List Mark} → Met t (x / element_width) j new marks r → r ≡ false → Walked t j v old marks false
  missed m e = record {
    seen = m.seen;
    grown = λ k l. m.grown k (w.grown k l);
    marked = λ z. absurd (subst T (sym z) tt);
    again = λ z. absurd (subst T (sym z) tt);
    bad = λ z. misfit-some t (x / element_width) j early (m.bad e);
  }

-- the chain is at its end
walked : {t : List ℕ} {j v x : ℕ} {old new : List Mark} → On t j v old new x → x ≤ 0 → Seen t j new → Walked t j v old new true
walked {t} {j} {v} {x} w h s = record {
  seen = s;
  grown = w.grown;
  marked = λ z y l p. w.marked y (let a = holds-place t v y p in omega arith) l p;
  again = λ z y l p. w.again y (let a = holds-place t v y p in omega arith) l p;
  bad = λ z. absurd (subst T z tt);
}

pub loop-x-init : goal.loop-x-init
loop-x-init c =
    let s = c.self.inside in
    let v = c.args.vertex.0 in
    let w = rw (← c.self.view_is) at c.requires in (
      on_start s.table.elements.now s.filed v c.args.marks.now c.from-x.result ((rw c.from.ensures at c.from-x.ensures) ∙ c.self.invariant.first v w.low),
      w.seen,
    )

pub meet-requires : goal.meet-requires
meet-requires c =
    let i = c.loop-x.invariant in
    let w = rw (← c.self.view_is) at c.requires in
    record { table = w.table; early = early i.0 c.loop-x-test.true; seen = i.1 }

pub returns-then-not-meet : goal.returns-then-not-meet
returns-then-not-meet c = rw (← c.self.view_is) (missed c.loop-x.invariant.0 c.loop-x-test.true c.meet.ensures c.if-not-meet.true)

pub loop-x-smaller : goal.loop-x-smaller
loop-x-smaller c =
    let e = next_place c.loop-x.invariant.0 c.loop-x-test.true c.self.invariant c.from-x-in-loop-x.ensures in
    let n = latest_less _ c.loop-x.x c.loop-x-test.true in
    rw e n

pub loop-x-preserved : goal.loop-x-preserved
loop-x-preserved c =
    let s = c.self.inside in
    let i = c.loop-x.invariant.0 in
    let h = c.loop-x-test.true in
    let m = c.meet.ensures in
    let y = c.from-x-in-loop-x in (
      on_next s.table.elements.now s.filed c.args.vertex.0 c.args.marks.now c.loop-x.x y.result i h m c.if-not-meet.false (next_place i h c.self.invariant y.ensures),
      m.seen,
    )

pub returns : goal.returns
returns c = rw (← c.self.view_is) (walked c.loop-x.invariant.0 c.loop-x-test.false c.loop-x.invariant.1)
