-- Each corner of the next element meets the filed elements that hold its vertex, and tests those that were met; where none of them is a misfit, none is.
-- Assumes nothing.
use Rattle.std.proofs.Common.{◌≡◌, refl, ◌∙◌, ap, subst, ℕ, ◌+◌, ◌*◌, ◌/◌, ◌<◌, ◌≤◌, Bool, true, false, not, eqb, ltb, List, length, get_or, arith}
use borrow.Author.Tests.{eqb-true, eqb-false}
use Rattle.limits.specs.Limits.{element_width}
use Rattle.records.specs.Record.{used_of, record_at}
use Rattle.records.specs.WholeRecords.{WholeTable}
use Rattle.judging.specs.declared.chains.Mark.{Mark}
use Rattle.judging.specs.Judge.{pair_fits, misfit}
use Rattle.judging.specs.Chained.{Chained, Numbered, holds}
use Rattle.judging.specs.Marks.{met, Walked}
use Rattle.judging.proofs.ChainLaws.{corner_of, corner-low, numbered-next, seen_start, misfit-none}
use Rattle.judging.proofs.chains.Chains.fits_next.Invariants.{Passed}
use Rattle.judging.proofs.chains.Chains.fits_next.Goals as goal

passed_more : {t : List ℕ} {j k v : ℕ} {old new : List Mark} {b : Bool} → Passed t j k old → v ≡ corner_of t j k → Walked t j v old new b → b ≡ true → Passed t j (k + 1) new
passed_more {t} {j} {k} {v} {old} {new} w f h e = record {
  seen = h.seen;
  once = λ a l. one a l (eqb a k) refl;
  twice = λ a b l m. two a b l m (eqb b k) refl;
}
  where
    one : (a : ℕ) → a < k + 1 → (d : Bool) → eqb a k ≡ d → (y : ℕ) → y < element_width * j → holds t (corner_of t j a) y ≡ true → met new (y / element_width) ≡ true
    one a l true q y m g = h.marked e y m (rw f (rw (eqb-true a k q) at g))
    one a l false q y m g = let n = eqb-false a k q in h.grown (y / element_width) (w.once a (omega arith) y m g)

    two : (a b : ℕ) → a < b → b < k + 1 → (d : Bool) → eqb b k ≡ d → (y z : ℕ) → y < element_width * j → z < element_width * j → y / element_width ≡ z / element_width
        → holds t (corner_of t j a) y ≡ true → holds t (corner_of t j b) z ≡ true → pair_fits t (z / element_width) j ≡ true
    two a b l m true q y z i n o g p =
        let u = eqb-true b k q in
        h.again e z n (rw f (rw u at p)) (rw o at (w.once a (omega arith) y i g))
    two a b l m false q y z i n o g p = let u = eqb-false b k q in w.twice a b l (omega arith) y z i n o g p

none_left : {t : List ℕ} {j k : ℕ} {marks : List Mark} → Passed t j k marks → WholeTable t (j + 1) → length (used_of (record_at t j)) ≤ k → true ≡ not (ltb 0 (misfit t j))
none_left {t} {j} w whole h = rw (misfit-none t j whole (λ a b l m. w.twice a b l (omega arith)))

-- the corners that are gone through are those of the next element
module _ {s u : Chained} {r items : List ℕ} (e : s ≡ u) (f : r ≡ record_at s.table s.filed) (g : items ≡ used_of r) where
  its-corners : items ≡ used_of (record_at u.table u.filed)
  its-corners = g ∙ ap used_of (f ∙ ap (λ (v : Chained). record_at v.table v.filed) e)

-- the next element's vertex numbers are low
numbered_of : {s u : Chained} → s ≡ u → u.filed < u.count → Numbered s.table s.count → Numbered u.table (u.filed + 1)
numbered_of e l h = numbered-next l (subst (λ (v : Chained). Numbered v.table v.count) e h)

pub loop-vertex-init : goal.loop-vertex-init
loop-vertex-init c = record {
  seen = seen_start c.args.self.now.table c.args.self.now.filed;
  once = λ a l. absurd (omega arith);
  twice = λ a b l m. absurd (omega arith);
}

pub chain_fits-requires : goal.chain_fits-requires
chain_fits-requires c =
    let s = c.args.self.now in
    let k = c.loop-vertex.vertex-index in
    let e = its-corners c.self.view_is c.record_at.ensures c.corners_of-vertex-items.ensures in
    let n = numbered_of c.self.view_is c.requires c.self.inside.table.numbered in
    record {
      table = n.table;
      low = rw e (corner-low s.table s.filed k n (rw e at c.loop-vertex-test.true));
      seen = c.loop-vertex.invariant.seen;
    }

pub loop-vertex-preserved : goal.loop-vertex-preserved
loop-vertex-preserved c =
    let k = c.loop-vertex.vertex-index in
    let e = its-corners c.self.view_is c.record_at.ensures c.corners_of-vertex-items.ensures in
    passed_more c.loop-vertex.invariant (ap (λ (l : List ℕ). get_or l k 0) e) c.chain_fits.ensures c.if-not-chain_fits.false

pub returns : goal.returns
returns c =
    let e = its-corners c.self.view_is c.record_at.ensures c.corners_of-vertex-items.ensures in
    let n = numbered_of c.self.view_is c.requires c.self.inside.table.numbered in
    none_left c.loop-vertex.invariant n.table (rw e at c.loop-vertex-test.false)
