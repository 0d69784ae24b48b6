-- The kind is passed first; then each place's vertex number is low, so that its chain is one of those kept, and the place is filed.
-- Assumes nothing.
use Rattle.std.proofs.Common.{◌≡◌, refl, ap, subst, ℕ, ◌+◌, ◌*◌, ◌%◌, ◌<◌, ◌≤◌, List, get_or, arith}
use Rattle.std.proofs.Math.ListN.{set}
use Rattle.limits.specs.Limits.{element_width}
use Rattle.judging.specs.Chained.{Chained, Numbered, Filed}
use Rattle.judging.proofs.ChainLaws.{filed-kind, filed_more, numbered-next}
use Rattle.judging.proofs.chains.Chains.file_next.Goals as goal

-- x is a place of record j, and its vertex number is low
module _ (t : List ℕ) (j x : ℕ) (h : element_width * j < x) (l : x < element_width * j + element_width) where
  place : 0 < x % element_width
  place = omega arith

  low-here : {v : ℕ} → Numbered t (j + 1) → v ≡ get_or t x 0 → v ≤ 4096
  low-here n e = rw e (n.low x (omega arith) place)

  filed-here : {v : ℕ} {heads links : List ℕ} → Numbered t (j + 1) → v ≡ get_or t x 0 → Filed t x heads links
      → Filed t (x + 1) (set heads v x) (set links x (get_or heads v 0))
  filed-here {v} n e w = filed_more t x w place v e (low-here n e) (omega (arith, n.table.few))

-- the places are filed up to the end of the record
filed-all : (t : List ℕ) (j x : ℕ) {heads links : List ℕ} → element_width * j + 9 ≤ x → x ≤ element_width * j + 9 → Filed t x heads links → Filed t (element_width * (j + 1)) heads links
filed-all t j x {heads} {links} h l w = let e : x ≡ element_width * (j + 1) = omega arith in subst (λ (m : ℕ). Filed t m heads links) e w

pub loop-x-init : goal.loop-x-init
loop-x-init c = record { table = refl; count = refl; filed = refl; places = filed-kind c.self.inside.table.elements.now c.self.inside.filed c.self.invariant }

pub bounds-self-inside-x : goal.bounds-self-inside-x
bounds-self-inside-x c =
    let n = numbered-next (rw (← c.self.view_is) at c.requires) c.self.inside.table.numbered in
    rw c.loop-x.invariant.table (omega (arith, n.table.long))

pub bounds-self-inside-v : goal.bounds-self-inside-v
bounds-self-inside-v c =
    let n = numbered-next (rw (← c.self.view_is) at c.requires) c.self.inside.table.numbered in
    let low = low-here c.self.inside.table.elements.now c.self.inside.filed c.loop-x.x (omega arith) c.loop-x-test.true n (rw c.loop-x.invariant.table at c.from-v.ensures) in
    omega arith

pub bounds-self-inside-v-in-loop-x : goal.bounds-self-inside-v-in-loop-x
bounds-self-inside-v-in-loop-x c =
    let n = numbered-next (rw (← c.self.view_is) at c.requires) c.self.inside.table.numbered in
    let low = low-here c.self.inside.table.elements.now c.self.inside.filed c.loop-x.x (omega arith) c.loop-x-test.true n (rw c.loop-x.invariant.table at c.from-v.ensures) in
    omega arith

pub loop-x-preserved : goal.loop-x-preserved
loop-x-preserved c =
    let i = c.loop-x.invariant in
    let n = numbered-next (rw (← c.self.view_is) at c.requires) c.self.inside.table.numbered in
    record {
      table = i.table;
      count = i.count;
      filed = i.filed;
      places = filed-here c.self.inside.table.elements.now c.self.inside.filed c.loop-x.x (omega arith) c.loop-x-test.true n (rw i.table at c.from-v.ensures) i.places;
    }

pub overflow_add-self : goal.overflow_add-self
overflow_add-self c =
    let n = numbered-next (rw (← c.self.view_is) at c.requires) c.self.inside.table.numbered in
    rw c.loop-x.invariant.filed (omega (arith, n.table.few))

pub invariant_of-self : goal.invariant_of-self
invariant_of-self c =
    let i = c.loop-x.invariant in
    rw (i.table, i.filed) (filed-all c.self.inside.table.elements.now c.self.inside.filed c.loop-x.x c.loop-x-test.false (c.loop-x.auto.x-end (omega arith)) i.places)

pub returns : goal.returns
returns c =
    let i = c.loop-x.invariant in
    rw (i.table, i.count, i.filed) (ap (λ (s : Chained). record s { filed = s.filed + 1 }) c.self.view_is)
