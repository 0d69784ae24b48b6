-- `text::field::are_fields` counts fields. Assumes nothing.
use Prim.Native.Nat.{ℕ, ◌+◌, ◌-◌}
use native.Mathlib.Omega.{arith}
use mathlib.Core.Path.{◌≡◌, refl, sym, ap, ◌∙◌}
use mathlib.Core.Bool.{Bool, true, false, not}
use mathlib.Core.List.{List, [], ◌∷◌}
use lib.ListN.{length}
use borrow.Author.Tests.{eqb-true, eqb-false, ne_eqb}
use Rattle.std.specs.Prelude.{Option, Some, None, IfNone, IfSome, is_some}
use Rattle.limits.specs.Limits.{space}
use Rattle.laws.specs.Pieces.{Pieces, rest, piece, split}
use Rattle.format.specs.Line.{are_fields}
use Rattle.format.proofs.FieldLaws.{none_wanted, fields_empty, fields_more, fields_last, fields_other}
use Rattle.text.proofs.field.are_fields.Goals as goal

-- one is wanted, and a space stands behind the first
one_more : (l : List ℕ) (p : Pieces) → are_fields 1 (piece l p) ≡ false
unfolding are_fields
one_more [] p = refl
one_more (x ∷ l) (rest m) = refl
one_more (x ∷ l) (piece m p) = refl

-- one is wanted, and nothing is left
one_lacks : (t : List ℕ) → length t ≡ 0 → are_fields 1 (split space t) ≡ false
unfolding are_fields split
one_lacks [] e = refl
one_lacks (x ∷ t) e = absurd (omega arith)

-- one is wanted, and something is left: it is one if no space stands in it
one_left : {A : Type 0} (f g : A → List ℕ) (t : List ℕ) (r : Option A) → (length t ≡ 0 → ⊥)
    → IfNone r (split space t ≡ rest t) → IfSome r (λ p. split space t ≡ piece (f p) (split space (g p))) → not (is_some r) ≡ are_fields 1 (split space t)
one_left f g t None z w p = sym (rw w (fields_last t ∙ rw (ne_eqb (length t) 0 z)))
one_left f g t (Some x) z w p = sym (rw p (one_more _ _))

none_told : (some none : Bool) → some ≡ not none → none ≡ not some
none_told some true e = sym (ap not e)
none_told some false e = sym (ap not e)

pub returns-then-n-eq0 : goal.returns-then-n-eq0
returns-then-n-eq0 c = sym (rw c.if-n-eq0.true (none_wanted _))

pub loop-init : goal.loop-init
loop-init c = ap (λ (m : ℕ). are_fields m (split space c.args.s.now)) (omega arith)

pub returns-in_default : goal.returns-in_default
returns-in_default c = sym (c.loop.invariant ∙ rw c.in_default.ensures.whole (fields_other _ _ (λ e. omega (arith, c.loop-test.true, e))))

pub returns-then-is_empty : goal.returns-then-is_empty
returns-then-is_empty c = sym (c.loop.invariant ∙ rw c.in-Some.ensures.parts (fields_empty _ _ _ (eqb-true _ _ (sym c.is_empty.ensures ∙ c.if-is_empty.true))))

pub loop-preserved : goal.loop-preserved
loop-preserved c =
    let more = fields_more (c.args.n + 1 - c.loop.counter) c.in-Some.field.now (split space c.in-Some.more.now) (λ e. omega (arith, c.loop-test.true, e))
    (eqb-false _ _ (sym c.is_empty.ensures ∙ c.if-is_empty.false)) in
    let less : c.args.n + 1 - c.loop.counter - 1 ≡ c.args.n + 1 - (c.loop.counter + 1) = omega arith in
    c.loop.invariant ∙ rw c.in-Some.ensures.parts (more ∙ ap (λ (m : ℕ). are_fields m (split space c.in-Some.more.now)) less)

pub returns-then-not-is_empty : goal.returns-then-not-is_empty
returns-then-not-is_empty c =
    let one : c.args.n + 1 - c.loop.counter ≡ 1 = omega (arith, c.loop-test.false, c.if-n-eq0.false, c.loop.auto.counter-end) in
    let r = c.split_once-then-not-is_empty.ensures in
    none_told _ _ c.is_none.ensures
    ∙ one_left _ _ _ _ (eqb-false _ _ (sym c.is_empty-2.ensures ∙ c.if-not-is_empty.true)) r.whole r.parts
    ∙ sym (c.loop.invariant ∙ ap (λ (m : ℕ). are_fields m (split space c.loop.rest.now)) one)

pub returns-else-not-is_empty : goal.returns-else-not-is_empty
returns-else-not-is_empty c =
    let one : c.args.n + 1 - c.loop.counter ≡ 1 = omega (arith, c.loop-test.false, c.if-n-eq0.false, c.loop.auto.counter-end) in
    rw c.if-not-is_empty.false
    (sym (c.loop.invariant ∙ ap (λ (m : ℕ). are_fields m (split space c.loop.rest.now)) one
    ∙ one_lacks _ (eqb-true _ _ (sym c.is_empty-2.ensures ∙ c.if-not-is_empty.false))))
