-- A corner that is among the others is pushed behind those that are kept, for which there is room. Assumes nothing.
use Rattle.std.proofs.Common.{◌≡◌, sym, ◌≤◌, ◌<◌, ◌+◌, ◌++◌, ◌∷◌, [], Bool, true, false, List, ℕ, take, length, get_or, zero-le, suc, cond, rules, arith, append-nil}
use Rattle.std.proofs.lemmas.List.Elements.{filter_more}
use Rattle.std.proofs.Math.Seq.{length-take-le}
use Rattle.limits.specs.Limits.{corner_width}
use Rattle.laws.specs.Words.{keep, among}
use Rattle.fit.proofs.common.Common.fill.Goals as goal
use Rattle.fit.proofs.common.Common.fill.Goals.{then-is_among, else-is_among}

-- one corner more
module _ (t : ℕ → Bool) (xs : List ℕ) (i : ℕ) {k : List ℕ} (w : k ≡ keep t (take i xs)) (h : i < length xs) where
  more_yes : t (get_or xs i 0) ≡ true → k ++ (get_or xs i 0 ∷ []) ≡ keep t (take (i + 1) xs)
  more_yes y = rw (filter_more t xs i 0 h, y, w)

  more-no : t (get_or xs i 0) ≡ false → k ≡ keep t (take (i + 1) xs)
  more-no n = rw (filter_more t xs i 0 h, n, w) (sym (append-nil (keep t (take i xs))))

-- fewer are kept than there are corners
keep_few : (t : ℕ → Bool) (xs : List ℕ) → length (keep t xs) ≤ length xs
keep_few t [] = zero-le
keep_few t (x ∷ xs) = go (t x) (keep_few t xs)
  where
    go : (b : Bool) → length (keep t xs) ≤ length xs → length (cond b (x ∷ keep t xs) (keep t xs)) ≤ suc (length xs)
    go true h = omega arith
    go false h = omega arith

room_left : (t : ℕ → Bool) (xs : List ℕ) (i : ℕ) → i < length xs → length xs ≤ corner_width → length (keep t (take i xs)) < corner_width
room_left t xs i h l = omega (arith, keep_few t (take i xs), length-take-le i xs)

pub push-requires : goal.push-requires
push-requires c = rw c.loop-vertex.invariant (room_left (λ (v : ℕ). among v c.args.neighbour.corners.now) c.args.element.corners.now c.loop-vertex.vertex-index c.loop-vertex-test.true c.requires.few)

pub loop-vertex-preserved : goal.loop-vertex-preserved
loop-vertex-preserved c =
    let t = λ (v : ℕ). among v c.args.neighbour.corners.now in
    elim c.if-is_among.branch [
      | then-is_among b ↦ rw (b.self-is, b.push.ensures) (more_yes t c.args.element.corners.now c.loop-vertex.vertex-index c.loop-vertex.invariant c.loop-vertex-test.true (search rules))
      | else-is_among b ↦ rw b.self-is (more-no t c.args.element.corners.now c.loop-vertex.vertex-index c.loop-vertex.invariant c.loop-vertex-test.true (search rules))
    ]
